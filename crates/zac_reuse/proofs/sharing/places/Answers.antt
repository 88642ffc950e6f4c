use Rattle.std.proofs.Common.{◌≡◌, ℕ, nat_eq, length, subst, arith}
use Rattle.std.specs.HashMap.{get}
use Rattle.zac_reuse.specs.Sharing.{ArePlaces}
use Rattle.zac_reuse.proofs.SharingFacts.{ArePlaces-note}
use Rattle.zac_reuse.proofs.sharing.places.Goals as goal

pub loop-place-preserved : goal.loop-place-preserved
loop-place-preserved c =
    ArePlaces-note c.args.ops.now c.args.pulse.now (get nat_eq c.loop-place.found) (get nat_eq c.note.new.places) c.loop-place.place c.pair_at.result.0 c.pair_at.result.1 c.requires c.loop-place-test.true
    c.pair_at.ensures c.in_ok-note.ensures.first c.in_ok-note.ensures.second c.in_ok-note.ensures.others c.loop-place.invariant

pub returns : goal.returns
returns c =
    let all : c.loop-place.place ≡ length c.args.pulse.now = omega arith in
    subst (λ (n : ℕ). ArePlaces c.args.ops.now c.args.pulse.now (get nat_eq c.loop-place.found) n) all c.loop-place.invariant
