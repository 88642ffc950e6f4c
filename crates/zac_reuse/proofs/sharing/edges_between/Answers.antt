use Rattle.std.proofs.Common.{◌≡◌, ℕ, List, nat_eq, length, subst, sym, arith}
use Rattle.std.specs.HashMap.{get}
use Rattle.zac_reuse.specs.Sharing.{AreShared}
use Rattle.zac_reuse.proofs.SharingFacts.{AreShared-more}
use Rattle.zac_reuse.proofs.sharing.edges_between.Goals as goal

pub loop-place-preserved : goal.loop-place-preserved
loop-place-preserved c =
    AreShared-more c.args.ops.now c.args.first.now c.args.second.now (get nat_eq c.in_ok-found.found) c.loop-place.pairs.items c.link.new.pairs.items c.link-in-loop-place.new.pairs.items c.loop-place.place c.pair_at-a.result.0 c.pair_at-a.result.1
    c.in_ok-found.ensures c.loop-place-test.true c.pair_at-a.ensures c.in_ok-link.ensures c.in_ok-link-2.ensures c.loop-place.invariant

pub returns-clause-shared : goal.returns-clause-shared
returns-clause-shared c =
    let all : c.loop-place.place ≡ length c.args.second.now = omega arith in
    subst (λ (l : List (ℕ × ℕ)). AreShared c.args.ops.now c.args.first.now c.args.second.now l (length c.args.second.now)) (sym c.of.ensures)
    (subst (λ (n : ℕ). AreShared c.args.ops.now c.args.first.now c.args.second.now c.loop-place.pairs.items n) all c.loop-place.invariant)
