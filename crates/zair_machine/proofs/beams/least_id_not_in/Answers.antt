use Rattle.std.proofs.Common.{ℕ}
use Rattle.std.specs.List.{Contains}
use Rattle.zair_state.specs.State.{HasId}
use Rattle.zair_state.proofs.Minima.{least_start, least_more, least_whole, any_id, not_same, same_trans, listed_with}
use Rattle.zair_machine.proofs.beams.least_id_not_in.Goals as goal

pub loop-id-init : goal.loop-id-init
loop-id-init c = least_start (λ (i : ℕ). i) (λ i. ¬ HasId c.args.beams.now i)

pub loop-id-preserved : goal.loop-id-preserved
loop-id-preserved c =
    rw c.lesser_id_if-least.ensures (least_more (λ (i : ℕ). i) (λ i. ¬ HasId c.args.beams.now i) c.args.ids.now c.loop-id.id-index _ _ c.loop-id.least c.loop-id-test.true (not_same c.has_id.result _ (same_trans _ _ _ c.has_id.ensures (any_id c.args.beams.now _))) c.loop-id.invariant)

pub returns : goal.returns
returns c =
    least_whole (λ (i : ℕ). i) (λ i. ¬ HasId c.args.beams.now i) (λ id. Contains c.args.ids.now id × ¬ HasId c.args.beams.now id) c.args.ids.now c.loop-id.id-index c.loop-id.least c.loop-id-test.false (listed_with c.args.ids.now (λ id. ¬ HasId c.args.beams.now id)) c.loop-id.invariant
