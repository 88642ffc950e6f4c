use Rattle.zair_form.specs.declared.step.Beam.{Beam}
use Rattle.zair_state.specs.State.{HasId}
use Rattle.zair_state.proofs.Minima.{least_start, least_more, least_whole, any_id, not_same, same_trans, ids_with}
use Rattle.zair_machine.proofs.beams.least_not_in.Goals as goal

pub loop-b-init : goal.loop-b-init
loop-b-init c = least_start (λ (b : Beam). b.id) (λ b. ¬ HasId c.args.others.now b.id)

pub loop-b-preserved : goal.loop-b-preserved
loop-b-preserved c =
    rw c.lesser_id_if-least.ensures (least_more (λ (b : Beam). b.id) (λ b. ¬ HasId c.args.others.now b.id) c.args.beams.now c.loop-b.b-index _ _ c.loop-b.least c.loop-b-test.true (not_same c.has_id.result _ (same_trans _ _ _ c.has_id.ensures (any_id c.args.others.now _))) c.loop-b.invariant)

pub returns : goal.returns
returns c =
    least_whole (λ (b : Beam). b.id) (λ b. ¬ HasId c.args.others.now b.id) (λ id. HasId c.args.beams.now id × ¬ HasId c.args.others.now id) c.args.beams.now c.loop-b.b-index c.loop-b.least c.loop-b-test.false (ids_with c.args.beams.now (λ id. ¬ HasId c.args.others.now id)) c.loop-b.invariant
