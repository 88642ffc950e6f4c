use Rattle.std.proofs.Common.{◌<◌, ◌+◌, leb, count_by, arith}
use Rattle.zair_form.specs.declared.step.Beam.{Beam}
use Rattle.zair_state.specs.State.{HasId}
use Rattle.zair_state.proofs.Minima.{least_start, least_more, least_whole, same_trans, ids_with, told_less}
use Rattle.zair_machine.proofs.beams.least_too_many.Goals as goal

pub loop-b-init : goal.loop-b-init
loop-b-init c = least_start (λ (b : Beam). b.id) (λ (b : Beam). c.args.most < count_by (λ (x : Beam). leb x.id b.id) c.args.beams.now + count_by (λ (x : Beam). leb x.id b.id) c.args.others.now)

pub loop-b-preserved : goal.loop-b-preserved
loop-b-preserved c =
    rw c.lesser_id_if-least.ensures (least_more (λ (b : Beam). b.id) (λ (b : Beam). c.args.most < count_by (λ (x : Beam). leb x.id b.id) c.args.beams.now + count_by (λ (x : Beam). leb x.id b.id) c.args.others.now) c.args.beams.now c.loop-b.b-index _ _ c.loop-b.least c.loop-b-test.true (same_trans _ _ _ (told_less c.from.result c.saturating_add-count.result) (λ h. omega (arith, h, c.from.ensures, c.saturating_add-count.ensures, c.count_up_to.ensures, c.count_up_to-in-loop-b.ensures), λ h. omega (arith, h, c.from.ensures, c.saturating_add-count.ensures, c.count_up_to.ensures, c.count_up_to-in-loop-b.ensures))) c.loop-b.invariant)

pub returns : goal.returns
returns c =
    least_whole (λ (b : Beam). b.id) (λ (b : Beam). c.args.most < count_by (λ (x : Beam). leb x.id b.id) c.args.beams.now + count_by (λ (x : Beam). leb x.id b.id) c.args.others.now) (λ id. HasId c.args.beams.now id × (c.args.most < count_by (λ (x : Beam). leb x.id id) c.args.beams.now + count_by (λ (x : Beam). leb x.id id) c.args.others.now)) c.args.beams.now c.loop-b.b-index c.loop-b.least c.loop-b-test.false (ids_with c.args.beams.now (λ id. c.args.most < count_by (λ (x : Beam). leb x.id id) c.args.beams.now + count_by (λ (x : Beam). leb x.id id) c.args.others.now)) c.loop-b.invariant
