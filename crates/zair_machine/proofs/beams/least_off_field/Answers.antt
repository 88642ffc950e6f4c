use Rattle.std.proofs.Common.{◌<◌}
use Rattle.zair_form.specs.declared.step.Beam.{Beam}
use Rattle.zair_state.specs.Faults.{IsOffField}
use Rattle.zair_state.proofs.Minima.{least_start, least_more, least_whole, told_less, off_with}
use Rattle.zair_machine.proofs.beams.least_off_field.Goals as goal

pub loop-b-init : goal.loop-b-init
loop-b-init c = least_start (λ (b : Beam). b.id) (λ b. 1000000 < b.at)

pub loop-b-preserved : goal.loop-b-preserved
loop-b-preserved c =
    rw c.lesser_id_if-least.ensures (least_more (λ (b : Beam). b.id) (λ b. 1000000 < b.at) c.args.beams.now c.loop-b.b-index _ _ c.loop-b.least c.loop-b-test.true (told_less 1000000 _) c.loop-b.invariant)

pub returns : goal.returns
returns c =
    least_whole (λ (b : Beam). b.id) (λ b. 1000000 < b.at) (IsOffField c.args.beams.now) c.args.beams.now c.loop-b.b-index c.loop-b.least c.loop-b-test.false (off_with c.args.beams.now) c.loop-b.invariant
