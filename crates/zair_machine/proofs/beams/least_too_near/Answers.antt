use Rattle.std.proofs.Common.{◌<◌, ◌+◌}
use Rattle.zair_form.specs.declared.step.Beam.{Beam}
use Rattle.zair_state.proofs.Minima.{least_behind_start, least_behind_more, least_behind_whole}
use Rattle.zair_machine.proofs.beams.least_too_near.Goals as goal

pub loop-k-init : goal.loop-k-init
loop-k-init c = least_behind_start (λ (x y : Beam). (x.at < y.at) × (y.at < x.at + c.args.gap)) c.args.beams.now

pub loop-k-preserved : goal.loop-k-preserved
loop-k-preserved c =
    rw c.lesser_id_if-least.ensures (least_behind_more (λ (x y : Beam). (x.at < y.at) × (y.at < x.at + c.args.gap)) c.args.beams.now c.loop-k.k _ _ c.loop-k.least c.loop-k.auto.k c.loop-k-test.true (c.is_too_near.ensures) c.loop-k.invariant)

pub returns : goal.returns
returns c = least_behind_whole (λ (x y : Beam). (x.at < y.at) × (y.at < x.at + c.args.gap)) c.args.beams.now c.loop-k.k c.loop-k.least c.loop-k-test.false c.loop-k.invariant
