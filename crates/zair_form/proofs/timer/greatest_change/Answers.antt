use Rattle.std.proofs.Common.{arith, ◌∙◌}
use Rattle.zair_form.proofs.TimerFacts.{greatest_more}
use Rattle.zair_form.proofs.timer.greatest_change.Goals as goal

pub loop-beam-preserved : goal.loop-beam-preserved
loop-beam-preserved c = (
  omega (arith, c.greater-greatest.ensures, c.change.ensures.most, c.loop-beam.invariant.0),
  λ given h. c.greater-greatest.ensures ∙ greatest_more given c.args.beams.now c.loop-beam.beam-index c.loop-beam.greatest c.change.result _ c.loop-beam-test.true (c.loop-beam.invariant.1 given h) (c.change.ensures.change given h),
)
