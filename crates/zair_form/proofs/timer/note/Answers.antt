use Rattle.std.proofs.Common.{◌++◌, List, take, subst}
use Rattle.zair_form.specs.Timing.{AreLast}
use Rattle.zair_form.specs.declared.step.Beam.{Beam}
use Rattle.zair_form.proofs.TimerFacts.{taken_more}
use Rattle.zair_form.proofs.timer.note.Goals as goal

pub loop-beam-preserved : goal.loop-beam-preserved
loop-beam-preserved c = λ given h.
    subst (λ (l : List Beam). AreLast c.note_one.new.last l) (taken_more given c.args.beams.now c.loop-beam.beam-index _ c.loop-beam-test.true)
    (c.note_one.ensures (given ++ take c.loop-beam.beam-index c.args.beams.now) (c.loop-beam.invariant given h))
