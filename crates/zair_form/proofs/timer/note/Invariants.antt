use Rattle.std.proofs.Common.{◌++◌, List, take}
use Rattle.zair_form.specs.Timing.{AreLast}
use Rattle.zair_form.specs.declared.step.Beam.{Beam}
use Rattle.zair_form.proofs.timer.note.Given as goal

-- the positions so far
abbrev pub invariant-loop-beam : goal.invariant-loop-beam
invariant-loop-beam l = (given : List Beam) → AreLast l.initial.last given → AreLast l.last (given ++ take l.beam-index l.beams)
