use Rattle.std.proofs.Common.{◌≡◌, ◌≤◌, List, take}
use Rattle.zair_form.specs.Times.{greatest_change}
use Rattle.zair_form.specs.Timing.{AreLast}
use Rattle.zair_form.specs.declared.step.Beam.{Beam}
use Rattle.zair_form.proofs.timer.greatest_change.Given as goal

-- the greatest change so far
abbrev pub invariant-loop-beam : goal.invariant-loop-beam
invariant-loop-beam l = (l.greatest ≤ 1000000) × ((given : List Beam) → AreLast l.last given → l.greatest ≡ greatest_change given (take l.beam-index l.beams))
