use Rattle.std.proofs.Common.{map, take}
use Rattle.zair_form.specs.declared.step.Beam.{Beam}
use Rattle.zair_state.specs.Least.{IsLeastOf}
use Rattle.zair_state.specs.Faults.{IsTwice}
use Rattle.zair_machine.proofs.beams.least_twice.Given as goal

abbrev pub invariant-loop-k : goal.invariant-loop-k
invariant-loop-k l = IsLeastOf (IsTwice (map (λ (b : Beam). b.id) (take l.k l.beams))) l.least
