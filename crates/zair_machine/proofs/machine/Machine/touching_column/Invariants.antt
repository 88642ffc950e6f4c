use Rattle.std.proofs.Common.{take}
use Rattle.zair_form.specs.declared.step.Beam.{Beam}
use Rattle.zair_state.specs.Faults.{TouchesAt}
use Rattle.zair_state.specs.Least.{IsLeastOf}
use Rattle.zair_state.proofs.Minima.{KeyOf}
use Rattle.zair_machine.proofs.machine.Machine.touching_column.Given as goal

abbrev pub invariant-loop-j : goal.invariant-loop-j
invariant-loop-j l = IsLeastOf (KeyOf (λ (b : Beam). b.id) (TouchesAt l.self.card l.self.state l.step l.row) (take l.j l.columns)) l.least
