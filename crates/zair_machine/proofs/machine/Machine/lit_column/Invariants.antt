use Rattle.std.proofs.Common.{take}
use Rattle.zair_form.specs.declared.step.Beam.{Beam}
use Rattle.zair_state.specs.Least.{IsLeastOf}
use Rattle.zair_state.specs.State.{crossing}
use Rattle.zair_state.proofs.Minima.{KeyOf}
use Rattle.zac_arch.specs.Architecture.{IsLit}
use Rattle.zair_machine.proofs.machine.Machine.lit_column.Given as goal

abbrev pub invariant-loop-column : goal.invariant-loop-column
invariant-loop-column l = IsLeastOf (KeyOf (λ (b : Beam). b.id) (λ (b : Beam). IsLit l.self.card (crossing l.row b)) (take l.column-index l.columns)) l.least
