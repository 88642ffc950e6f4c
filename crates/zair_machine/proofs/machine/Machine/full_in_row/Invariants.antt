use Rattle.std.proofs.Common.{ℕ}
use Rattle.zair_form.specs.declared.step.Beam.{Beam}
use Rattle.zair_state.specs.Least.{IsLeastOf}
use Rattle.zair_machine.proofs.Items.{HasBefore}
use Rattle.zair_machine.specs.Crossings.{CarriesOntoFull}
use Rattle.zair_machine.proofs.machine.Machine.full_in_row.Given as goal

abbrev pub invariant-loop-column : goal.invariant-loop-column
invariant-loop-column l = IsLeastOf (HasBefore (λ (j : ℕ) (b : Beam) (q : ℕ). CarriesOntoFull l.self.card l.self.state l.aod l.row b q) l.columns l.column-index) l.least
