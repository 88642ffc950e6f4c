use Rattle.std.proofs.Common.{ℕ}
use Rattle.zair_form.specs.declared.step.Beam.{Beam}
use Rattle.zair_state.specs.Least.{IsLeastOf}
use Rattle.zair_machine.proofs.Items.{HasBefore}
use Rattle.zair_machine.proofs.Full.{FullInRow}
use Rattle.zair_machine.proofs.machine.Machine.least_over_full.Given as goal

abbrev pub invariant-loop-row : goal.invariant-loop-row
invariant-loop-row l = IsLeastOf (HasBefore (λ (i : ℕ) (b : Beam) (q : ℕ). FullInRow l.self.card l.self.state l.aod b l.columns q) l.rows l.row-index) l.least
