use Rattle.zair_state.specs.Least.{IsLeastOf}
use Rattle.zair_machine.proofs.Items.{HasBefore}
use Rattle.zair_machine.proofs.Dropping.{LeftInRow}
use Rattle.zair_machine.proofs.machine.Machine.least_left_behind.Given as goal

abbrev pub invariant-loop-i : goal.invariant-loop-i
invariant-loop-i l = IsLeastOf (HasBefore (LeftInRow l.self.state l.aod l.rows l.columns l.on_columns l.counts) l.on_rows l.i) l.least
