use Rattle.zair_state.specs.Least.{IsLeastOf}
use Rattle.zair_machine.proofs.Items.{HasBefore}
use Rattle.zair_machine.proofs.Dropping.{LeftWith}
use Rattle.zair_machine.proofs.machine.Machine.left_in_row.Given as goal

abbrev pub invariant-loop-j : goal.invariant-loop-j
invariant-loop-j l = IsLeastOf (HasBefore (LeftWith l.self.state l.aod l.row l.off l.columns_off l.counts) l.columns l.j) l.least
