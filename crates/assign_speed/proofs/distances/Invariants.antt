use Rattle.std.proofs.Common.{◌≡◌}
use Rattle.assign_speed.proofs.distances.Given as goal

abbrev pub invariant-loop-row : goal.invariant-loop-row
invariant-loop-row l = (l.costs.rows ≡ l.rows) × (l.costs.columns ≡ l.columns)

abbrev pub invariant-loop-column : goal.invariant-loop-column
invariant-loop-column l = (l.costs.rows ≡ l.rows) × (l.costs.columns ≡ l.columns)
