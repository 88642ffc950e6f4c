use Rattle.std.proofs.Common.{◌-◌, ◌≤◌, length}
use Rattle.qasm_source.specs.Source.{IsAcceptedTo}
use Rattle.qasm_source.proofs.source.read_statements.Given as goal

-- the tokens up to the place are accepted
abbrev pub invariant-loop-place : goal.invariant-loop-place
invariant-loop-place l = record {
  within : l.place ≤ length l.tokens.tokens;
  so_far : IsAcceptedTo l.source l.tokens l.scope l.place;
}

abbrev pub decreases-loop-place : goal.decreases-loop-place
decreases-loop-place l = l.count - l.place
