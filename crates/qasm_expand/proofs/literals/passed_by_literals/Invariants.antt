use Rattle.std.proofs.Common.{◌≡◌, drop}
use Rattle.std.specs.List.{flat_map}
use Rattle.qasm_expand.specs.Limits.{statement_literals, passed_by_literals}
use Rattle.qasm_expand.proofs.literals.passed_by_literals.Given as goal

abbrev pub invariant-loop-stmt : goal.invariant-loop-stmt
invariant-loop-stmt l = passed_by_literals (flat_map statement_literals (drop l.stmt-index l.statements)) ≡ passed_by_literals (flat_map statement_literals l.statements)
