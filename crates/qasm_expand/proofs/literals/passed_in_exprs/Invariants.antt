use Rattle.std.proofs.Common.{◌≡◌, drop}
use Rattle.qasm_expand.specs.Limits.{literals_in, passed_by_literals}
use Rattle.qasm_expand.proofs.literals.passed_in_exprs.Given as goal

abbrev pub invariant-loop-expr : goal.invariant-loop-expr
invariant-loop-expr l = passed_by_literals (literals_in (drop l.expr-index l.exprs)) ≡ passed_by_literals (literals_in l.exprs)
