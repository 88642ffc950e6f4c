use Rattle.std.proofs.Common.{◌≡◌, drop}
use Rattle.qasm_expand.specs.Limits.{passed_by_literals}
use Rattle.qasm_expand.specs.Literals.{body_literals}
use Rattle.qasm_expand.proofs.literals.passed_in_body.Given as goal

abbrev pub invariant-loop-op : goal.invariant-loop-op
invariant-loop-op l = passed_by_literals (body_literals (drop l.op-index l.body)) ≡ passed_by_literals (body_literals l.body)
