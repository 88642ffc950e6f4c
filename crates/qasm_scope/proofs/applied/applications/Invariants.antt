use Rattle.std.proofs.Common.{◌≡◌, drop}
use Rattle.qasm_names.specs.Applications.{applications}
use Rattle.qasm_scope.proofs.applied.applications.Given as goal

abbrev pub invariant-loop-arg : goal.invariant-loop-arg
invariant-loop-arg l = applications l.known (drop l.arg-index l.args) ≡ applications l.known l.args
