use Rattle.std.proofs.Common.{◌≡◌, drop}
use Rattle.qasm_names.specs.Applications.{applications}
use Rattle.qasm_expand.specs.Sized.{sized}
use Rattle.qasm_expand.proofs.registers.Registers.applications.Given as goal

abbrev pub invariant-loop-arg : goal.invariant-loop-arg
invariant-loop-arg l = applications (sized l.self) (drop l.arg-index l.args) ≡ applications (sized l.self) l.args
