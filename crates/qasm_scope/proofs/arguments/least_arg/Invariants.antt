use Rattle.std.proofs.Common.{◌≡◌}
use Rattle.qasm_scope.specs.Judged.{HasArgFault}
use Rattle.qasm_scope.specs.Least.{IsLeastOffset}
use Rattle.qasm_scope.proofs.LeastLemmas.{OfFirst}
use Rattle.qasm_scope.proofs.arguments.least_arg.Given as goal

abbrev pub invariant-loop-arg : goal.invariant-loop-arg
invariant-loop-arg l =
    IsLeastOffset (OfFirst (λ arg at. HasArgFault l.known l.register l.fault arg × (at ≡ arg.at)) l.args l.arg-index) l.least
