use Rattle.std.proofs.Common.{◌≡◌}
use Rattle.qasm_scope.specs.Judged.{HasCallFault}
use Rattle.qasm_scope.specs.Least.{IsLeastOffset}
use Rattle.qasm_scope.proofs.LeastLemmas.{OfFirst}
use Rattle.qasm_scope.proofs.calls.least_call.Given as goal

abbrev pub invariant-loop-call : goal.invariant-loop-call
invariant-loop-call l =
    IsLeastOffset (OfFirst (λ call at. HasCallFault l.known l.fault call × (at ≡ call.at)) l.calls l.call-index) l.least
