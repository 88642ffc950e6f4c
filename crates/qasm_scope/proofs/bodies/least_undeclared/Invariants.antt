use Rattle.qasm_names.specs.Environment.{words_of}
use Rattle.qasm_names.specs.Refusals.{UsesUndeclared}
use Rattle.qasm_scope.specs.Least.{IsLeastOffset}
use Rattle.qasm_scope.proofs.LeastLemmas.{OfFirst}
use Rattle.qasm_scope.proofs.bodies.least_undeclared.Given as goal

abbrev pub invariant-loop-call : goal.invariant-loop-call
invariant-loop-call l =
    IsLeastOffset (OfFirst (λ call at. UsesUndeclared (words_of l.params) (words_of l.args) at call) l.body l.call-index) l.least
