use Rattle.qasm_names.specs.Environment.{words_of}
use Rattle.qasm_names.specs.Refusals.{UsesOther}
use Rattle.qasm_scope.specs.Least.{IsLeastOffset}
use Rattle.qasm_scope.proofs.LeastLemmas.{OfFirst}
use Rattle.qasm_scope.proofs.bodies.least_other.Given as goal

abbrev pub invariant-loop-node : goal.invariant-loop-node
invariant-loop-node l = IsLeastOffset (OfFirst (λ node at. UsesOther (words_of l.params) at node) l.node-items l.node-index) l.least
