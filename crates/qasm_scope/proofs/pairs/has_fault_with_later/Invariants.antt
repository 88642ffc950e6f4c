use Rattle.qasm_scope.specs.Judged.{HasPairFault}
use Rattle.qasm_scope.proofs.TestLemmas.{NoneBelow}
use Rattle.qasm_scope.proofs.pairs.has_fault_with_later.Given as goal

abbrev pub invariant-loop-b : goal.invariant-loop-b
invariant-loop-b l = NoneBelow (HasPairFault l.known l.fault l.a) l.later l.b-index
