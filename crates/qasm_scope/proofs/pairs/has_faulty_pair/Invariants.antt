use Rattle.qasm_scope.specs.Judged.{HasPairFault}
use Rattle.qasm_scope.proofs.PairLemmas.{NoPairBelow}
use Rattle.qasm_scope.proofs.pairs.has_faulty_pair.Given as goal

abbrev pub invariant-loop-i : goal.invariant-loop-i
invariant-loop-i l = NoPairBelow (HasPairFault l.known l.fault) l.args l.i
