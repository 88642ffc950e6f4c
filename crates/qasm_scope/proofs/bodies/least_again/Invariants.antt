use Rattle.qasm_scope.specs.Least.{IsLeastOffset}
use Rattle.qasm_scope.proofs.WordLemmas.{AgainBelow}
use Rattle.qasm_scope.proofs.bodies.least_again.Given as goal

abbrev pub invariant-loop-i : goal.invariant-loop-i
invariant-loop-i l = IsLeastOffset (AgainBelow l.before l.names l.i) l.least
