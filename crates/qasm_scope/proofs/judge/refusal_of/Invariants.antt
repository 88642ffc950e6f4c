use Rattle.qasm_scope.proofs.JudgedLemmas.{NoneOfFirst}
use Rattle.qasm_scope.proofs.judge.refusal_of.Given as goal

abbrev pub invariant-loop-kind : goal.invariant-loop-kind
invariant-loop-kind l = NoneOfFirst l.names.environment l.names.before l.stmt l.kind-index
