use Rattle.qasm_expand.specs.Items.{application}
use Rattle.qasm_expand.specs.Walks.{Walks}
use Rattle.qasm_expand.proofs.TopCalls.{first_visits}
use Rattle.qasm_expand.proofs.top.apply_all.Given as goal

abbrev pub invariant-loop-k : goal.invariant-loop-k
invariant-loop-k l = Walks l.gates l.initial.walk l.walk (first_visits (application l.registers l.target l.call) l.k)
