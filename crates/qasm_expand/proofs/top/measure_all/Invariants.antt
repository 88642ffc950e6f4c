use Rattle.std.proofs.Common.{List}
use Rattle.qasm_names.specs.declared.gate.GateDef.{GateDef}
use Rattle.qasm_expand.specs.Items.{measurement}
use Rattle.qasm_expand.specs.Walks.{Walks}
use Rattle.qasm_expand.proofs.TopCalls.{first_visits}
use Rattle.qasm_expand.proofs.top.measure_all.Given as goal

abbrev pub invariant-loop-k : goal.invariant-loop-k
invariant-loop-k l = (gates : List GateDef) → Walks gates l.initial.walk l.walk (first_visits (measurement l.registers l.from l.into) l.k)
