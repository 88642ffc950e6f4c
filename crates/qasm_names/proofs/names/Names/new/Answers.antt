use Rattle.qasm_names.proofs.ReadsLemmas.{AreReadsOf-none}
use Rattle.qasm_names.proofs.names.Names.new.Goals as goal

pub invariant_of-result : goal.invariant_of-result
invariant_of-result c = AreReadsOf-none _ _ c.new-2.ensures c.new-3.ensures.items
