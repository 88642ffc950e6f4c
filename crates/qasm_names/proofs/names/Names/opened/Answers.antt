use Rattle.qasm_names.proofs.ReadsLemmas.{AreReadsOf-none}
use Rattle.qasm_names.proofs.names.Names.opened.Goals as goal

pub invariant_of-names : goal.invariant_of-names
invariant_of-names c = AreReadsOf-none _ _ c.new.ensures c.new-2.ensures.items
