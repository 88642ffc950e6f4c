use Rattle.qasm_expand.proofs.ReplacingLemmas.{one_expansion}
use Rattle.qasm_expand.proofs.expansion_laws.one_expansion.Goals as goal

pub returns : goal.returns
returns c = one_expansion
