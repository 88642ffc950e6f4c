use Rattle.qasm_names.proofs.BoundLemmas.{gates_grow}
use Rattle.qasm_names.proofs.laws.gates_only_grow.Goals as goal

pub returns : goal.returns
returns c = gates_grow
