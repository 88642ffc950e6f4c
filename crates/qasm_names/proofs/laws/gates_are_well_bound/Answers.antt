use Rattle.qasm_names.proofs.BoundLemmas.{IsWellBound-admissible}
use Rattle.qasm_names.proofs.laws.gates_are_well_bound.Goals as goal

pub returns : goal.returns
returns c = IsWellBound-admissible
