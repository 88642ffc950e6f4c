use Rattle.qasm_expand.proofs.ExistenceLemmas.{program_expands}
use Rattle.qasm_expand.proofs.NativeLemmas.{expansion_is_valid}
use Rattle.qasm_expand.proofs.ReadyLemmas.{header_bare}
use Rattle.qasm_expand.proofs.expansion_laws.each_program_expands.Goals as goal

pub returns-clause-some : goal.returns-clause-some
returns-clause-some c = λ p header statements. program_expands p statements (c.gates_are_well_bound.ensures p.header p.statements header statements)

pub returns-clause-valid : goal.returns-clause-valid
returns-clause-valid c = λ p circuit header statements expansion. expansion_is_valid p circuit (header_bare p.header header) statements (c.gates_are_well_bound.ensures p.header p.statements header statements) expansion
