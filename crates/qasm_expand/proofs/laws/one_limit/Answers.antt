use Rattle.qasm_expand.proofs.ProgramLemmas.{passes_once, within_passes_none}
use Rattle.qasm_expand.proofs.VisitExistence.{within_or_passes}
use Rattle.qasm_expand.proofs.laws.one_limit.Goals as goal

pub returns-clause-some : goal.returns-clause-some
returns-clause-some c = λ p header statements. within_or_passes p statements (c.gates_are_well_bound.ensures p.header p.statements header statements)

pub returns-clause-one_first : goal.returns-clause-one_first
returns-clause-one_first c = passes_once

pub returns-clause-not_both : goal.returns-clause-not_both
returns-clause-not_both c = within_passes_none
