use Rattle.qasm_expand.proofs.CallsLemmas.{left_of_visits, program_left, visits_counted, visits_expand}
use Rattle.qasm_expand.proofs.expansion_laws.calls_are_those_of_the_expansion.Goals as goal

pub returns-clause-left : goal.returns-clause-left
returns-clause-left c = left_of_visits

pub returns-clause-counted : goal.returns-clause-counted
returns-clause-counted c = visits_counted

pub returns-clause-ends : goal.returns-clause-ends
returns-clause-ends c = visits_expand

pub returns-clause-program : goal.returns-clause-program
returns-clause-program c = λ p circuit within expansion. let left = program_left p circuit within expansion in (left.is, left.counted)
