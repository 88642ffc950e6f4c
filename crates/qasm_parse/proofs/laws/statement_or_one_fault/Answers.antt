use Rattle.qasm_parse.proofs.AnswerLemmas.{some_statement_or_fault, statement_once, fault_once, statement_or_fault}
use Rattle.qasm_parse.proofs.laws.statement_or_one_fault.Goals as goal

pub returns-clause-some : goal.returns-clause-some
returns-clause-some c = some_statement_or_fault

pub returns-clause-one_statement : goal.returns-clause-one_statement
returns-clause-one_statement c = statement_once

pub returns-clause-one_fault : goal.returns-clause-one_fault
returns-clause-one_fault c = fault_once

pub returns-clause-not_both : goal.returns-clause-not_both
returns-clause-not_both c = statement_or_fault
