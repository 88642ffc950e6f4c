use Rattle.qasm_lex.proofs.CutLemmas.{tokens_once, tokens_or_fault, fault_once}
use Rattle.qasm_lex.proofs.FrontExistence.{some_tokens_or_fault}
use Rattle.qasm_lex.proofs.laws.tokens_or_one_fault.Goals as goal

pub returns-clause-some : goal.returns-clause-some
returns-clause-some c = some_tokens_or_fault

pub returns-clause-one_list : goal.returns-clause-one_list
returns-clause-one_list c = tokens_once

pub returns-clause-one_fault : goal.returns-clause-one_fault
returns-clause-one_fault c = fault_once

pub returns-clause-not_both : goal.returns-clause-not_both
returns-clause-not_both c = tokens_or_fault
