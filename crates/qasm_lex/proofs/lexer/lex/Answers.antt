use Rattle.qasm_lex.proofs.LexLoop.{answer_tokens, answer_fault, answer_every, answer_refused}
use Rattle.qasm_lex.proofs.lexer.lex.Goals as goal

pub returns-clause-tokens : goal.returns-clause-tokens
returns-clause-tokens c = answer_tokens _ _ c.read.ensures

pub returns-clause-fault : goal.returns-clause-fault
returns-clause-fault c = answer_fault _ _ c.read.ensures

pub returns-clause-every : goal.returns-clause-every
returns-clause-every c = answer_every _ _ c.read.ensures

pub returns-clause-refused : goal.returns-clause-refused
returns-clause-refused c = answer_refused _ _ c.read.ensures
