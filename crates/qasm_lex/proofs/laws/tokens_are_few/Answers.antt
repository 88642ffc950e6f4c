use Rattle.qasm_lex.proofs.LexedLemmas.{few_tokens}
use Rattle.qasm_lex.proofs.laws.tokens_are_few.Goals as goal

pub returns : goal.returns
returns c = few_tokens
