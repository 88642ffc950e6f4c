use Rattle.qasm_lex.proofs.Cutting.{cut_text, cut_tokens}
use Rattle.qasm_lex.proofs.laws.cut_gives_tokens.Goals as goal

pub returns-clause-text : goal.returns-clause-text
returns-clause-text c = cut_text

pub returns-clause-tokens : goal.returns-clause-tokens
returns-clause-tokens c = cut_tokens
