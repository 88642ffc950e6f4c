use Rattle.qasm_parse.proofs.Computed.{computed_fall}
use Rattle.qasm_parse.proofs.laws.computed_statements_stand.Goals as goal

pub returns : goal.returns
returns c = computed_fall c.cut_gives_tokens.ensures.text c.cut_gives_tokens.ensures.tokens
