use Rattle.qasm_parse.proofs.LoopLemmas.{length-lexemes_of}
use Rattle.qasm_parse.proofs.laws.each_token_is_seen.Goals as goal

pub returns : goal.returns
returns c = length-lexemes_of
