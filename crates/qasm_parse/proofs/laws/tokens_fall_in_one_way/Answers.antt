use Rattle.qasm_parse.proofs.FallLemmas.{falls_once}
use Rattle.qasm_parse.proofs.laws.tokens_fall_in_one_way.Goals as goal

pub returns : goal.returns
returns c = falls_once
