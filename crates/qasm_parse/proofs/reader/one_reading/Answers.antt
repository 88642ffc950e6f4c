use Rattle.qasm_parse.proofs.AnswerLemmas.{free_at}
use Rattle.qasm_parse.proofs.reader.one_reading.Goals as goal

pub returns : goal.returns
returns c = free_at
