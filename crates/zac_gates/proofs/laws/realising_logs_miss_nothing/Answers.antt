use Rattle.zac_gates.proofs.Rearranging.{length-realised}
use Rattle.zac_gates.proofs.laws.realising_logs_miss_nothing.Goals as goal

pub returns : goal.returns
returns c = λ ops log. length-realised ops log
