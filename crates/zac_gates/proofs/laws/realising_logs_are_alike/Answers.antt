use Rattle.zac_gates.proofs.Rearranging.{realised_alike}
use Rattle.zac_gates.proofs.laws.realising_logs_are_alike.Goals as goal

pub returns : goal.returns
returns c = λ ops one other. realised_alike ops one other
