use Rattle.zair_state.proofs.OneFault.{one_first}
use Rattle.zair_state.proofs.laws.first_faults_are_one.Goals as goal

pub returns : goal.returns
returns c = one_first
