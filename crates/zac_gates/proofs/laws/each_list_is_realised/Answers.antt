use Rattle.zac_gates.proofs.Realising.{realised_gates_then_reads}
use Rattle.zac_gates.proofs.laws.each_list_is_realised.Goals as goal

pub returns : goal.returns
returns c = λ ops. realised_gates_then_reads ops
