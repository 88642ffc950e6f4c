use Rattle.zac_gates.proofs.Rearranging.{stands_behind}
use Rattle.zac_gates.proofs.laws.realising_logs_keep_the_order.Goals as goal

pub returns : goal.returns
returns c = λ ops log first second i j a b realised must. stands_behind ops log realised first second must i j a b
