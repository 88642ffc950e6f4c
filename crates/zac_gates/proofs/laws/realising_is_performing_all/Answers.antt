use Rattle.zac_gates.proofs.Performing.{realised_by_performing, performable_by_realising, all_performed_by_realising}
use Rattle.zac_gates.proofs.laws.realising_is_performing_all.Goals as goal

pub returns : goal.returns
returns c = λ ops log. (
  λ realised. (performable_by_realising ops log realised, all_performed_by_realising ops log realised),
  λ both. realised_by_performing ops log both.0 both.1,
)
