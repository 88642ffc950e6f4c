use Rattle.zac_archfile.proofs.OneAnswer.{one_card, one_fault, not_both, card_or_fault, one_of_six}
use Rattle.zac_archfile.proofs.laws.card_or_one_fault.Goals as goal

pub returns : goal.returns
returns c = record { one_card = one_card; one_fault = one_fault; not_both = not_both; some = card_or_fault; rule = one_of_six }
