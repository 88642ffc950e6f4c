use Rattle.zac_stage.proofs.NumbersFacts.{one_numbering}
use Rattle.zac_stage.proofs.laws.one_numbering_is_right.Goals as goal

pub returns : goal.returns
returns c = λ ops sites one other. one_numbering ops sites one other
