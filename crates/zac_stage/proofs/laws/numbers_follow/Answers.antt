use Rattle.zac_stage.proofs.NumbersFacts.{numbers_follow}
use Rattle.zac_stage.proofs.laws.numbers_follow.Goals as goal

pub returns : goal.returns
returns c = λ ops sites numbers numbering. numbers_follow ops sites numbers numbering
