use Rattle.zac_stage.proofs.StagingFacts.{filled}
use Rattle.zac_stage.proofs.laws.pulses_are_filled.Goals as goal

pub returns : goal.returns
returns c = λ s t pulse some staging is. filled s t pulse some staging is
