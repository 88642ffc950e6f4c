use Rattle.zac_stage.proofs.StagingFacts.{apart}
use Rattle.zac_stage.proofs.laws.pulses_share_no_qubit.Goals as goal

pub returns : goal.returns
returns c = λ s t i j q pulse a b staging is at_i at_j other a_is b_is a_names b_names. apart s t i j q pulse a b staging is at_i at_j other a_is b_is a_names b_names
