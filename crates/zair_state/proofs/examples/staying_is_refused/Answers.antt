use Rattle.zair_state.proofs.Refused.{stays, in_storage}
use Rattle.zair_state.proofs.examples.staying_is_refused.Goals as goal

pub returns : goal.returns
returns c = record { run = λ h. stays h.1.1.0; pulse = in_storage }
