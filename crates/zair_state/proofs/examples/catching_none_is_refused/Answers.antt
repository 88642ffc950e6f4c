use Rattle.zair_state.proofs.Refused.{none_caught}
use Rattle.zair_state.proofs.examples.catching_none_is_refused.Goals as goal

pub returns : goal.returns
returns c = none_caught
