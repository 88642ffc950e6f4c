use Rattle.zair_state.proofs.Lone.{catches_one, carries_one, drops_one}
use Rattle.zair_state.proofs.Refused.{alone}
use Rattle.zair_state.proofs.examples.lone_atom_is_refused.Goals as goal

pub returns-clause-run : goal.returns-clause-run
returns-clause-run c = (catches_one, (carries_one, (drops_one, tt)))

pub returns-clause-pulse : goal.returns-clause-pulse
returns-clause-pulse c = alone
