use Rattle.zair_state.proofs.Soundness.{opening_sound}
use Rattle.zair_state.proofs.laws.openings_are_sound.Goals as goal

pub returns : goal.returns
returns c = opening_sound
