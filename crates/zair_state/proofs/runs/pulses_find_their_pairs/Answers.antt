use Rattle.zair_state.proofs.PulsePairs.{each_pulse_finds}
use Rattle.zair_state.proofs.runs.pulses_find_their_pairs.Goals as goal

pub returns : goal.returns
returns c = each_pulse_finds
