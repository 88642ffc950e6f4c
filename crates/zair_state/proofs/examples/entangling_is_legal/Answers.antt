use Rattle.std.proofs.Common.{refl}
use Rattle.zair_state.proofs.Entangling.{turns, catches, carries, drops, entangles, turns_at_site}
use Rattle.zair_state.proofs.examples.entangling_is_legal.Goals as goal

pub returns : goal.returns
returns c = record { run = (turns 0, (catches, (carries, (drops, (entangles, (turns_at_site 2, tt)))))); end = refl }
