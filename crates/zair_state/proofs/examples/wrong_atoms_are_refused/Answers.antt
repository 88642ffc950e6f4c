use Rattle.zair_state.proofs.Wrong.{touch, pick, drop_none, full, gate, light}
use Rattle.zair_state.proofs.examples.wrong_atoms_are_refused.Goals as goal

pub returns : goal.returns
returns c = record { touch = touch; pick = pick; drop = drop_none; full = full; gate = gate; light = light }
