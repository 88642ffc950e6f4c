use Rattle.std.proofs.Common.{take}
use Rattle.zair_state.specs.State.{HasId}
use Rattle.zair_machine.proofs.counts.place_of.Given as goal

abbrev pub invariant-loop-k : goal.invariant-loop-k
invariant-loop-k l = ¬ HasId (take l.k l.beams) l.id
