use Rattle.std.proofs.Common.{take}
use Rattle.zair_state.specs.State.{HasId}
use Rattle.zair_machine.proofs.beams.position_of.Given as goal

abbrev pub invariant-loop-b : goal.invariant-loop-b
invariant-loop-b l = ¬ HasId (take l.b-index l.beams) l.id
