use Rattle.std.proofs.Common.{◌≡◌, take}
use Rattle.zair_machine.proofs.beams.copy_of.Given as goal

abbrev pub invariant-loop-b : goal.invariant-loop-b
invariant-loop-b l = l.copy.items ≡ take l.b-index l.beams
