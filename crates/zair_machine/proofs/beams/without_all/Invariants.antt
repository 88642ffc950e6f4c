use Rattle.std.proofs.Common.{◌≡◌, take}
use Rattle.zair_state.specs.Result.{without_beams}
use Rattle.zair_machine.proofs.beams.without_all.Given as goal

abbrev pub invariant-loop-b : goal.invariant-loop-b
invariant-loop-b l = l.beams.items ≡ without_beams l.ids (take l.b-index l.active)
