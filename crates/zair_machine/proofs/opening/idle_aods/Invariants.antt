use Rattle.std.proofs.Common.{◌≡◌, replicate}
use Rattle.zair_state.specs.State.{idle}
use Rattle.zair_machine.proofs.opening.idle_aods.Given as goal

abbrev pub invariant-loop : goal.invariant-loop
invariant-loop l = l.aods.items ≡ replicate l.counter idle
