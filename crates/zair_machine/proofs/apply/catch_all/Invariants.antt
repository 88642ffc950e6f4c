use Rattle.std.proofs.Common.{◌≡◌, drop, length}
use Rattle.zair_state.specs.Result.{after_catching}
use Rattle.zair_machine.proofs.apply.catch_all.Given as goal

abbrev pub invariant-loop-c : goal.invariant-loop-c
invariant-loop-c l = (length l.places ≡ length l.initial.places) × (after_catching l.aod (drop l.c-index l.atoms) l.places ≡ after_catching l.aod l.atoms l.initial.places)
