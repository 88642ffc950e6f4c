use Rattle.std.proofs.Common.{◌≡◌, drop, length}
use Rattle.zair_state.specs.Result.{after_dropping}
use Rattle.zair_machine.proofs.apply.drop_all.Given as goal

abbrev pub invariant-loop-d : goal.invariant-loop-d
invariant-loop-d l = (length l.places ≡ length l.initial.places) × (after_dropping (drop l.d-index l.atoms) l.places ≡ after_dropping l.atoms l.initial.places)
