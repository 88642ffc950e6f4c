use Rattle.zair_machine.proofs.Homing.{AreMarked}
use Rattle.zair_machine.proofs.opening.first_wrong_home.Given as goal

abbrev pub invariant-loop-q : goal.invariant-loop-q
invariant-loop-q l = AreMarked l.card l.homes l.taken.items l.q
