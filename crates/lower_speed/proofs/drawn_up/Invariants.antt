use Rattle.lower_speed.specs.Moves.{AreMoves}
use Rattle.lower_speed.proofs.drawn_up.Given as goal

abbrev pub invariant-loop-k : goal.invariant-loop-k
invariant-loop-k l = AreMoves l.traps l.k l.shifts.items
