use Rattle.group_speed.specs.Moves.{AreMoves}
use Rattle.group_speed.proofs.drawn_up.Given as goal

abbrev pub invariant-loop-k : goal.invariant-loop-k
invariant-loop-k l = AreMoves l.turned l.count l.k l.shifts.items
