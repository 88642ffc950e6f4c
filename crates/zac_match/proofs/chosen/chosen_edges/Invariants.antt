use Rattle.zac_match.proofs.CoverFacts.{ListsBelow}
use Rattle.zac_match.proofs.chosen.chosen_edges.Given as goal

abbrev pub invariant-loop-left : goal.invariant-loop-left
invariant-loop-left l = ListsBelow l.mates.left.items l.edges.items l.left
