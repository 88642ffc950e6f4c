use Rattle.zac_place.proofs.JudgeFacts.{MarkedSoFar}
use Rattle.zac_place.proofs.judge.marks_of.Given as goal

-- just the targets so far are marked
abbrev pub invariant-loop-target : goal.invariant-loop-target
invariant-loop-target l = MarkedSoFar l.world l.card l.targets l.marks l.target-index
