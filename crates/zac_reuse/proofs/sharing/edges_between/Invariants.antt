use Rattle.zac_reuse.specs.Sharing.{AreShared}
use Rattle.zac_reuse.proofs.sharing.edges_between.Given as goal

-- the edges to the places so far
abbrev pub invariant-loop-place : goal.invariant-loop-place
invariant-loop-place l = AreShared l.ops l.first l.second l.pairs.items l.place
