use Rattle.zac_world.proofs.BlockFacts.{BlocksSoFar}
use Rattle.zac_world.proofs.block.blocks_of.Given as goal

-- the storage zones so far are blocks, one behind the other
abbrev pub invariant-loop-zone : goal.invariant-loop-zone
invariant-loop-zone l = BlocksSoFar l.card l.zone-items l.zone-index l.first l.blocks.items
