use Rattle.std.proofs.Common.{◌≡◌, take, sum_by}
use Rattle.zac_world.specs.Blocks.{size_of}
use Rattle.zac_world.specs.Walks.{candidates_in}
use Rattle.zac_world.proofs.walk.empty_within.Given as goal

-- the empty ones of the blocks so far
abbrev pub invariant-loop-block : goal.invariant-loop-block
invariant-loop-block l = l.found.items ≡ candidates_in l.world l.disc 0 (sum_by size_of (take l.block-index l.blocks))
