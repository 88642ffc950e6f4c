use Rattle.std.proofs.Common.{◌<◌, ◌≤◌, ℕ, get_or}
use Rattle.zac_world.specs.Around.{IsBetween}
use Rattle.zac_world.specs.declared.block.Block.{Block}
use Rattle.zac_world.proofs.nearest.distances.Given as goal

-- the bounds hold of the blocks so far
abbrev pub invariant-loop-block : goal.invariant-loop-block
invariant-loop-block l =
    record {
      between : (k : ℕ) (b : Block) → k < l.block-index → IsBetween l.from l.least l.greatest (get_or l.blocks k b);
      least_most : l.least ≤ 2000000;
      greatest_most : l.greatest ≤ 2000000;
    }
