use Rattle.std.proofs.Common.{ℕ, ◌<◌, get_or}
use Rattle.std.specs.Prelude.{IfSome}
use Rattle.zac_world.specs.Blocks.{size_of}
use Rattle.zac_world.specs.Free.{AreNoBetter, IsFound}
use Rattle.zac_world.specs.declared.block.Block.{Block}
use Rattle.zac_world.proofs.free.search.Given as goal

-- the traps of the blocks so far are no better
abbrev pub invariant-loop-block : goal.invariant-loop-block
invariant-loop-block l =
    record {
      found : IfSome l.best (IsFound l.world l.marks l.from);
      blocks : (k : ℕ) (b : Block) → k < l.block-index → AreNoBetter l.world l.marks l.from l.best (get_or l.blocks k b).first (size_of (get_or l.blocks k b));
    }
