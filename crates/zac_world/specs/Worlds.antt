-- Inside: what a `World` keeps.
use Rattle.std.specs.Prelude.{◌≡◌, ℕ, Bool, false, List, Option, Some, None, map, slice_set}
use Rattle.std.specs.Option.{is_some}
use Rattle.zac_arch.specs.Architecture.{Architecture}
use Rattle.zac_world.specs.Blocks.{AreBlocks}
use Rattle.zac_world.specs.Places.{ArePlaced}
use Rattle.zac_world.specs.declared.block.Block.{Block}

-- the flags once that of a trap, if there is one, is cleared
abbrev pub cleared : List Bool → Option ℕ → List Bool
cleared taken None = taken
cleared taken (Some t) = slice_set taken t false

-- each qubit has a trap, there is a place for each trap of the card, the blocks are those of its storage zones, and there
-- is a flag for each trap, set where an atom rests in it
pub record IsKept (a : Architecture) (left right : List (Option ℕ)) (blocks : List Block) (taken : List Bool) : Type 0 where
  pub placed : ArePlaced a left right
  pub blocks_are : AreBlocks a blocks
  pub taken_are : taken ≡ map is_some right
