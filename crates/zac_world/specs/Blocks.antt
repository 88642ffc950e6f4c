-- The storage zones of an architecture as blocks of traps.
use Rattle.std.specs.Prelude.{◌≡◌, ℕ, ◌+◌, ◌-◌, ◌*◌, ◌<◌, ◌≤◌, List, length, All, take, sum_by}
use Rattle.std.specs.List.{slice_index_or}
use Rattle.zac_arch.specs.Architecture.{Architecture, storage_count}
use Rattle.zac_arch.specs.Distances.{difference}
use Rattle.zac_arch.specs.declared.place.Point.{Point}
use Rattle.zac_world.specs.Nearest.{point_of}
use Rattle.zac_world.specs.declared.block.Block.{Block}

-- How many traps a block has.
abbrev pub size_of : Block → ℕ
size_of b = b.zone.rows * b.zone.columns

-- Where the trap at a row and a column of a block stands.
abbrev pub block_point : Block → ℕ → ℕ → Point
block_point b row column = record { x = b.zone.x + column * b.zone.dx; y = b.zone.y + row * b.zone.dy }

-- How far that trap is from a point: in x, and in y, added.
abbrev pub block_distance : Block → ℕ → ℕ → Point → ℕ
block_distance b row column from =
    difference from.x (block_point b row column).x + difference from.y (block_point b row column).y

-- The block has a row and a column, its rows and its columns rise, and its last ones are on the field.
pub record FitsField (b : Block) : Type 0 where
  pub some_column : 1 ≤ b.zone.columns
  pub some_row : 1 ≤ b.zone.rows
  pub columns_rise : 1 ≤ b.zone.dx
  pub rows_rise : 1 ≤ b.zone.dy
  pub last_column : b.zone.x + (b.zone.columns - 1) * b.zone.dx ≤ 1000000
  pub last_row : b.zone.y + (b.zone.rows - 1) * b.zone.dy ≤ 1000000

-- The block fits the field, its traps are storage traps, and each stands at its row and its column.
pub record IsBlock (a : Architecture) (b : Block) : Type 0 where
  pub field : FitsField b
  pub storage : b.first + size_of b ≤ storage_count a
  pub few : b.first + size_of b ≤ 65536
  pub stands : (row column : ℕ) → row < b.zone.rows → column < b.zone.columns →
      point_of a (b.first + (row * b.zone.columns + column)) ≡ block_point b row column

-- These are blocks; each begins where the ones before it end; and all storage traps are theirs.
pub record AreBlocks (a : Architecture) (blocks : List Block) : Type 0 where
  pub each : All (IsBlock a) blocks
  pub in_turn : (k : ℕ) (b : Block) → k < length blocks → (slice_index_or blocks k b).first ≡ sum_by size_of (take k blocks)
  pub whole : sum_by size_of blocks ≡ storage_count a
