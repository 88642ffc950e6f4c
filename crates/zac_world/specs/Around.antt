-- Empty storage traps around a point while the nearest ones are sought.
use Rattle.std.specs.Prelude.{◌≡◌, ℕ, ◌<◌, ◌≤◌, ◌⊎◌, List, length}
use Rattle.zac_arch.specs.Architecture.{storage_count}
use Rattle.zac_arch.specs.declared.place.Point.{Point}
use Rattle.zac_world.specs.Blocks.{block_distance}
use Rattle.zac_world.specs.Places.{Places}
use Rattle.zac_world.specs.Nearest.{distance_from}
use Rattle.zac_world.specs.Walks.{candidates_in}
use Rattle.zac_world.specs.declared.block.Block.{Block}
use Rattle.zac_world.specs.declared.walk.Candidate.{Candidate}

-- No trap of the block is nearer to the point than the one, nor farther than the other.
pub record IsBetween (from : Point) (least greatest : ℕ) (b : Block) : Type 0 where
  pub from_least : (row column : ℕ) → row < b.zone.rows → column < b.zone.columns → least ≤ block_distance b row column from
  pub to_greatest : (row column : ℕ) → row < b.zone.rows → column < b.zone.columns → block_distance b row column from ≤ greatest

-- These are the empty storage traps within some reach of the point, by rising number; they are so many, or all storage
-- traps are within that reach.
pub record AreAround (p : Places) (centre : Point) (count : ℕ) (found : List Candidate) : Type 0 where
  pub reach : ℕ
  pub are : found ≡ candidates_in p (record { centre = centre; reach = reach }) 0 (storage_count p.architecture)
  pub enough : (count ≤ length found) ⊎ ((t : ℕ) → t < storage_count p.architecture → distance_from p.architecture centre t ≤ reach)

-- The first comes before the second: it is nearer, or as near and its trap has no greater number.
abbrev pub IsBefore : Candidate → Candidate → Type 0
IsBefore c d = (c.distance < d.distance) ⊎ ((c.distance ≡ d.distance) × (c.trap.0 ≤ d.trap.0))
