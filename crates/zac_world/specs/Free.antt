-- Inside: the nearest empty storage trap that isn't marked, while it is sought.
use Rattle.std.specs.Prelude.{◌≡◌, ℕ, ◌+◌, ◌*◌, ◌<◌, ◌≤◌, ◌&&◌, Bool, true, false, not, List, Option, Some, None, IfSome}
use Rattle.std.specs.List.{slice_index_or}
use Rattle.zac_arch.specs.Architecture.{storage_count}
use Rattle.zac_arch.specs.declared.place.Point.{Point}
use Rattle.zac_world.specs.Nearest.{distance_from}
use Rattle.zac_world.specs.Places.{Places, is_empty}
use Rattle.zac_world.specs.declared.block.Block.{Block}
use Rattle.zac_world.specs.declared.free.Side.{Side}
use Rattle.zac_world.specs.declared.free.Side.TheVariants.{Left, Right}
use Rattle.zac_world.specs.declared.walk.Candidate.{Candidate}

-- the trap is empty, and isn't marked
abbrev pub is_free : Places → List Bool → ℕ → Bool
is_free p marks t = is_empty p.traps t && not (slice_index_or marks t false)

-- the column is on that side of the point, or has its x
abbrev pub IsOn : Side → Block → Point → ℕ → Type 0
IsOn Left b from column = b.zone.x + column * b.zone.dx ≤ from.x
IsOn Right b from column = from.x ≤ b.zone.x + column * b.zone.dx

-- on the way outward from the point on that side the other number doesn't come before t
abbrev pub IsFirst : Side → ℕ → ℕ → Type 0
IsFirst Left t other = other ≤ t
IsFirst Right t other = t ≤ other

-- of the traps from begin to before end it is the free one that comes first on the way outward
pub record IsFirstFree (p : Places) (marks : List Bool) (side : Side) (begin end t : ℕ) : Type 0 where
  pub from_begin : begin ≤ t
  pub before_end : t < end
  pub free : is_free p marks t ≡ true
  pub first : (other : ℕ) → begin ≤ other → other < end → is_free p marks other ≡ true → IsFirst side t other

-- the order by distance and then number, as one number
abbrev pub rank : Places → Point → ℕ → ℕ
rank p from t = distance_from p.architecture from t * 65536 + t

-- the rank of what was found, past that of each trap where nothing was
abbrev pub rank_of : Option Candidate → ℕ
rank_of None = 2000001 * 65536
rank_of (Some c) = c.distance * 65536 + c.trap.0

-- no trap has a greater number, and none is farther from a point of the field
pub record HasLimits (c : Candidate) : Type 0 where
  pub few : c.trap.0 < 65536
  pub near : c.distance ≤ 2000000

-- a free storage trap with its distance
pub record IsFound (p : Places) (marks : List Bool) (from : Point) (c : Candidate) : Type 0 where
  pub limits : HasLimits c
  pub in_storage : c.trap.0 < storage_count p.architecture
  pub free : is_free p marks c.trap.0 ≡ true
  pub distance_is : c.distance ≡ distance_from p.architecture from c.trap.0

-- what was found, if anything, is a free storage trap, and is no worse than what was found before
pub record IsNoWorse (p : Places) (marks : List Bool) (from : Point) (old new : Option Candidate) : Type 0 where
  pub found : IfSome new (IsFound p marks from)
  pub no_worse : rank_of new ≤ rank_of old

-- each of so many traps from a number on is no better, or isn't free
abbrev pub AreNoBetter : Places → List Bool → Point → Option Candidate → ℕ → ℕ → Type 0
AreNoBetter p marks from best first count =
    (i : ℕ) → i < count → is_free p marks (first + i) ≡ true → rank_of best ≤ rank p from (first + i)
