-- The empty storage traps that are nearest to a trap or to a point.
use Rattle.std.specs.Prelude.{◌≡◌, ℕ, ◌+◌, ◌<◌, ◌≤◌, ◌==◌, ◌&&◌, ◌||◌, ◌⊎◌, Bool, false, nat_lt, IsTrue, List, All, Contains, count_by}
use Rattle.std.specs.List.{AllPairs, slice_index_or}
use Rattle.zac_arch.specs.Architecture.{Architecture, trap_points}
use Rattle.zac_arch.specs.Distances.{difference}
use Rattle.zac_arch.specs.declared.place.Point.{Point}
use Rattle.zac_world.specs.Places.{Places, empty_storage}
use Rattle.zac_world.specs.declared.walk.Candidate.{Candidate}

-- Where the trap of this number stands; (0,0) where there is no such trap.
abbrev pub point_of : Architecture → ℕ → Point
point_of a t = slice_index_or (trap_points a) t (record { x = 0; y = 0 })

-- How far a trap is from a point: in x, and in y, added.
abbrev pub distance_from : Architecture → Point → ℕ → ℕ
distance_from a p t = difference p.x (point_of a t).x + difference p.y (point_of a t).y

-- The distance of two traps: how far they are apart in x, and how far in y, added.
abbrev pub trap_distance : Architecture → ℕ → ℕ → ℕ
trap_distance a s t =
    difference (point_of a s).x (point_of a t).x + difference (point_of a s).y (point_of a t).y

-- From a trap, s is nearer than t: its distance is smaller, or it is the same and the number of s is smaller.
abbrev pub is_nearer : Architecture → ℕ → ℕ → ℕ → Bool
is_nearer a from s t =
    nat_lt (trap_distance a from s) (trap_distance a from t)
    || (trap_distance a from s == trap_distance a from t && nat_lt s t)

-- How many empty storage traps are nearer to a trap than t.
abbrev pub nearer_count : Places → ℕ → ℕ → ℕ
nearer_count p from t = count_by (λ s. is_nearer p.architecture from s t) (empty_storage p)

-- The trap t is an empty storage trap, and fewer than so many empty storage traps are nearer.
pub record IsAmongNearest (p : Places) (from count t : ℕ) : Type 0 where
  pub empty : Contains (empty_storage p) t
  pub few : nearer_count p from t < count

-- These are the nearest empty storage traps, so many or as many as there are, the nearest first.
pub record AreNearest (p : Places) (from count : ℕ) (traps : List ℕ) : Type 0 where
  pub each : All (IsAmongNearest p from count) traps
  pub none_left_out : (t : ℕ) → IsAmongNearest p from count t → Contains traps t
  pub in_order : AllPairs (λ s t. IsTrue (is_nearer p.architecture from s t)) traps

-- The trap is an empty storage trap that isn't marked.
abbrev pub IsFree : Places → List Bool → ℕ → Type 0
IsFree p marks t = Contains (empty_storage p) t × (slice_index_or marks t false ≡ false)

-- It is a free trap with its distance from a point, and each free trap is farther, or as far and of no smaller number.
pub record IsNearestFree (p : Places) (marks : List Bool) (from : Point) (c : Candidate) : Type 0 where
  pub free : IsFree p marks c.trap.0
  pub distance_is : c.distance ≡ distance_from p.architecture from c.trap.0
  pub least : (t : ℕ) → IsFree p marks t → (c.distance < distance_from p.architecture from t) ⊎ ((c.distance ≡ distance_from p.architecture from t) × (c.trap.0 ≤ t))
