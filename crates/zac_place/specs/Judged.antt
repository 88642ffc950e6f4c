-- Inside: what a proposal of returns is judged by.
use Rattle.std.specs.Prelude.{ℕ, ◌≡◌, ◌≢◌, ◌+◌, ◌<◌, ◌≤◌, ◌⊎◌, Bool, true, false, List, length, slice_index, ℤ, pos, map, IfSome, MatchOption}
use Rattle.std.specs.List.{All, AllPairs, Contains, slice_index_or}
use Rattle.zac_arch.specs.Distances.{difference}
use Rattle.zac_arch.specs.declared.place.Point.{Point}
use Rattle.zac_assign.specs.Assignment.{price_at}
use Rattle.zac_world.specs.Nearest.{IsFree, IsNearestFree, point_of}
use Rattle.zac_world.specs.Places.{Places, empty_storage}
use Rattle.zac_place.specs.Offers.{price_of}
use Rattle.zac_place.specs.Placing.{IsPlacing, ProvesPlacing}
use Rattle.zac_place.specs.Returns.{AreNear, return_cost, trap_in}
use Rattle.zac_place.specs.declared.judge.Row.{Row}

-- how far two points are apart in x, and how far in y, added
abbrev pub apart : Point → Point → ℕ
apart p q = difference p.x q.x + difference p.y q.y

-- the traps are empty storage traps, none comes twice, and no others are marked
pub record AreMarked (p : Places) (targets : List ℕ) (marks : List Bool) : Type 0 where
  pub empty : All (Contains (empty_storage p)) targets
  pub distinct : AllPairs (λ s t. s ≢ t) targets
  pub marked : (t : ℕ) → slice_index_or marks t false ≡ true → Contains targets t

-- its points are on the field, and its price and its fee are no greater than this
pub record HasRoom (r : Row) : Type 0 where
  pub origin_x : r.origin.x ≤ 1000000
  pub origin_y : r.origin.y ≤ 1000000
  pub place_x : r.place.x ≤ 1000000
  pub place_y : r.place.y ≤ 1000000
  pub price_most : r.price ≤ 1000000000
  pub fee_most : r.fee ≤ 1000000000

-- the row of a qubit that is to go to the target at the price: the price is the cost and the fee of the target
pub record IsRow (p : Places) (marks : List Bool) (q target : ℕ) (price : ℤ) (r : Row) : Type 0 where
  pub room : HasRoom r
  pub origin_is : r.origin ≡ point_of p.architecture (trap_in p q)
  pub target_is : r.target.0 ≡ target
  pub place_is : r.place ≡ point_of p.architecture target
  pub price_is : price ≡ pos r.price
  pub priced : r.price ≡ apart r.origin r.place + r.fee
  pub free_is : MatchOption r.free ((t : ℕ) → ¬ IsFree p marks t) (IsNearestFree p marks r.origin)

-- a row for each qubit
pub record AreRows (p : Places) (marks : List Bool) (leaving targets : List ℕ) (prices : List ℤ) (rows : List Row) : Type 0 where
  pub many : length rows ≡ length leaving
  pub each : (k : ℕ) (d : Row) → k < length leaving → IsRow p marks (slice_index leaving k) (slice_index targets k) (price_at prices k) (slice_index_or rows k d)

-- the row's price is at most what it pays at the other's target, with the fee there
abbrev pub IsBounded : Row → Row → Type 0
IsBounded r other = r.price ≤ apart r.origin other.place + other.fee

-- for the row, the other's target comes before each trap that is left free
abbrev pub IsBeforeFree : Row → Row → Type 0
IsBeforeFree r other =
    IfSome r.free (λ c. (apart r.origin other.place < c.distance) ⊎ ((apart r.origin other.place ≡ c.distance) × (other.target.0 < c.trap.0)))

-- for the row itself, or for some row, the row's target comes before each trap that is left free
abbrev pub IsNear : List Row → Row → Type 0
IsNear rows r =
    IsBeforeFree r r ⊎ ((k : ℕ) × (k < length rows) × ((d : Row) → IsBeforeFree (slice_index_or rows k d) r))

-- the row's price is at most what it pays anywhere, and its target is near to some row
pub record IsJudged (rows : List Row) (r : Row) : Type 0 where
  pub bound : (k : ℕ) (d : Row) → k < length rows → IsBounded r (slice_index_or rows k d)
  pub at_free : IfSome r.free (λ c. r.price ≤ c.distance)
  pub near : IsNear rows r

-- the targets are a placing that the prices prove, where a trap that is no target has the price 0; and they are near
pub record IsProved (p : Places) (leaving targets : List ℕ) (row_price : List ℤ) : Type 0 where
  pub placing : IsPlacing (empty_storage p) (length leaving) targets
  -- the prices of the targets
  pub target_price : List ℤ
  pub prices : ProvesPlacing (return_cost p leaving) (empty_storage p) (length leaving) targets row_price (map (price_of targets target_price) (empty_storage p))
  pub near : AreNear p leaving targets
