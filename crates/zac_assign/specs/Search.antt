use Rattle.std.specs.Prelude.{ℕ, ◌≡◌, ◌+◌, ◌<◌, ◌≤◌, ◌⊎◌, List, Option, Some, None, Bool, true, false, length, slice_index, slice_index_or, sum_by}
use Rattle.zac_assign.specs.Assignment.{Table, cost_at}
use Rattle.zac_pairing.specs.Pairing.{mate}
use Rattle.zac_pairing.specs.Tree.{IsTree, left_at, from_at}
use Rattle.zac_pairing.specs.declared.tree.Step.{Step}

-- The column is in the tree.
abbrev pub is_used : List Bool → ℕ → Bool
is_used used column = slice_index_or used column false

-- Prices of the rows, and fees that are to be paid on top at the columns: no row pays less than its price
-- anywhere, each row with a column pays just its price there, and a column that no row has is free of a
-- fee.
pub record ArePrices (table : Table) (price fee : List ℕ) (columns rows : List (Option ℕ)) : Type 0 where
  pub bound : (r c : ℕ) → r < table.rows → c < table.columns → slice_index price r ≤ cost_at table r c + slice_index fee c
  pub own : (r c : ℕ) → mate columns r ≡ Some c → slice_index price r ≡ cost_at table r c + slice_index fee c
  pub free : (c : ℕ) → c < table.columns → mate rows c ≡ None → slice_index fee c ≡ 0

-- How far a search has come. Its steps are a tree; the root's price is what was raised so far; the used columns are
-- exactly those of rows in the tree; each later row was reached over its own column, where the row before it pays just
-- its price. The distance of an unused column is how much the tree's prices are raised in all when one of its rows
-- first pays just its price there.
pub record IsSearch (table : Table) (price fee : List ℕ) (columns : List (Option ℕ)) (used : List Bool) (distance from : List ℕ) (steps : List Step) (raised : ℕ) : Type 0 where
  pub tree : IsTree columns steps (length steps)
  pub root_price : slice_index price (left_at steps 0) ≡ raised
  pub through : (k c : ℕ) → k < length steps → mate columns (left_at steps k) ≡ Some c → is_used used c ≡ true
  pub queued : (c : ℕ) → is_used used c ≡ true → (k : ℕ) × (k < length steps) × (mate columns (left_at steps k) ≡ Some c)
  pub edges : (k c : ℕ) → 0 < k → k < length steps → mate columns (left_at steps k) ≡ Some c → slice_index price (left_at steps (from_at steps k)) ≡ cost_at table (left_at steps (from_at steps k)) c + slice_index fee c
  pub near : (k c : ℕ) → k < length steps → c < table.columns → is_used used c ≡ false → slice_index price (left_at steps k) + slice_index distance c ≤ cost_at table (left_at steps k) c + slice_index fee c + raised
  pub attained : (c : ℕ) → c < table.columns → is_used used c ≡ false → (slice_index from c < length steps) × (slice_index price (left_at steps (slice_index from c)) + slice_index distance c ≡ cost_at table (left_at steps (slice_index from c)) c + slice_index fee c + raised)

-- The end of a search: a tree whose later rows were reached in that way, a column that no row has, and a row of the
-- tree that pays just its price there.
pub record IsFound (table : Table) (price fee : List ℕ) (columns rows : List (Option ℕ)) (steps : List Step) (from column : ℕ) : Type 0 where
  pub tree : IsTree columns steps (length steps)
  pub edges : (k c : ℕ) → 0 < k → k < length steps → mate columns (left_at steps k) ≡ Some c → slice_index price (left_at steps (from_at steps k)) ≡ cost_at table (left_at steps (from_at steps k)) c + slice_index fee c
  pub from_in : from < length steps
  pub column_in : column < table.columns
  pub free : mate rows column ≡ None
  pub own : slice_index price (left_at steps from) ≡ cost_at table (left_at steps from) column + slice_index fee column

-- The column is not used, and no unused column has a smaller distance.
pub record IsNearest (used : List Bool) (distance : List ℕ) (column : ℕ) : Type 0 where
  pub inside : column < length distance
  pub unused : is_used used column ≡ false
  pub least : (c : ℕ) → c < length distance → is_used used c ≡ false → slice_index distance column ≤ slice_index distance c

-- The numbers of the rows in the tree are raised by this much, and no others.
pub record RaisesRows (steps : List Step) (n by : ℕ) (old new : List ℕ) : Type 0 where
  pub same_len : length new ≡ length old
  pub inside : (k : ℕ) → k < n → slice_index new (left_at steps k) ≡ slice_index old (left_at steps k) + by
  pub outside : (r : ℕ) → ((k : ℕ) → k < n → left_at steps k ≡ r → ⊥) → slice_index new r ≡ slice_index old r

-- The numbers of the columns of the rows in the tree are raised by this much, and no others.
pub record RaisesColumns (columns : List (Option ℕ)) (steps : List Step) (n by : ℕ) (old new : List ℕ) : Type 0 where
  pub same_len : length new ≡ length old
  pub inside : (k c : ℕ) → k < n → mate columns (left_at steps k) ≡ Some c → slice_index new c ≡ slice_index old c + by
  pub outside : (c : ℕ) → ((k : ℕ) → k < n → mate columns (left_at steps k) ≡ Some c → ⊥) → slice_index new c ≡ slice_index old c

-- A row joined the tree at a place. Either the row doesn't bring the column nearer, and its distance and its origin
-- stay; or the distance, no greater than before, is that of the row, and the origin is the row's place.
abbrev pub Relaxes : Table → ℕ → List ℕ → ℕ → ℕ → ℕ → ℕ → List ℕ → List ℕ → List ℕ → List ℕ → Type 0
Relaxes table price fee row place raised c distance distance' from from' =
    ((slice_index distance' c ≡ slice_index distance c) × (slice_index from' c ≡ slice_index from c) × (price + slice_index distance c ≤ cost_at table row c + slice_index fee c + raised))
    ⊎ ((price + slice_index distance' c ≡ cost_at table row c + slice_index fee c + raised) × (slice_index from' c ≡ place) × (slice_index distance' c ≤ slice_index distance c))

-- 0 for a used column, and 1 for another.
abbrev pub one_if_unused : Bool → ℕ
one_if_unused true = 0
one_if_unused false = 1

-- How many columns are not used.
abbrev pub unused_count : List Bool → ℕ
unused_count used = sum_by one_if_unused used
