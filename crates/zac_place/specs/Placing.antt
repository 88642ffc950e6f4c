-- Places of their own for rows at the least cost, and the prices that prove it least.
use Rattle.std.specs.Prelude.{ℕ, ◌≡◌, ◌≢◌, ◌+◌, ◌<◌, ◌≤◌, List, [], ◌∷◌, length, Some, ℤ, pos, ◌+ℤ◌, ◌≤ℤ◌}
use Rattle.std.specs.List.{All, AllPairs, Contains, slice_get}
use Rattle.zac_assign.specs.Assignment.{price_at}

-- Each of so many rows has a place of its own, among those that are offered.
pub record IsPlacing (offered : List ℕ) (rows : ℕ) (places : List ℕ) : Type 0 where
  pub each_row : length places ≡ rows
  pub offers : All (Contains offered) places
  pub distinct : AllPairs (λ a b. a ≢ b) places

-- What the rows from this one on pay at these places.
abbrev pub paid_from : (ℕ → ℕ → ℕ) → ℕ → List ℕ → ℕ
paid_from cost row [] = 0
paid_from cost row (place ∷ places) = cost row place + paid_from cost (row + 1) places

-- What all rows pay, where the cost is that of a row at a place.
abbrev pub paid : (ℕ → ℕ → ℕ) → List ℕ → ℕ
paid cost places = paid_from cost 0 places

-- It is a placing, and no placing costs less.
pub record IsLeastPlacing (cost : ℕ → ℕ → ℕ) (offered : List ℕ) (rows : ℕ) (places : List ℕ) : Type 0 where
  pub placing : IsPlacing offered rows places
  pub least : (others : List ℕ) → IsPlacing offered rows others → paid cost places ≤ paid cost others

-- There is a price for each row and for each offered place, in the order of the offer; the two prices of a row and a
-- place are together at most the cost, and equal to it where the row is placed; a place's price is at most 0, and 0 where
-- no row is placed.
pub record ProvesPlacing (cost : ℕ → ℕ → ℕ) (offered : List ℕ) (rows : ℕ) (places : List ℕ) (row_price place_price : List ℤ) : Type 0 where
  pub each_row : length row_price ≡ rows
  pub each_place : length place_price ≡ length offered
  pub bound : (row k place : ℕ) → row < rows → slice_get offered k ≡ Some place → (price_at row_price row +ℤ price_at place_price k) ≤ℤ pos (cost row place)
  pub chosen : (row k place : ℕ) → slice_get places row ≡ Some place → slice_get offered k ≡ Some place → price_at row_price row +ℤ price_at place_price k ≡ pos (cost row place)
  pub at_most_zero : (k : ℕ) → k < length offered → price_at place_price k ≤ℤ pos 0
  pub zero_elsewhere : (k place : ℕ) → slice_get offered k ≡ Some place → ¬ Contains places place → price_at place_price k ≡ pos 0

-- Whatever the costs and the offer, in which no place comes twice: a placing that prices prove in that way is a least one.
abbrev pub PricesBoundEveryPlacing : Type 0
PricesBoundEveryPlacing = (cost : ℕ → ℕ → ℕ) (offered : List ℕ) (rows : ℕ) (places : List ℕ) (row_price place_price : List ℤ) → AllPairs (λ a b. a ≢ b) offered → IsPlacing offered rows places → ProvesPlacing cost offered rows places row_price place_price → IsLeastPlacing cost offered rows places
