-- Prices bound every choice of columns.
use Rattle.std.proofs.Common.{ℕ, ◌≡◌, ◌≢◌, ◌+◌, ◌<◌, ◌≤◌, inl, inr, List, [], ◌∷◌, Option, Some, None, length, get_or, set, map, sum, ℤ, pos, negsuc, ◌+ℤ◌, ◌≤ℤ◌, neg_ℤ, sym, ◌∙◌, ap, arith, refl, subst, suc}
use Rattle.std.specs.Prelude.{slice_index}
use Rattle.std.specs.List.{All, AllPairs, Contains}
use Rattle.std.proofs.lemmas.List.{length-set, length-map, get_or-set_same, get_or-set_other, get_or_default, get_or-map}
use Rattle.std.proofs.lemmas.List.Sums.{sum_by-set, sum_by-cons}
use Rattle.std.proofs.lemmas.Int.{ints}
use Rattle.std.proofs.lemmas.Option.{same_Some}
use Rattle.std.proofs.lemmas.Bool.{cases_eq}
use Rattle.zac_assign.specs.Assignment.{Table, cost_at, IsAssignment, total_from, IsLeast, price_at, ProvesLeast}
use Rattle.zac_pairing.specs.Pairing.{mate, IsPairing}
use Rattle.zac_assign.specs.Search.{ArePrices}
use Rattle.zac_pairing.proofs.PairingFacts.{mate_in}

-- how much a price is below 0
below_zero : ℤ → ℕ
below_zero (pos n) = 0
below_zero (negsuc n) = suc n

below_zero_is : (z : ℤ) → z ≤ℤ pos 0 → z ≡ neg_ℤ (pos (below_zero z))
unfolding below_zero
below_zero_is (pos n) h = let zero : n ≡ 0 = omega (arith, ints) in ap pos zero
below_zero_is (negsuc n) h = refl

below_zero-zero : (z : ℤ) → z ≡ pos 0 → below_zero z ≡ 0
unfolding below_zero
below_zero-zero z e = ap below_zero e

-- the fees at these columns
fee_sum : List ℕ → List ℕ → ℕ
fee_sum fees [] = 0
fee_sum fees (c ∷ cs) = get_or fees c 0 + fee_sum fees cs

fee_sum-set : (fees : List ℕ) (c : ℕ) (cs : List ℕ) → ((k : ℕ) → k < length cs → get_or cs k 0 ≢ c) → fee_sum (set fees c 0) cs ≡ fee_sum fees cs
unfolding fee_sum
fee_sum-set fees c [] d = refl
fee_sum-set fees c (x ∷ cs) d =
    let here : get_or (set fees c 0) x 0 ≡ get_or fees x 0 = get_or-set_other fees c x 0 0 (d 0 (omega arith)) in
    let rest : fee_sum (set fees c 0) cs ≡ fee_sum fees cs = fee_sum-set fees c cs (λ k h. d (suc k) (omega arith)) in
    omega arith

set_sum : (fees : List ℕ) (c : ℕ) → c < length fees → sum (set fees c 0) + get_or fees c 0 ≡ sum fees
set_sum fees c h = let all : sum (set fees c 0) + get_or fees c 0 ≡ sum fees + 0 = sum_by-set (λ x. x) fees c 0 0 h in omega arith

-- columns no two of which are equal take no more than all fees
fee_sum-le : (cs fees : List ℕ) → AllPairs (λ a b. a ≢ b) cs → All (λ c. c < length fees) cs → fee_sum fees cs ≤ sum fees
unfolding fee_sum
fee_sum-le [] fees d h = omega arith
fee_sum-le (c ∷ cs) fees d h =
    let rest : fee_sum (set fees c 0) cs ≤ sum (set fees c 0) =
    fee_sum-le cs (set fees c 0)
    (λ i j e l m. d (suc i) (suc j) e (omega arith) (omega arith))
    (λ k e m. omega (arith, h (suc k) e (omega arith), length-set fees c 0)) in
    let same : fee_sum (set fees c 0) cs ≡ fee_sum fees cs = fee_sum-set fees c cs (λ k m s. d 0 (suc k) 0 (omega arith) (omega arith) (sym s)) in
    let all : sum (set fees c 0) + get_or fees c 0 ≡ sum fees = set_sum fees c (h 0 c (omega arith)) in
    omega arith

zero_sum : (fees : List ℕ) → ((k : ℕ) → k < length fees → get_or fees k 0 ≡ 0) → sum fees ≡ 0
zero_sum [] h = refl
zero_sum (x ∷ fees) h =
    let all : sum (x ∷ fees) ≡ x + sum fees = sum_by-cons (λ x. x) x fees in
    let here : x ≡ 0 = h 0 (omega arith) in
    let rest : sum fees ≡ 0 = zero_sum fees (λ k m. h (suc k) (omega arith)) in
    omega arith

-- columns outside which there is no fee take all fees
fee_sum-all : (cs fees : List ℕ) → AllPairs (λ a b. a ≢ b) cs → All (λ c. c < length fees) cs → ((x : ℕ) → x < length fees → ((k : ℕ) → k < length cs → get_or cs k 0 ≢ x) → get_or fees x 0 ≡ 0) → fee_sum fees cs ≡ sum fees
unfolding fee_sum
fee_sum-all [] fees d h z = let all : sum fees ≡ 0 = zero_sum fees (λ k m. z k m (λ i l. absurd (omega arith))) in omega arith
fee_sum-all (c ∷ cs) fees d h z =
    let c_in : c < length fees = h 0 c (omega arith) in
    let n : length (set fees c 0) ≡ length fees = length-set fees c 0 in
    let rest : fee_sum (set fees c 0) cs ≡ sum (set fees c 0) =
    fee_sum-all cs (set fees c 0)
    (λ i j e l m. d (suc i) (suc j) e (omega arith) (omega arith))
    (λ k e m. omega (arith, h (suc k) e (omega arith)))
    (λ x x_in out. elim (cases_eq x c) [
      | inl s ↦ ap (λ y. get_or (set fees c 0) y 0) s ∙ get_or-set_same fees c 0 0 c_in
      | inr o ↦ get_or-set_other fees c x 0 0 o ∙ z x (omega arith) (outside c cs x o out)
    ]) in
    let same : fee_sum (set fees c 0) cs ≡ fee_sum fees cs = fee_sum-set fees c cs (λ k m s. d 0 (suc k) 0 (omega arith) (omega arith) (sym s)) in
    let all : sum (set fees c 0) + get_or fees c 0 ≡ sum fees = set_sum fees c c_in in
    omega arith
  where
    outside : (c : ℕ) (cs : List ℕ) (x : ℕ) → x ≢ c → ((k : ℕ) → k < length cs → get_or cs k 0 ≢ x) → (k : ℕ) → k < length (c ∷ cs) → get_or (c ∷ cs) k 0 ≢ x
    outside c cs x o out Prim.Native.Nat.zero m s = o (sym s)
    outside c cs x o out (suc k) m s = out k (omega arith) s

-- row by row no more, in all no more
total_le : (table : Table) (fees : List ℕ) (r : ℕ) (xs ys : List ℕ) → length xs ≡ length ys → ((k row : ℕ) → k < length xs → row ≡ r + k → cost_at table row (get_or xs k 0) + get_or fees (get_or xs k 0) 0 ≤ cost_at table row (get_or ys k 0) + get_or fees (get_or ys k 0) 0) → total_from table r xs + fee_sum fees xs ≤ total_from table r ys + fee_sum fees ys
unfolding fee_sum
total_le table fees r [] [] n h = omega arith
total_le table fees r [] (y ∷ ys) n h = absurd (omega arith)
total_le table fees r (x ∷ xs) [] n h = absurd (omega arith)
total_le table fees r (x ∷ xs) (y ∷ ys) n h =
    let here : cost_at table r x + get_or fees x 0 ≤ cost_at table r y + get_or fees y 0 = h 0 r (omega arith) (omega arith) in
    let rest : total_from table (r + 1) xs + fee_sum fees xs ≤ total_from table (r + 1) ys + fee_sum fees ys =
    total_le table fees (r + 1) xs ys (omega arith) (λ k row m e. h (suc k) row (omega arith) (omega arith)) in
    omega arith

-- two sums with one price
compare : (u v w : ℤ) (a b x y : ℕ) → v ≡ neg_ℤ (pos x) → w ≡ neg_ℤ (pos y) → u +ℤ v ≡ pos a → (u +ℤ w) ≤ℤ pos b → a + x ≤ b + y
compare u v w a b x y ev ew e le = omega (arith, ints)

pub IsLeast-from_prices : (table : Table) (columns : List ℕ) (row_price column_price : List ℤ) → IsAssignment table columns → ProvesLeast table columns row_price column_price → IsLeast table columns
IsLeast-from_prices table columns row_price column_price assigned prices = λ others other.
    let fees : List ℕ = map below_zero column_price in
    let n : length fees ≡ table.columns = length-map column_price below_zero ∙ prices.each_column in
    let fee_at : (c : ℕ) → c < table.columns → get_or fees c 0 ≡ below_zero (price_at column_price c) = λ c h. get_or-map below_zero column_price c (pos 0) 0 (omega (arith, prices.each_column)) in
    let lowered : (c : ℕ) → c < table.columns → price_at column_price c ≡ neg_ℤ (pos (get_or fees c 0)) = λ c h.
    below_zero_is (price_at column_price c) (prices.at_most_zero c h) ∙ ap (λ x. neg_ℤ (pos x)) (sym (fee_at c h)) in
    let step : (k row : ℕ) → k < length columns → row ≡ 0 + k → cost_at table row (get_or columns k 0) + get_or fees (get_or columns k 0) 0 ≤ cost_at table row (get_or others k 0) + get_or fees (get_or others k 0) 0 = λ k row h e.
    let row_is : k ≡ row = omega arith in
    let in_table : k < table.rows = omega (arith, assigned.each_row) in
    let a_in : get_or columns k 0 < table.columns = assigned.in_range k 0 h in
    let b_in : get_or others k 0 < table.columns = other.in_range k 0 (omega (arith, assigned.each_row, other.each_row)) in
    let P : ℕ → Type 0 = λ r. cost_at table r (get_or columns k 0) + get_or fees (get_or columns k 0) 0 ≤ cost_at table r (get_or others k 0) + get_or fees (get_or others k 0) 0 in
    subst P row_is (compare (price_at row_price k) (price_at column_price (get_or columns k 0)) (price_at column_price (get_or others k 0)) (cost_at table k (get_or columns k 0)) (cost_at table k (get_or others k 0)) (get_or fees (get_or columns k 0) 0) (get_or fees (get_or others k 0) 0)
    (lowered (get_or columns k 0) a_in) (lowered (get_or others k 0) b_in) (prices.chosen k in_table) (prices.bound k (get_or others k 0) in_table b_in)) in
    let sums : total_from table 0 columns + fee_sum fees columns ≤ total_from table 0 others + fee_sum fees others = total_le table fees 0 columns others (omega (arith, assigned.each_row, other.each_row)) step in
    let ours : fee_sum fees columns ≡ sum fees = fee_sum-all columns fees assigned.distinct (λ k d h. omega (arith, assigned.in_range k d h))
    (λ x x_in out.
    let c_in : x < table.columns = omega arith in
    fee_at x c_in ∙ below_zero-zero (price_at column_price x) (prices.zero_elsewhere x c_in (λ c. out c.0 c.1 (get_or_default columns c.0 0 x c.1 ∙ c.2)))) in
    let theirs : fee_sum fees others ≤ sum fees = fee_sum-le others fees other.distinct (λ k d h. omega (arith, other.in_range k d h)) in
    omega arith

-- ---- what the search leaves proves its answer

module _ (table : Table) (price fee : List ℕ) (columns rows : List (Option ℕ)) (chosen : List ℕ) (prices : ArePrices table price fee columns rows) (pairing : IsPairing columns rows) (columns_len : length columns ≡ table.rows) (rows_len : length rows ≡ table.columns) (chosen_len : length chosen ≡ table.rows) (own : (r : ℕ) → r < table.rows → mate columns r ≡ Some (slice_index chosen r)) where
  chosen_in : (r : ℕ) → r < table.rows → slice_index chosen r < table.columns
  chosen_in r h = omega (arith, mate_in rows (slice_index chosen r) r (pairing.there r (slice_index chosen r) (own r h)))

  chosen_apart : (i j : ℕ) → i < table.rows → j < table.rows → slice_index chosen i ≡ slice_index chosen j → i ≡ j
  chosen_apart i j h m s =
      let at_i : mate rows (slice_index chosen i) ≡ Some i = pairing.there i (slice_index chosen i) (own i h) in
      let at_j : mate rows (slice_index chosen j) ≡ Some j = pairing.there j (slice_index chosen j) (own j m) in
      same_Some i j (sym at_i ∙ (ap (mate rows) s ∙ at_j))

  pub IsAssignment-chosen : IsAssignment table chosen
  IsAssignment-chosen = record {
    each_row = chosen_len;
    in_range = λ k d h. let P : ℕ → Type 0 = λ x. x < table.columns in subst P (get_or_default chosen k 0 d h) (chosen_in k (omega arith));
    distinct = λ i j d l h s.
        let same : i ≡ j = chosen_apart i j (omega arith) (omega arith) (get_or_default chosen i 0 d (omega arith) ∙ (s ∙ get_or_default chosen j d 0 h)) in
        omega arith;
  }

  module _ (row_price column_price : List ℤ) (price_len : length price ≡ table.rows) (fee_len : length fee ≡ table.columns) (row_price_len : length row_price ≡ length price) (column_price_len : length column_price ≡ length fee) (each_row : (k : ℕ) → k < length price → price_at row_price k ≡ pos (slice_index price k)) (each_column : (k : ℕ) → k < length fee → price_at column_price k ≡ neg_ℤ (pos (slice_index fee k))) where
    pub ProvesLeast-chosen : ProvesLeast table chosen row_price column_price
    ProvesLeast-chosen = record {
      each_row = row_price_len ∙ price_len;
      each_column = column_price_len ∙ fee_len;
      bound = λ r c h m.
          let u : price_at row_price r ≡ pos (slice_index price r) = each_row r (omega arith) in
          let v : price_at column_price c ≡ neg_ℤ (pos (slice_index fee c)) = each_column c (omega arith) in
          under (price_at row_price r) (price_at column_price c) (slice_index price r) (slice_index fee c) (cost_at table r c) u v (prices.bound r c h m);
      chosen = λ r h.
          let c = slice_index chosen r in
          let u : price_at row_price r ≡ pos (slice_index price r) = each_row r (omega arith) in
          let v : price_at column_price c ≡ neg_ℤ (pos (slice_index fee c)) = each_column c (omega (arith, chosen_in r h)) in
          equal (price_at row_price r) (price_at column_price c) (slice_index price r) (slice_index fee c) (cost_at table r c) u v (prices.own r c (own r h));
      at_most_zero = λ c h. low (price_at column_price c) (slice_index fee c) (each_column c (omega arith));
      zero_elsewhere = λ c h out.
          let none : mate rows c ≡ None = alone (mate rows c) c h refl out in
          each_column c (omega arith) ∙ ap (λ x. neg_ℤ (pos x)) (prices.free c h none);
    }
      where
        under : (u v : ℤ) (p f a : ℕ) → u ≡ pos p → v ≡ neg_ℤ (pos f) → p ≤ a + f → (u +ℤ v) ≤ℤ pos a
        under u v p f a eu ev h = omega (arith, ints)

        equal : (u v : ℤ) (p f a : ℕ) → u ≡ pos p → v ≡ neg_ℤ (pos f) → p ≡ a + f → u +ℤ v ≡ pos a
        equal u v p f a eu ev h = omega (arith, ints)

        low : (v : ℤ) (f : ℕ) → v ≡ neg_ℤ (pos f) → v ≤ℤ pos 0
        low v f ev = omega (arith, ints)

        alone : (o : Option ℕ) (c : ℕ) → c < table.columns → mate rows c ≡ o → (Contains chosen c → ⊥) → mate rows c ≡ None
        alone None c h e out = e
        alone (Some r) c h e out =
            let at : mate columns r ≡ Some c = pairing.back r c e in
            let r_in : r < table.rows = omega (arith, mate_in columns r c at) in
            let same : slice_index chosen r ≡ c = same_Some (slice_index chosen r) c (sym (own r r_in) ∙ at) in
            absurd (out (r, omega arith, get_or_default chosen r c 0 (omega arith) ∙ same))
