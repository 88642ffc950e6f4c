-- Placings and assignments: what one tells of the other.
use Rattle.std.proofs.Common.{ℕ, zero, suc, ◌≡◌, ◌≢◌, ◌==◌, ◌+◌, ◌*◌, ◌<◌, ◌≤◌, Bool, true, false, cond, List, [], ◌∷◌, ◌++◌, Some, length, map, get_or, ℤ, pos, ◌+ℤ◌, ◌≤ℤ◌, refl, sym, ap, ◌∙◌, subst, ⊎_elim, arith}
use Rattle.std.specs.Prelude.{slice_index, Result, Ok, Err, IfOk}
use Rattle.std.specs.List.{All, AllPairs, Contains, slice_get}
use Rattle.std.proofs.lemmas.Bool.{cases_lt, eqb-true, eq-eqb}
use Rattle.std.proofs.lemmas.List.{length-map, get_or_append_left, get_or-append-add, get_or-map, get_or_default}
use Rattle.std.proofs.lemmas.Option.{slice_get-get_or, slice_get_within, get_or_from_slice_get}
use Rattle.zac_assign.specs.Assignment.{Table, cost_at, IsAssignment, total_from, price_at, ProvesLeast}
use Rattle.zac_assign.proofs.Bound.{IsLeast-from_prices}
use Rattle.zac_place.specs.Placing.{IsPlacing, paid_from, ProvesPlacing, PricesBoundEveryPlacing}
use Rattle.zac_place.specs.Tables.{Tabulates}

-- where no element comes twice, equal elements stand at one place
pub one_place : (xs : List ℕ) (i j : ℕ) → AllPairs (λ a b. a ≢ b) xs → i < length xs → j < length xs → get_or xs i 0 ≡ get_or xs j 0 → i ≡ j
one_place xs i j distinct i_in j_in same =
    ⊎_elim
    (λ (lt : i < j). absurd (distinct i j 0 lt j_in same))
    (λ (le : j ≤ i).
    ⊎_elim
    (λ (lt : j < i). absurd (distinct j i 0 lt i_in (sym same)))
    (λ (ge : i ≤ j). let e : i ≡ j = omega arith in e)
    (cases_lt j i))
    (cases_lt i j)

-- an element of a list by its place
pub element_at : (xs : List ℕ) (k x : ℕ) → slice_get xs k ≡ Some x → (k < length xs) × (get_or xs k 0 ≡ x)
element_at xs k x is = (slice_get_within xs k x is, get_or_from_slice_get xs k x 0 is)

-- ---- a table of any costs

-- the costs of so many rows from this one on, row after row
costs_from : (ℕ → ℕ → ℕ) → List ℕ → ℕ → ℕ → List ℕ
costs_from cost offered row zero = []
costs_from cost offered row (suc n) = map (cost row) offered ++ costs_from cost offered (row + 1) n

costs_from-at : (cost : ℕ → ℕ → ℕ) (offered : List ℕ) (n row r k : ℕ) → r < n → k < length offered → get_or (costs_from cost offered row n) (r * length offered + k) 0 ≡ cost (row + r) (get_or offered k 0)
unfolding costs_from
costs_from-at cost offered zero row r k h m = absurd (omega arith)
costs_from-at cost offered (suc n) row zero k h m =
    let first : k < length (map (cost row) offered) = omega (arith, length-map offered (cost row)) in
    let here : row ≡ row + 0 = omega arith in
    let at : 0 * length offered + k ≡ k = omega arith in
    ap (λ i. get_or (map (cost row) offered ++ costs_from cost offered (row + 1) n) i 0) at
    ∙ get_or_append_left (map (cost row) offered) (costs_from cost offered (row + 1) n) 0 k first
    ∙ get_or-map (cost row) offered k 0 0 m
    ∙ ap (λ x. cost x (get_or offered k 0)) here
costs_from-at cost offered (suc n) row (suc r) k h m =
    let rest = costs_from cost offered (row + 1) n in
    let size : length (map (cost row) offered) ≡ length offered = length-map offered (cost row) in
    let at : suc r * length offered + k ≡ length (map (cost row) offered) + (r * length offered + k) = omega arith in
    let here : (row + 1) + r ≡ row + suc r = omega arith in
    ap (λ i. get_or (map (cost row) offered ++ rest) i 0) at
    ∙ get_or-append-add (map (cost row) offered) rest (r * length offered + k) 0
    ∙ costs_from-at cost offered n (row + 1) r k (omega arith) m
    ∙ ap (λ x. cost x (get_or offered k 0)) here

table_of : (ℕ → ℕ → ℕ) → List ℕ → ℕ → Table
table_of cost offered rows = record { rows = rows; columns = length offered; costs = costs_from cost offered 0 rows }

Tabulates-table_of : (cost : ℕ → ℕ → ℕ) (offered : List ℕ) (rows : ℕ) → Tabulates cost offered rows (table_of cost offered rows)
unfolding table_of
Tabulates-table_of cost offered rows =
    record {
      rows_are = refl;
      columns_are = refl;
      costs_are = λ row k place h is.
          let e = element_at offered k place is in
          let here : 0 + row ≡ row = omega arith in
          costs_from-at cost offered rows 0 row k h e.0 ∙ ap (λ x. cost x (get_or offered k 0)) here ∙ ap (cost row) e.1;
    }

-- ---- from places to columns

-- where a place stands in the offer
column_of : List ℕ → ℕ → ℕ
column_of [] place = 0
column_of (o ∷ offered) place = cond (o == place) 0 (column_of offered place + 1)

column_of-found : (offered : List ℕ) (place : ℕ) → Contains offered place → (column_of offered place < length offered) × (get_or offered (column_of offered place) 0 ≡ place)
unfolding column_of
column_of-found [] place (k, lt, is) = absurd (omega arith)
column_of-found (o ∷ offered) place found = by_case (o == place) refl (λ in_rest. column_of-found offered place in_rest)
  where
    later : (o == place) ≡ false → Contains (o ∷ offered) place → Contains offered place
    later apart (zero, lt, is) = let yes : (o == place) ≡ true = eq-eqb o place is in cc
    later apart (suc k, lt, is) = (k, omega arith, is)

    by_case : (b : Bool) → (o == place) ≡ b → (Contains offered place → (column_of offered place < length offered) × (get_or offered (column_of offered place) 0 ≡ place)) → (cond b 0 (column_of offered place + 1) < length (o ∷ offered)) × (get_or (o ∷ offered) (cond b 0 (column_of offered place + 1)) 0 ≡ place)
    by_case true e in_rest = (omega arith, eqb-true o place e)
    by_case false e in_rest =
        let rest = in_rest (later e found) in
        let at : column_of offered place + 1 ≡ suc (column_of offered place) = omega arith in
        (omega (arith, rest.0), ap (λ i. get_or (o ∷ offered) i 0) at ∙ rest.1)

columns_of : List ℕ → List ℕ → List ℕ
columns_of offered places = map (column_of offered) places

columns_of-at : (offered places : List ℕ) (row d : ℕ) → row < length places → get_or (columns_of offered places) row d ≡ column_of offered (get_or places row 0)
unfolding columns_of
columns_of-at offered places row d h = get_or-map (column_of offered) places row 0 d h

length-columns_of : (offered places : List ℕ) → length (columns_of offered places) ≡ length places
unfolding columns_of
length-columns_of offered places = length-map places (column_of offered)

-- what places cost is what their columns cost
total-columns_of : (cost : ℕ → ℕ → ℕ) (offered : List ℕ) (rows : ℕ) (table : Table) → Tabulates cost offered rows table → (row : ℕ) (places : List ℕ) → row + length places ≤ rows → All (Contains offered) places → total_from table row (columns_of offered places) ≡ paid_from cost row places
unfolding columns_of
total-columns_of cost offered rows table tab row [] within offers = refl
total-columns_of cost offered rows table tab row (place ∷ places) within offers =
    let found = column_of-found offered place (offers 0 place (omega arith)) in
    let column = column_of offered place in
    let here : cost_at table row column ≡ cost row place = tab.costs_are row column place (omega arith) (slice_get-get_or offered column 0 found.0 ∙ ap (λ x. Some x) found.1) in
    let rest = total-columns_of cost offered rows table tab (row + 1) places (omega arith) (λ k d lt. offers (suc k) d (omega arith)) in
    cc

module _ (cost : ℕ → ℕ → ℕ) (offered : List ℕ) (rows : ℕ) (table : Table) (tab : Tabulates cost offered rows table) (apart : AllPairs (λ a b. a ≢ b) offered) where
  IsAssignment-columns_of : (places : List ℕ) → IsPlacing offered rows places → IsAssignment table (columns_of offered places)
  IsAssignment-columns_of places placing =
      record {
        each_row = length-columns_of offered places ∙ placing.each_row ∙ sym tab.rows_are;
        in_range = λ k d h.
            let lt : k < length places = omega (arith, length-columns_of offered places) in
            let found = column_of-found offered (get_or places k 0) (placing.offers k 0 lt) in
            subst (λ (x : ℕ). x < table.columns) (sym (columns_of-at offered places k d lt)) (omega (arith, found.0, tab.columns_are));
        distinct = λ i j d lt h same.
            let j_in : j < length places = omega (arith, length-columns_of offered places) in
            let i_in : i < length places = omega arith in
            let a = column_of-found offered (get_or places i 0) (placing.offers i 0 i_in) in
            let b = column_of-found offered (get_or places j 0) (placing.offers j 0 j_in) in
            let columns : column_of offered (get_or places i 0) ≡ column_of offered (get_or places j 0) = sym (columns_of-at offered places i d i_in) ∙ same ∙ columns_of-at offered places j d j_in in
            placing.distinct i j 0 lt j_in (sym a.1 ∙ ap (λ k. get_or offered k 0) columns ∙ b.1);
      }

  ProvesLeast-columns_of : (places : List ℕ) (row_price place_price : List ℤ) → IsPlacing offered rows places → ProvesPlacing cost offered rows places row_price place_price → ProvesLeast table (columns_of offered places) row_price place_price
  ProvesLeast-columns_of places row_price place_price placing prices =
      record {
        each_row = prices.each_row ∙ sym tab.rows_are;
        each_column = prices.each_place ∙ sym tab.columns_are;
        bound = λ row column h m.
            let lt : row < rows = omega (arith, tab.rows_are) in
            let is = slice_get-get_or offered column 0 (omega (arith, tab.columns_are)) in
            subst (λ (x : ℕ). (price_at row_price row +ℤ price_at place_price column) ≤ℤ pos x) (sym (tab.costs_are row column (get_or offered column 0) lt is)) (prices.bound row column (get_or offered column 0) lt is);
        chosen = λ row h.
            let lt : row < rows = omega (arith, tab.rows_are) in
            let row_in : row < length places = omega (arith, placing.each_row) in
            let place = get_or places row 0 in
            let found = column_of-found offered place (placing.offers row 0 row_in) in
            let is : slice_get offered (column_of offered place) ≡ Some place = slice_get-get_or offered (column_of offered place) 0 found.0 ∙ ap (λ x. Some x) found.1 in
            subst (λ (k : ℕ). price_at row_price row +ℤ price_at place_price k ≡ pos (cost_at table row k)) (sym (columns_of-at offered places row 0 row_in))
            (prices.chosen row (column_of offered place) place (slice_get-get_or places row 0 row_in) is ∙ ap (λ x. pos x) (sym (tab.costs_are row (column_of offered place) place lt is)));
        at_most_zero = λ column h. prices.at_most_zero column (omega (arith, tab.columns_are));
        zero_elsewhere = λ column h out.
            let column_in : column < length offered = omega (arith, tab.columns_are) in
            prices.zero_elsewhere column (get_or offered column 0) (slice_get-get_or offered column 0 column_in)
            (λ found. out (taken places column column_in placing found));
      }
    where
      -- a place that is taken has its column taken
      taken : (places : List ℕ) (column : ℕ) → column < length offered → IsPlacing offered rows places → Contains places (get_or offered column 0) → Contains (columns_of offered places) column
      taken places column column_in placing (k, lt, is) =
          let at : get_or places k 0 ≡ get_or offered column 0 = get_or_default places k 0 (get_or offered column 0) lt ∙ is in
          let found = column_of-found offered (get_or places k 0) (placing.offers k 0 lt) in
          let same : column_of offered (get_or places k 0) ≡ column = one_place offered (column_of offered (get_or places k 0)) column apart found.0 column_in (found.1 ∙ at) in
          (k, omega (arith, length-columns_of offered places), columns_of-at offered places k column lt ∙ same)

-- prices that prove a placing bound every placing
pub IsLeastPlacing-from_prices : PricesBoundEveryPlacing
IsLeastPlacing-from_prices cost offered rows places row_price place_price apart placing prices =
    let table = table_of cost offered rows in
    let tab = Tabulates-table_of cost offered rows in
    let least = IsLeast-from_prices table (columns_of offered places) row_price place_price (IsAssignment-columns_of cost offered rows table tab apart places placing) (ProvesLeast-columns_of cost offered rows table tab apart places row_price place_price placing prices) in
    let total : (others : List ℕ) → IsPlacing offered rows others → total_from table 0 (columns_of offered others) ≡ paid_from cost 0 others = λ others other.
    total-columns_of cost offered rows table tab 0 others (omega (arith, other.each_row)) other.offers in
    record {
      placing = placing;
      least = λ others other. omega (arith, total places placing, total others other, least (columns_of offered others) (IsAssignment-columns_of cost offered rows table tab apart others other));
    }

-- ---- from columns to places

module _ (offered : List ℕ) (table : Table) (columns_are : table.columns ≡ length offered) (apart : AllPairs (λ a b. a ≢ b) offered) (columns : List ℕ) (assigned : IsAssignment table columns) where
  -- the place of a row
  place_at : (row d : ℕ) → row < length columns → (get_or columns row 0 < length offered) × (get_or (map (slice_index offered) columns) row d ≡ get_or offered (get_or columns row 0) 0)
  place_at row d h = (omega (arith, assigned.in_range row 0 h), get_or-map (slice_index offered) columns row 0 d h)

  pub IsPlacing-from_assignment : IsPlacing offered table.rows (map (slice_index offered) columns)
  IsPlacing-from_assignment =
      let len : length (map (slice_index offered) columns) ≡ length columns = length-map columns (slice_index offered) in
      record {
        each_row = len ∙ assigned.each_row;
        offers = λ k d h.
            let at = place_at k d (omega arith) in
            subst (Contains offered) (sym at.1) (get_or columns k 0, at.0, get_or_default offered (get_or columns k 0) (get_or offered (get_or columns k 0) 0) 0 at.0);
        distinct = λ i j d lt h same.
            let j_in : j < length columns = omega arith in
            let i_in : i < length columns = omega arith in
            let a = place_at i d i_in in
            let b = place_at j d j_in in
            assigned.distinct i j 0 lt j_in (one_place offered (get_or columns i 0) (get_or columns j 0) apart a.0 b.0 (sym a.1 ∙ same ∙ b.1));
      }

  pub ProvesPlacing-from_assignment : (row_price place_price : List ℤ) → ProvesLeast table columns row_price place_price → (cost : ℕ → ℕ → ℕ) → Tabulates cost offered table.rows table → ProvesPlacing cost offered table.rows (map (slice_index offered) columns) row_price place_price
  ProvesPlacing-from_assignment row_price place_price prices cost tab =
      record {
        each_row = prices.each_row;
        each_place = prices.each_column ∙ columns_are;
        bound = λ row k place h is.
            let e = element_at offered k place is in
            subst (λ (x : ℕ). (price_at row_price row +ℤ price_at place_price k) ≤ℤ pos x) (tab.costs_are row k place h is) (prices.bound row k h (omega (arith, e.0)));
        chosen = λ row k place placed is.
            let r = element_at (map (slice_index offered) columns) row place placed in
            let e = element_at offered k place is in
            let row_in : row < length columns = omega (arith, r.0, length-map columns (slice_index offered)) in
            let row_below : row < table.rows = omega (arith, assigned.each_row) in
            let at = place_at row 0 row_in in
            let same : get_or columns row 0 ≡ k = one_place offered (get_or columns row 0) k apart at.0 e.0 (sym at.1 ∙ r.1 ∙ sym e.1) in
            subst (λ (x : ℕ). price_at row_price row +ℤ price_at place_price x ≡ pos (cost_at table row x)) same (prices.chosen row row_below) ∙ ap (λ x. pos x) (tab.costs_are row k place row_below is);
        at_most_zero = λ k h. prices.at_most_zero k (omega arith);
        zero_elsewhere = λ k place is out.
            let e = element_at offered k place is in
            prices.zero_elsewhere k (omega (arith, e.0)) (λ found. out (taken k place e.0 e.1 found));
      }
    where
      -- a column that is taken has its place taken
      taken : (k place : ℕ) → k < length offered → get_or offered k 0 ≡ place → Contains columns k → Contains (map (slice_index offered) columns) place
      taken k place k_in is (row, row_in, at) =
          let column : get_or columns row 0 ≡ k = get_or_default columns row 0 k row_in ∙ at in
          (row, omega (arith, length-map columns (slice_index offered)), (place_at row place row_in).1 ∙ ap (slice_index offered) column ∙ is)

-- ---- what an answer has, if there is one

pub ok_then : {T E : Type 0} (r : Result T E) {P Q : T → Type 0} → IfOk r P → ((x : T) → P x → Q x) → IfOk r Q
ok_then (Ok x) h f = f x h
ok_then (Err e) h f = tt

pub ok_both : {T E : Type 0} (r : Result T E) {P Q R : T → Type 0} → IfOk r P → IfOk r Q → ((x : T) → P x → Q x → R x) → IfOk r R
ok_both (Ok x) h k f = f x h k
ok_both (Err e) h k f = tt
