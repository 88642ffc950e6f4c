-- What the steps of a search keep.
use Rattle.std.proofs.Common.{ℕ, ◌≡◌, ◌≢◌, ◌+◌, ◌-◌, ◌<◌, ◌≤◌, ◌⊎◌, inl, inr, List, [], ◌∷◌, ◌++◌, Option, Some, None, Bool, true, false, ◌||◌, length, set, sym, ◌∙◌, ap, arith, refl, subst, eqb, suc}
use Rattle.std.specs.Prelude.{IsSome, is_some, slice_index}
use Rattle.std.proofs.lemmas.List.{get_or-set_same, get_or-set_other, length_push}
use Rattle.std.proofs.lemmas.List.Sums.{sum_by-cons}
use Rattle.std.proofs.lemmas.Option.{none-some, same_Some}
use Rattle.std.proofs.lemmas.Bool.{cases_eq, cases_lt, cases_Bool, both_ways, or_left, or_right, or_cases, eq-eqb, eqb-true}
use Rattle.zac_pairing.specs.declared.tree.Step.{Step}
use Rattle.zac_assign.specs.Assignment.{Table, cost_at}
use Rattle.zac_pairing.specs.Pairing.{mate, IsPairing, one_if_free, free_count}
use Rattle.zac_pairing.specs.Tree.{left_at, from_at, IsTree, HasPairs, AllPass}
use Rattle.zac_assign.specs.Search.{is_used, ArePrices, IsSearch, IsFound, IsNearest, RaisesRows, RaisesColumns, Relaxes}
use Rattle.zac_pairing.proofs.PairingFacts.{mate_in}
use Rattle.zac_pairing.proofs.TreeFacts.{left_at_push, left_at_before, place_push, IsTree-push, pairs_push}

-- ---- a column that no row has

pub free_column : (rows : List (Option ℕ)) → 0 < free_count rows → (c : ℕ) × (c < length rows) × (mate rows c ≡ None)
free_column [] h = absurd (omega arith)
free_column (None ∷ rows) h = (0, omega arith, refl)
free_column (Some r ∷ rows) h =
    let all : free_count (Some r ∷ rows) ≡ 0 + free_count rows = sum_by-cons one_if_free (Some r) rows in
    let rest = free_column rows (omega arith) in
    (suc rest.0, omega (arith, rest.1), rest.2)

-- ---- marks of used columns

pub is_used-set_same : (used : List Bool) (c : ℕ) → c < length used → is_used (set used c true) c ≡ true
is_used-set_same used c h = get_or-set_same used c true false h

pub is_used-set_cases : (used : List Bool) (c x : ℕ) → is_used (set used c true) x ≡ true → is_used used x ≡ true ⊎ (x ≡ c)
is_used-set_cases used c x e = elim (cases_eq x c) [
  | inl s ↦ inr s
  | inr d ↦ inl (sym (get_or-set_other used c x true false d) ∙ e)
]

pub is_used-set_unused : (used : List Bool) (c x : ℕ) → c < length used → is_used (set used c true) x ≡ false → (is_used used x ≡ false) × (x ≢ c)
is_used-set_unused used c x h e =
    let apart : x ≢ c = λ s. both_ways (is_used (set used c true) x) e (ap (is_used (set used c true)) s ∙ is_used-set_same used c h) in
    (sym (get_or-set_other used c x true false apart) ∙ e, apart)

pub is_used-set : (used : List Bool) (c x : ℕ) → c < length used → is_used used x ≡ true → is_used (set used c true) x ≡ true
is_used-set used c x h e = elim (cases_eq x c) [
  | inl s ↦ ap (is_used (set used c true)) s ∙ is_used-set_same used c h
  | inr d ↦ get_or-set_other used c x true false d ∙ e
]

-- ---- the tree

-- a row is in the tree, or is not
pub in_tree : (steps : List Step) (r n : ℕ) → ((k : ℕ) × (k < n) × (left_at steps k ≡ r)) ⊎ ((k : ℕ) → k < n → left_at steps k ≡ r → ⊥)
in_tree steps r Prim.Native.Nat.zero = inr (λ k h e. absurd (omega arith))
in_tree steps r (suc n) = elim (cases_eq (left_at steps n) r) [
  | inl s ↦ inl (n, omega arith, s)
  | inr d ↦ elim (in_tree steps r n) [
    | inl p ↦ inl (p.0, omega (arith, p.1), p.2)
    | inr f ↦ inr (λ k h e. elim (cases_eq k n) [ inl s ↦ d (ap (left_at steps) (sym s) ∙ e) | inr o ↦ f k (omega arith) e ])
  ]
]

-- ---- bounds

module _ {table : Table} {price fee : List ℕ} {columns rows : List (Option ℕ)} (prices : ArePrices table price fee columns rows) (pairing : IsPairing columns rows) (columns_len : length columns ≡ table.rows) (rows_len : length rows ≡ table.columns) (small : (r c : ℕ) → cost_at table r c ≤ 8000000) (some_free : 0 < free_count rows) where
  free : (c : ℕ) × (c < length rows) × (mate rows c ≡ None)
  free = free_column rows some_free

  pub price_small : (r : ℕ) → r < table.rows → slice_index price r ≤ 8000000
  price_small r h =
      let f = free in
      let bound = prices.bound r f.0 h (omega (arith, f.1)) in
      let zero = prices.free f.0 (omega (arith, f.1)) f.2 in
      omega (arith, bound, zero, small r f.0)

  pub fee_small : (c : ℕ) → c < table.columns → slice_index fee c ≤ 8000000
  fee_small c h = go (mate rows c) refl
    where
      go : (o : Option ℕ) → mate rows c ≡ o → slice_index fee c ≤ 8000000
      go None e = omega (arith, prices.free c h e)
      go (Some r) e =
          let own = pairing.back r c e in
          omega (arith, prices.own r c own, price_small r (omega (arith, columns_len, mate_in columns r c own)))

  module _ {used : List Bool} {distance from : List ℕ} {steps : List Step} {raised : ℕ} (search : IsSearch table price fee columns used distance from steps raised) where
    -- a column that no row has is not in the tree
    pub free_unused : (c : ℕ) → mate rows c ≡ None → is_used used c ≡ false
    free_unused c e = elim (cases_Bool (is_used used c)) [
      | inl t ↦ let q = search.queued c t in absurd (none-some (left_at steps q.0) (sym e ∙ pairing.there (left_at steps q.0) c q.2))
      | inr f ↦ f
    ]

    pub some_unused : (c : ℕ) × (c < table.columns) × (is_used used c ≡ false)
    some_unused = let f = free in (f.0, omega (arith, f.1), free_unused f.0 f.2)

    -- the rows of the tree are rows of the table
    pub row_in : (k : ℕ) → k < length steps → left_at steps k < table.rows
    row_in k h = omega (arith, search.tree.in_left k h, columns_len)

    pub raised_small : raised ≤ 8000000
    raised_small = omega (arith, search.root_price, price_small (left_at steps 0) (row_in 0 search.tree.some))

    -- no distance is below what was raised
    pub distance_above : (c : ℕ) → c < table.columns → is_used used c ≡ false → raised ≤ slice_index distance c
    distance_above c h e =
        let a = search.attained c h e in
        let bound = prices.bound (left_at steps (slice_index from c)) c (row_in (slice_index from c) a.0) h in
        omega (arith, a.1, bound)

    module _ {j : ℕ} (distance_len : length distance ≡ table.columns) (nearest : IsNearest used distance j) where
      pub j_in : j < table.columns
      j_in = omega (arith, nearest.inside)

      pub j_above : raised ≤ slice_index distance j
      j_above = distance_above j j_in nearest.unused

      pub raised_price_small : (k : ℕ) → k < length steps → slice_index price (left_at steps k) + (slice_index distance j - raised) ≤ 8000000
      raised_price_small k h =
          let f = free in
          let f_in : f.0 < table.columns = omega (arith, f.1) in
          let unused = free_unused f.0 f.2 in
          let near = search.near k f.0 h f_in unused in
          let zero = prices.free f.0 f_in f.2 in
          let least = nearest.least f.0 (omega arith) unused in
          omega (arith, near, zero, least, small (left_at steps k) f.0, j_above)

      pub raised_fee_small : (k c : ℕ) → k < length steps → c < table.columns → slice_index fee c + (slice_index distance j - raised) ≤ 16000000
      raised_fee_small k c h c_in = omega (arith, raised_price_small k h, fee_small c c_in)

      pub column_in : (k c : ℕ) → mate columns (left_at steps k) ≡ Some c → c < table.columns
      column_in k c e = omega (arith, mate_in rows c (left_at steps k) (pairing.there (left_at steps k) c e))

      pub columns_distinct : (a b c : ℕ) → a < b → b < length steps → mate columns (left_at steps a) ≡ Some c → mate columns (left_at steps b) ≢ Some c
      columns_distinct a b c l h e f = search.tree.distinct a b l h (same_Some (left_at steps a) (left_at steps b) (sym (pairing.there (left_at steps a) c e) ∙ pairing.there (left_at steps b) c f))

      module _ {price' fee' : List ℕ} (up : RaisesRows steps (length steps) (slice_index distance j - raised) price price') (up_fee : RaisesColumns columns steps (length steps) (slice_index distance j - raised) fee fee') where
        by : ℕ
        by = slice_index distance j - raised

        -- a column of the tree is raised, and no other
        fee_used : (c : ℕ) → is_used used c ≡ true → slice_index fee' c ≡ slice_index fee c + by
        unfolding by
        fee_used c e = let q = search.queued c e in up_fee.inside q.0 c q.1 q.2

        fee_unused : (c : ℕ) → is_used used c ≡ false → slice_index fee' c ≡ slice_index fee c
        fee_unused c e = up_fee.outside c (λ k h m. both_ways (is_used used c) e (search.through k c h m))

        fee_more : (c : ℕ) → slice_index fee c ≤ slice_index fee' c
        fee_more c = elim (cases_Bool (is_used used c)) [
          | inl t ↦ omega (arith, fee_used c t)
          | inr f ↦ omega (arith, fee_unused c f)
        ]

        price_in : (k : ℕ) → k < length steps → slice_index price' (left_at steps k) ≡ slice_index price (left_at steps k) + by
        unfolding by
        price_in k h = up.inside k h

        by_is : raised + by ≡ slice_index distance j
        unfolding by
        by_is = omega (arith, j_above)

        pub ArePrices-raised : ArePrices table price' fee' columns rows
        ArePrices-raised = record {
          bound = λ r c h c_in. elim (in_tree steps r (length steps)) [
            | inl p ↦
                let up_r : slice_index price' r ≡ slice_index price r + by = let P : ℕ → Type 0 = λ x. slice_index price' x ≡ slice_index price x + by in subst P p.2 (price_in p.0 p.1) in
                elim (cases_Bool (is_used used c)) [
                  | inl t ↦ omega (arith, up_r, fee_used c t, prices.bound r c h c_in)
                  | inr f ↦
                      let near : slice_index price r + slice_index distance c ≤ cost_at table r c + slice_index fee c + raised =
                      let P : ℕ → Type 0 = λ x. slice_index price x + slice_index distance c ≤ cost_at table x c + slice_index fee c + raised in subst P p.2 (search.near p.0 c p.1 c_in f) in
                      let least = nearest.least c (omega arith) f in
                      omega (arith, up_r, fee_unused c f, near, least, by_is)
                ]
            | inr out ↦ omega (arith, up.outside r out, prices.bound r c h c_in, fee_more c)
          ];
          own = λ r c e. elim (in_tree steps r (length steps)) [
            | inl p ↦
                let up_r : slice_index price' r ≡ slice_index price r + by = let P : ℕ → Type 0 = λ x. slice_index price' x ≡ slice_index price x + by in subst P p.2 (price_in p.0 p.1) in
                let in_use : is_used used c ≡ true = search.through p.0 c p.1 (ap (mate columns) p.2 ∙ e) in
                omega (arith, up_r, fee_used c in_use, prices.own r c e)
            | inr out ↦
                let not_used : is_used used c ≡ false = elim (cases_Bool (is_used used c)) [
                  | inl t ↦
                      let q = search.queued c t in
                      absurd (out q.0 q.1 (same_Some (left_at steps q.0) r (sym (pairing.there (left_at steps q.0) c q.2) ∙ pairing.there r c e)))
                  | inr f ↦ f
                ] in
                omega (arith, up.outside r out, fee_unused c not_used, prices.own r c e)
          ];
          free = λ c c_in e. fee_unused c (free_unused c e) ∙ prices.free c c_in e;
        }

        pub IsSearch-raised : IsSearch table price' fee' columns used distance from steps (slice_index distance j)
        IsSearch-raised = record {
          tree = search.tree;
          root_price = omega (arith, price_in 0 search.tree.some, search.root_price, by_is);
          through = search.through;
          queued = search.queued;
          edges = λ k c p h e.
              let before : from_at steps k < k = search.tree.earlier k p h in
              omega (arith, price_in (from_at steps k) (omega arith), fee_used c (search.through k c h e), search.edges k c p h e);
          near = λ k c h c_in f. omega (arith, price_in k h, fee_unused c f, search.near k c h c_in f, by_is);
          attained = λ c c_in f.
              let a = search.attained c c_in f in
              (a.0, omega (arith, price_in (slice_index from c) a.0, fee_unused c f, a.1, by_is));
        }

        -- the nearest column costs just its price now
        pub nearest_tight : (slice_index from j < length steps) × (slice_index price' (left_at steps (slice_index from j)) ≡ cost_at table (left_at steps (slice_index from j)) j + slice_index fee' j)
        nearest_tight =
            let a = search.attained j j_in nearest.unused in
            (a.0, omega (arith, price_in (slice_index from j) a.0, fee_unused j nearest.unused, a.1, by_is))

-- ---- one more row in the tree

module _ (table : Table) (price fee : List ℕ) (columns rows : List (Option ℕ)) (used : List Bool) (distance from distance' from' : List ℕ) (steps : List Step) (raised j next : ℕ) (pairing : IsPairing columns rows) (old : IsSearch table price fee columns used distance from steps raised) (j_in : j < table.columns) (j_used : j < length used) (unused : is_used used j ≡ false) (tight : (slice_index from j < length steps) × (slice_index price (left_at steps (slice_index from j)) ≡ cost_at table (left_at steps (slice_index from j)) j + slice_index fee j)) (mated : mate rows j ≡ Some next) (relaxed : (c : ℕ) → c < table.columns → is_used (set used j true) c ≡ false → Relaxes table (slice_index price next) fee next (length steps) raised c distance distance' from from') where
  step : Step
  step = record { left = next; from = slice_index from j }

  more : List Step
  more = steps ++ step ∷ []

  long : length more ≡ length steps + 1
  unfolding more
  long = length_push steps step

  own : mate columns next ≡ Some j
  own = pairing.back next j mated

  place : (k : ℕ) → k < length more → (k < length steps) ⊎ (k ≡ length steps)
  unfolding more
  place = place_push steps step

  at_new : left_at more (length steps) ≡ next
  unfolding more step
  at_new = left_at_push steps step

  at_old : (k : ℕ) → k < length steps → left_at more k ≡ left_at steps k
  unfolding more
  at_old k h = left_at_before steps step k h

  -- the row that has j is not in the tree yet, since j was not
  apart : (k : ℕ) → k < length steps → left_at steps k ≢ next
  apart k h s = both_ways (is_used used j) unused (old.through k j h (ap (mate columns) s ∙ own))

  tree : IsTree columns more (length more)
  unfolding more step
  tree = IsTree-push columns steps step j old.tree tight.0 own apart

  same_column : (k c : ℕ) → k ≡ length steps → mate columns (left_at more k) ≡ Some c → j ≡ c
  same_column k c s e = same_Some j c (sym own ∙ (ap (mate columns) (sym (ap (left_at more) s ∙ at_new)) ∙ e))

  edges : (k c : ℕ) → 0 < k → k < length more → mate columns (left_at more k) ≡ Some c → slice_index price (left_at more (from_at more k)) ≡ cost_at table (left_at more (from_at more k)) c + slice_index fee c
  unfolding more step
  edges = pairs_push columns steps step j old.tree tight.0 own apart (λ r c. slice_index price r ≡ cost_at table r c + slice_index fee c) old.edges tight.1

  near : (k c : ℕ) → k < length more → c < table.columns → is_used (set used j true) c ≡ false → slice_index price (left_at more k) + slice_index distance' c ≤ cost_at table (left_at more k) c + slice_index fee c + raised
  near k c h c_in f =
      let was_unused : is_used used c ≡ false = (is_used-set_unused used j c j_used f).0 in
      elim (place k h) [
        | inl l ↦
            let was = old.near k c l c_in was_unused in
            let less : slice_index distance' c ≤ slice_index distance c = elim (relaxed c c_in f) [ inl r ↦ omega (arith, r.0) | inr r ↦ r.2 ] in
            let P : ℕ → Type 0 = λ r. slice_index price r + slice_index distance' c ≤ cost_at table r c + slice_index fee c + raised in
            let now : slice_index price (left_at steps k) + slice_index distance' c ≤ cost_at table (left_at steps k) c + slice_index fee c + raised = omega (arith, was, less) in
            subst P (sym (at_old k l)) now
        | inr s ↦
            let P : ℕ → Type 0 = λ r. slice_index price r + slice_index distance' c ≤ cost_at table r c + slice_index fee c + raised in
            let now : slice_index price next + slice_index distance' c ≤ cost_at table next c + slice_index fee c + raised = elim (relaxed c c_in f) [ inl r ↦ omega (arith, r.0, r.2) | inr r ↦ omega (arith, r.0) ] in
            subst P (sym (ap (left_at more) s ∙ at_new)) now
      ]

  attained : (c : ℕ) → c < table.columns → is_used (set used j true) c ≡ false → (slice_index from' c < length more) × (slice_index price (left_at more (slice_index from' c)) + slice_index distance' c ≡ cost_at table (left_at more (slice_index from' c)) c + slice_index fee c + raised)
  attained c c_in f =
      let was_unused : is_used used c ≡ false = (is_used-set_unused used j c j_used f).0 in
      let P : ℕ → Type 0 = λ r. slice_index price r + slice_index distance' c ≡ cost_at table r c + slice_index fee c + raised in
      elim (relaxed c c_in f) [
        | inl r ↦
            let was = old.attained c c_in was_unused in
            let same : left_at more (slice_index from' c) ≡ left_at steps (slice_index from c) = ap (left_at more) r.1 ∙ at_old (slice_index from c) was.0 in
            let now : slice_index price (left_at steps (slice_index from c)) + slice_index distance' c ≡ cost_at table (left_at steps (slice_index from c)) c + slice_index fee c + raised = omega (arith, was.1, r.0) in
            (omega (arith, was.0, r.1, long), subst P (sym same) now)
        | inr r ↦ (omega (arith, r.1, long), subst P (sym (ap (left_at more) r.1 ∙ at_new)) r.0)
      ]

  search : IsSearch table price fee columns (set used j true) distance' from' more raised
  search = record {
    tree = tree;
    root_price = ap (slice_index price) (at_old 0 old.tree.some) ∙ old.root_price;
    through = λ k c h e. elim (place k h) [
      | inl l ↦ is_used-set used j c j_used (old.through k c l (ap (mate columns) (sym (at_old k l)) ∙ e))
      | inr s ↦ ap (is_used (set used j true)) (sym (same_column k c s e)) ∙ is_used-set_same used j j_used
    ];
    queued = λ c e. elim (is_used-set_cases used j c e) [
      | inl was ↦ let q = old.queued c was in (q.0, omega (arith, q.1, long), ap (mate columns) (at_old q.0 q.1) ∙ q.2)
      | inr s ↦ (length steps, omega (arith, long), ap (mate columns) at_new ∙ (own ∙ ap Some (sym s)))
    ];
    edges = edges;
    near = near;
    attained = attained;
  }

  pub IsSearch-push : IsSearch table price fee columns (set used j true) distance' from' (steps ++ record { left = next; from = slice_index from j } ∷ []) raised
  unfolding more step
  IsSearch-push = search

-- ---- the end of a search

-- a row pays just its price
pub is_own : Table → List ℕ → List ℕ → ℕ → ℕ → Bool
is_own table price fee r c = eqb (slice_index price r) (cost_at table r c + slice_index fee c)

is_own-true : (table : Table) (price fee : List ℕ) (r c : ℕ) → slice_index price r ≡ cost_at table r c + slice_index fee c → is_own table price fee r c ≡ true
unfolding is_own
is_own-true table price fee r c e = eq-eqb (slice_index price r) (cost_at table r c + slice_index fee c) e

own-is_own : (table : Table) (price fee : List ℕ) (r c : ℕ) → is_own table price fee r c ≡ true → slice_index price r ≡ cost_at table r c + slice_index fee c
unfolding is_own
own-is_own table price fee r c e = eqb-true (slice_index price r) (cost_at table r c + slice_index fee c) e

pub ArePrices-flipped : (table : Table) (price fee : List ℕ) (columns rows columns' rows' : List (Option ℕ)) (steps : List Step) (from column : ℕ) → ArePrices table price fee columns rows → IsFound table price fee columns rows steps from column → ((test : ℕ → ℕ → Bool) → AllPass test columns → HasPairs test columns steps (length steps) → test (left_at steps from) column ≡ true → AllPass test columns') → ((c : ℕ) → mate rows' c ≡ None → mate rows c ≡ None) → ArePrices table price fee columns' rows'
ArePrices-flipped table price fee columns rows columns' rows' steps from column prices found pass kept =
    let all : AllPass (is_own table price fee) columns' =
    pass (is_own table price fee)
    (record { each = λ r c e. is_own-true table price fee r c (prices.own r c e) })
    (record { each = λ k c p h e. is_own-true table price fee (left_at steps (from_at steps k)) c (found.edges k c p h e) })
    (is_own-true table price fee (left_at steps from) column found.own) in
    record {
      bound = prices.bound;
      own = λ r c e. own-is_own table price fee r c (all.each r c e);
      free = λ c h e. prices.free c h (kept c e);
    }

-- a row had a column, or is this one
had_or_is : List (Option ℕ) → ℕ → ℕ → ℕ → Bool
had_or_is columns row r c = eqb r row || is_some (mate columns r)

had_or_is-some : (columns : List (Option ℕ)) (row r c : ℕ) → IsSome (mate columns r) → had_or_is columns row r c ≡ true
unfolding had_or_is
had_or_is-some columns row r c h = or_right (eqb r row) (is_some (mate columns r)) h

had_or_is-same : (columns : List (Option ℕ)) (row r c : ℕ) → r ≡ row → had_or_is columns row r c ≡ true
unfolding had_or_is
had_or_is-same columns row r c s = or_left (eqb r row) (is_some (mate columns r)) (eq-eqb r row s)

had_or_is-cases : (columns : List (Option ℕ)) (row r c : ℕ) → had_or_is columns row r c ≡ true → (r ≡ row) ⊎ IsSome (mate columns r)
unfolding had_or_is
had_or_is-cases columns row r c e = elim (or_cases (eqb r row) (is_some (mate columns r)) e) [ inl s ↦ inl (eqb-true r row s) | inr h ↦ inr h ]

-- a row with no column has none after the search for another row's
pub still_alone : (table : Table) (price fee : List ℕ) (columns rows columns' : List (Option ℕ)) (steps : List Step) (from column row : ℕ) → IsFound table price fee columns rows steps from column → ((test : ℕ → ℕ → Bool) → AllPass test columns → HasPairs test columns steps (length steps) → test (left_at steps from) column ≡ true → AllPass test columns') → left_at steps 0 ≡ row → (r : ℕ) → r ≢ row → mate columns r ≡ None → mate columns' r ≡ None
still_alone table price fee columns rows columns' steps from column row found pass root r d none =
    let at : (k c : ℕ) → k < length steps → had_or_is columns row (left_at steps k) c ≡ true = λ k c h. elim (cases_lt 0 k) [
      | inl p ↦ had_or_is-some columns row (left_at steps k) c (found.tree.later k p h)
      | inr z ↦ had_or_is-same columns row (left_at steps k) c (ap (left_at steps) (let zero : k ≡ 0 = omega arith in zero) ∙ root)
    ] in
    let all : AllPass (had_or_is columns row) columns' =
    pass (had_or_is columns row)
    (record { each = λ a c e. had_or_is-some columns row a c (ap is_some e) })
    (record { each = λ k c p h e. let before : from_at steps k < k = found.tree.earlier k p h in at (from_at steps k) c (omega arith) })
    (at from column found.from_in) in
    go (mate columns' r) refl all
  where
    go : (o : Option ℕ) → mate columns' r ≡ o → AllPass (had_or_is columns row) columns' → mate columns' r ≡ None
    go None e all = e
    go (Some c) e all = elim (had_or_is-cases columns row r c (all.each r c e)) [
      | inl s ↦ absurd (d s)
      | inr h ↦ absurd (both_ways (is_some (mate columns r)) (ap is_some none) h)
    ]
