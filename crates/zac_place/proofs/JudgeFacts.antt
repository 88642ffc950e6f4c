-- What the judged prices of a proposal tell.
use Rattle.std.proofs.Common.{◌≡◌, ◌≢◌, ℕ, zero, suc, ◌+◌, ◌<◌, ◌≤◌, ◌⊎◌, inl, inr, Bool, true, false, cond, List, [], ◌∷◌, ◌++◌, Option, Some, None, length, get_or, map, set, ℤ, pos, ◌+ℤ◌, ◌≤ℤ◌, neg_ℤ, refl, sym, ap, ◌∙◌, subst, arith}
use Rattle.std.proofs.lemmas.Int.{ints}
use Rattle.std.specs.List.{All, AllPairs, Any, Contains, filter, range_with_len}
use Rattle.std.specs.Option.{MatchOption, is_none, is_some}
use Rattle.std.specs.Prelude.{IfSome}
use Rattle.std.proofs.lemmas.Bool.{cases_Bool, cases_eq, cases_lt, eq-eqb, ne_eqb}
use Rattle.std.proofs.lemmas.List.{get_or-map, get_or-set_other, get_or-set_same, get_or_append_left, get_or_default, get_or_push, length-map, length-set}
use Rattle.std.proofs.lemmas.List.FromFn.{get_or-range_with_len, length-range_with_len}
use Rattle.std.proofs.lemmas.List.Kept.{AllPairs-filter}
use Rattle.std.proofs.lemmas.List.Sums.{length-filter}
use Rattle.std.proofs.lemmas.Option.{get_or_from_slice_get, slice_get-get_or, slice_get_within}
use Rattle.zac_arch.specs.Architecture.{Architecture, storage_count}
use Rattle.zac_arch.specs.declared.place.Point.{Point}
use Rattle.zac_assign.specs.Assignment.{price_at}
use Rattle.zac_world.specs.Nearest.{IsAmongNearest, IsFree, IsNearestFree, distance_from, is_nearer, point_of, trap_distance}
use Rattle.zac_world.specs.Places.{Places, empty_storage, is_empty}
use Rattle.zac_world.specs.declared.walk.Candidate.{Candidate}
use Rattle.zac_world.proofs.ListFacts.{contains_filtered, contains_from_filter}
use Rattle.zac_world.proofs.RankFacts.{nearer_cases}
use Rattle.zac_place.specs.Judged.{AreMarked, AreRows, IsBeforeFree, IsJudged, IsProved, IsRow, apart}
use Rattle.zac_place.specs.Offers.{price_of}
use Rattle.zac_place.specs.Placing.{IsPlacing, ProvesPlacing}
use Rattle.zac_place.specs.Returns.{AreNear, return_cost, trap_in}
use Rattle.zac_place.specs.declared.judge.Row.{Row}
use Rattle.zac_place.proofs.ReturnFacts.{cases_contains, empty_apart, no_more, price_of-others, price_in_all}

-- ---- the marks

-- just the first n targets are marked, empty storage traps that are apart
pub record MarkedSoFar (p : Places) (a : Architecture) (targets : List ℕ) (marks : List Bool) (n : ℕ) : Type 0 where
  pub many : length marks ≡ storage_count a
  pub marked : (t : ℕ) → get_or marks t false ≡ true → (k : ℕ) × (k < n) × (get_or targets k 0 ≡ t)
  pub has : (k : ℕ) → k < n → get_or marks (get_or targets k 0) false ≡ true
  pub empty : (k : ℕ) → k < n → Contains (empty_storage p) (get_or targets k 0)
  pub apart : (i j : ℕ) → i < j → j < n → get_or targets i 0 ≢ get_or targets j 0

pub in_empty : (p : Places) (a : Architecture) (t : ℕ) → p.architecture ≡ a → t < storage_count a → is_empty p.traps t ≡ true → Contains (empty_storage p) t
in_empty p a t same lt empty =
    let n = storage_count p.architecture in
    let e : n ≡ storage_count a = ap storage_count same in
    contains_filtered (is_empty p.traps) t (range_with_len 0 n) (t, omega (arith, e, length-range_with_len 0 n), get_or-range_with_len 0 n t t (omega (arith, e)) ∙ omega arith) empty

pub one_marked : (p : Places) (a : Architecture) (targets : List ℕ) (marks : List Bool) (n t : ℕ) → p.architecture ≡ a → get_or targets n 0 ≡ t → t < storage_count a → get_or marks t false ≡ false → is_empty p.traps t ≡ true →
    MarkedSoFar p a targets marks n → MarkedSoFar p a targets (set marks t true) (n + 1)
one_marked p a targets marks n t same at lt unmarked empty so_far =
    let within : t < length marks = omega (arith, so_far.many) in
    record {
      many = length-set marks t true ∙ so_far.many;
      marked = λ s is.
          elim (cases_eq s t) as (λ _. (k : ℕ) × (k < n + 1) × (get_or targets k 0 ≡ s)) [
            | inl e ↦ (n, omega arith, at ∙ sym e)
            | inr other ↦
                let old = so_far.marked s (sym (get_or-set_other marks t s true false other) ∙ is) in
                (old.0, omega (arith, old.1), old.2)
          ];
      has = λ k k_in.
          elim (cases_eq (get_or targets k 0) t) as (λ _. get_or (set marks t true) (get_or targets k 0) false ≡ true) [
            | inl e ↦ ap (λ (s : ℕ). get_or (set marks t true) s false) e ∙ get_or-set_same marks t true false within
            | inr other ↦
                elim (cases_lt k n) as (λ _. get_or (set marks t true) (get_or targets k 0) false ≡ true) [
                  | inl before ↦ get_or-set_other marks t (get_or targets k 0) true false other ∙ so_far.has k before
                  | inr last ↦ let e : k ≡ n = omega arith in absurd (other (ap (λ (i : ℕ). get_or targets i 0) e ∙ at))
                ]
          ];
      empty = λ k k_in.
          elim (cases_lt k n) as (λ _. Contains (empty_storage p) (get_or targets k 0)) [
            | inl before ↦ so_far.empty k before
            | inr last ↦
                let e : n ≡ k = omega arith in
                subst (Contains (empty_storage p)) (sym at ∙ ap (λ (i : ℕ). get_or targets i 0) e) (in_empty p a t same lt empty)
          ];
      apart = λ i j i_lt j_in equal.
          elim (cases_lt j n) as (λ _. ⊥) [
            | inl before ↦ so_far.apart i j i_lt before equal
            | inr last ↦
                let e : j ≡ n = omega arith in
                let is : get_or targets i 0 ≡ t = equal ∙ ap (λ (k : ℕ). get_or targets k 0) e ∙ at in
                let both : true ≡ false = sym (so_far.has i (omega arith)) ∙ ap (λ (s : ℕ). get_or marks s false) is ∙ unmarked in
                cc
          ];
    }

pub all_marked : (p : Places) (a : Architecture) (targets : List ℕ) (marks : List Bool) (n : ℕ) → length targets ≤ n → n ≤ length targets → MarkedSoFar p a targets marks n → AreMarked p targets marks
all_marked p a targets marks n le ge so_far =
    record {
      empty = λ k d lt. subst (Contains (empty_storage p)) (get_or_default targets k 0 d lt) (so_far.empty k (omega arith));
      distinct = λ i j d i_lt j_in equal. so_far.apart i j i_lt (omega arith) (get_or_default targets i 0 d (omega arith) ∙ equal ∙ sym (get_or_default targets j 0 d j_in));
      marked = λ t is. let old = so_far.marked t is in (old.0, omega (arith, old.1), sym (get_or_default targets old.0 0 t (omega (arith, old.1))) ∙ old.2);
    }

pub none_by_some : (o : Option ℕ) (tested : Bool) → tested ≡ is_some o → tested ≡ false → is_none o ≡ true
none_by_some None tested e is = refl
none_by_some (Some x) tested e is = absurd (let both : true ≡ false = sym e ∙ is in cc)

-- ---- the rows

pub rows_more : (p : Places) (marks : List Bool) (leaving targets : List ℕ) (prices : List ℤ) (rows new : List Row) (k q target : ℕ) (price : ℤ) (row : Row) → new ≡ rows ++ row ∷ [] → length rows ≡ k →
    ((i : ℕ) (d : Row) → i < k → IsRow p marks (get_or leaving i 0) (get_or targets i 0) (price_at prices i) (get_or rows i d)) →
    IsRow p marks q target price row → q ≡ get_or leaving k 0 → target ≡ get_or targets k 0 → price ≡ price_at prices k →
    (i : ℕ) (d : Row) → i < k + 1 → IsRow p marks (get_or leaving i 0) (get_or targets i 0) (price_at prices i) (get_or new i d)
rows_more p marks leaving targets prices rows new k q target price row is many so_far here q_is target_is price_is i d lt =
    subst (λ (l : List Row). IsRow p marks (get_or leaving i 0) (get_or targets i 0) (price_at prices i) (get_or l i d)) (sym is)
    (elim (cases_lt i k) as (λ _. IsRow p marks (get_or leaving i 0) (get_or targets i 0) (price_at prices i) (get_or (rows ++ row ∷ []) i d)) [
      | inl before ↦ subst (IsRow p marks (get_or leaving i 0) (get_or targets i 0) (price_at prices i)) (sym (get_or_append_left rows (row ∷ []) d i (omega arith))) (so_far i d before)
      | inr last ↦
          let e : k ≡ i = omega arith in
          let there : IsRow p marks (get_or leaving k 0) (get_or targets k 0) (price_at prices k) row =
          subst (λ (z : ℤ). IsRow p marks (get_or leaving k 0) (get_or targets k 0) z row) price_is
          (subst (λ (t : ℕ). IsRow p marks (get_or leaving k 0) t price row) target_is
          (subst (λ (r : ℕ). IsRow p marks r target price row) q_is here)) in
          subst (IsRow p marks (get_or leaving i 0) (get_or targets i 0) (price_at prices i)) (sym (get_or_push rows row d i (omega arith)))
          (subst (λ (n : ℕ). IsRow p marks (get_or leaving n 0) (get_or targets n 0) (price_at prices n) row) e there)
    ])

-- ---- the prices of all traps

-- the price of a target by its place, where none comes twice
price_of-apart : (os : List ℕ) (ps : List ℤ) (k : ℕ) → AllPairs (λ a b. a ≢ b) os → length ps ≡ length os → k < length os → price_of os ps (get_or os k 0) ≡ price_at ps k
price_of-apart [] ps k distinct len lt = absurd (omega arith)
price_of-apart (o ∷ os) [] k distinct len lt = absurd (omega arith)
price_of-apart (o ∷ os) (p ∷ ps) zero distinct len lt = ap (λ (b : Bool). cond b p (price_of os ps o)) (eq-eqb o o refl)
price_of-apart (o ∷ os) (p ∷ ps) (suc k) distinct len lt =
    ap (λ (b : Bool). cond b p (price_of os ps (get_or os k 0))) (ne_eqb o (get_or os k 0) (distinct zero (suc k) 0 (omega arith) lt))
    ∙ price_of-apart os ps k (λ i j d i_lt j_in. distinct (suc i) (suc j) d (omega arith) (omega arith)) (omega arith) (omega arith)

at_most : (u v : ℤ) (a f c : ℕ) → u ≡ pos a → v ≡ neg_ℤ (pos f) → a ≤ c + f → (u +ℤ v) ≤ℤ pos c
at_most u v a f c eu ev le = omega (arith, ints)

at_most_free : (u v : ℤ) (a c : ℕ) → u ≡ pos a → v ≡ pos 0 → a ≤ c → (u +ℤ v) ≤ℤ pos c
at_most_free u v a c eu ev le = omega (arith, ints)

exactly : (u v : ℤ) (a f c : ℕ) → u ≡ pos a → v ≡ neg_ℤ (pos f) → a ≡ c + f → u +ℤ v ≡ pos c
exactly u v a f c eu ev is = omega (arith, ints)

no_more_than_zero : (v : ℤ) (f : ℕ) → v ≡ neg_ℤ (pos f) → v ≤ℤ pos 0
no_more_than_zero v f e = omega (arith, ints)

zero_is_no_more : (v : ℤ) → v ≡ pos 0 → v ≤ℤ pos 0
zero_is_no_more v e = omega (arith, ints)

-- a row
no_row : Row
no_row = record { origin = record { x = 0; y = 0 }; price = 0; target = record { 0 = 0 }; place = record { x = 0; y = 0 }; fee = 0; free = None }

-- what is paid at a point by one who stands at another
paid_at : (a : Architecture) (s t : ℕ) (p q : Point) → p ≡ point_of a s → q ≡ point_of a t → apart p q ≡ trap_distance a s t
paid_at a s t p q e f = ap (λ (x : Point). apart x q) e ∙ ap (apart (point_of a s)) f

module _ (p : Places) (marks : List Bool) (leaving targets : List ℕ) (prices : List ℤ) (rows : List Row) (marked : AreMarked p targets marks) (are : AreRows p marks leaving targets prices rows)
    (each_target : length targets ≡ length leaving) (each_price : length prices ≡ length leaving) (judged : (k : ℕ) (d : Row) → k < length rows → IsJudged rows (get_or rows k d)) where
  -- a row by its number
  row_at : ℕ → Row
  row_at k = get_or rows k no_row

  is_row : (k : ℕ) → k < length leaving → IsRow p marks (get_or leaving k 0) (get_or targets k 0) (price_at prices k) (row_at k)
  unfolding row_at
  is_row k lt = are.each k no_row lt

  is_judged : (k : ℕ) → k < length leaving → IsJudged rows (row_at k)
  unfolding row_at
  is_judged k lt = judged k no_row (omega (arith, are.many))

  bounded : (row k : ℕ) → row < length leaving → k < length leaving → (row_at row).price ≤ apart (row_at row).origin (row_at k).place + (row_at k).fee
  unfolding row_at
  bounded row k row_in k_in = (is_judged row row_in).bound k no_row (omega (arith, are.many))

  -- what a row pays at the target of another
  cost_is : (row k : ℕ) → row < length leaving → k < length leaving → apart (row_at row).origin (row_at k).place ≡ return_cost p leaving row (get_or targets k 0)
  cost_is row k row_in k_in =
      paid_at p.architecture (trap_in p (get_or leaving row 0)) (get_or targets k 0) (row_at row).origin (row_at k).place (is_row row row_in).origin_is (is_row k k_in).place_is

  fees : List ℤ
  fees = map (λ (r : Row). neg_ℤ (pos r.fee)) rows

  fee_at : (k : ℕ) → k < length leaving → price_at fees k ≡ neg_ℤ (pos (row_at k).fee)
  unfolding fees row_at
  fee_at k lt = get_or-map (λ (r : Row). neg_ℤ (pos r.fee)) rows k no_row (pos 0) (omega (arith, are.many))

  many_fees : length fees ≡ length targets
  unfolding fees
  many_fees = length-map rows (λ (r : Row). neg_ℤ (pos r.fee)) ∙ are.many ∙ sym each_target

  -- a target by its place, with its price
  target_at : (t : ℕ) → Contains targets t → (k : ℕ) × (k < length leaving) × (get_or targets k 0 ≡ t) × (price_of targets fees t ≡ neg_ℤ (pos (row_at k).fee))
  target_at t c =
      let k_in : c.0 < length leaving = omega (arith, c.1, each_target) in
      let at : get_or targets c.0 0 ≡ t = get_or_default targets c.0 0 t c.1 ∙ c.2 in
      (c.0, k_in, at, ap (price_of targets fees) (sym at) ∙ price_of-apart targets fees c.0 marked.distinct many_fees c.1 ∙ fee_at c.0 k_in)

  -- a trap that is no target is free
  is_left : (t : ℕ) → Contains (empty_storage p) t → (Contains targets t → ⊥) → IsFree p marks t
  is_left t empty missing =
      elim (cases_Bool (get_or marks t false)) as (λ _. IsFree p marks t) [
        | inl is ↦ absurd (missing (marked.marked t is))
        | inr is ↦ (empty, is)
      ]

  -- and no nearer to a row than its price
  above_free : (r : Row) (o : Option Candidate) (t : ℕ) → r.free ≡ o → MatchOption r.free ((s : ℕ) → IsFree p marks s → ⊥) (IsNearestFree p marks r.origin) → IfSome r.free (λ c. r.price ≤ c.distance) → IsFree p marks t → r.price ≤ distance_from p.architecture r.origin t
  above_free r None t is nearest below free =
      absurd (subst (λ (o : Option Candidate). MatchOption o ((s : ℕ) → IsFree p marks s → ⊥) (IsNearestFree p marks r.origin)) is nearest t free)
  above_free r (Some c) t is nearest below free =
      let found = subst (λ (o : Option Candidate). MatchOption o ((s : ℕ) → IsFree p marks s → ⊥) (IsNearestFree p marks r.origin)) is nearest in
      let le = subst (λ (o : Option Candidate). IfSome o (λ c. r.price ≤ c.distance)) is below in
      elim (found.least t free) as (λ _. r.price ≤ distance_from p.architecture r.origin t) [
        | inl less ↦ omega (arith, le, less)
        | inr both ↦ let e = both.0 in omega (arith, le, e)
      ]

  price_below : (row t : ℕ) → row < length leaving → IsFree p marks t → (row_at row).price ≤ return_cost p leaving row t
  price_below row t row_in free =
      let r = row_at row in
      let here = is_row row row_in in
      subst (λ (x : Point). r.price ≤ distance_from p.architecture x t) here.origin_is
      (above_free r r.free t refl here.free_is (is_judged row row_in).at_free free)

  placing : IsPlacing (empty_storage p) (length leaving) targets
  placing = record { each_row = each_target; offers = marked.empty; distinct = marked.distinct }

  proof : ProvesPlacing (return_cost p leaving) (empty_storage p) (length leaving) targets prices (map (price_of targets fees) (empty_storage p))
  proof =
      let es = empty_storage p in
      let all = map (price_of targets fees) es in
      let cost = return_cost p leaving in
      record {
        each_row = each_price;
        each_place = length-map es (price_of targets fees);
        bound = λ row k place row_in is.
            elim (cases_contains place targets) as (λ _. (price_at prices row +ℤ price_at all k) ≤ℤ pos (cost row place)) [
              | inl c ↦
                  let t = target_at place c in
                  at_most (price_at prices row) (price_at all k) (row_at row).price (row_at t.0).fee (cost row place) (is_row row row_in).price_is (price_in_all targets fees es k place is ∙ t.3)
                  (omega (arith, bounded row t.0 row_in t.1, cost_is row t.0 row_in t.1, ap (cost row) t.2))
              | inr missing ↦
                  at_most_free (price_at prices row) (price_at all k) (row_at row).price (cost row place) (is_row row row_in).price_is (price_in_all targets fees es k place is ∙ price_of-others targets fees place missing)
                  (price_below row place row_in (is_left place (k, slice_get_within es k place is, get_or_from_slice_get es k place place is) missing))
            ];
        chosen = λ row k place at is.
            let within = slice_get_within targets row place at in
            let row_in : row < length leaving = omega (arith, within, each_target) in
            let here : get_or targets row 0 ≡ place = get_or_from_slice_get targets row place 0 at in
            let fee : price_of targets fees place ≡ neg_ℤ (pos (row_at row).fee) = ap (price_of targets fees) (sym here) ∙ price_of-apart targets fees row marked.distinct many_fees within ∙ fee_at row row_in in
            exactly (price_at prices row) (price_at all k) (row_at row).price (row_at row).fee (cost row place) (is_row row row_in).price_is (price_in_all targets fees es k place is ∙ fee)
            (omega (arith, (is_row row row_in).priced, cost_is row row row_in row_in, ap (cost row) here));
        at_most_zero = λ k lt.
            let place = get_or es k 0 in
            let is = slice_get-get_or es k 0 lt in
            elim (cases_contains place targets) as (λ _. price_at all k ≤ℤ pos 0) [
              | inl c ↦ let t = target_at place c in no_more_than_zero (price_at all k) (row_at t.0).fee (price_in_all targets fees es k place is ∙ t.3)
              | inr missing ↦ zero_is_no_more (price_at all k) (price_in_all targets fees es k place is ∙ price_of-others targets fees place missing)
            ];
        zero_elsewhere = λ k place is missing. price_in_all targets fees es k place is ∙ price_of-others targets fees place missing;
      }

  -- where a target comes before each free trap, all that are nearer are targets
  nearer_is_target : (r : Row) (o : Option Candidate) (from t s : ℕ) (other : Row) → r.free ≡ o → r.origin ≡ point_of p.architecture from → other.place ≡ point_of p.architecture t → other.target.0 ≡ t →
      MatchOption r.free ((u : ℕ) → IsFree p marks u → ⊥) (IsNearestFree p marks r.origin) → IsBeforeFree r other → is_nearer p.architecture from s t ≡ true → IsFree p marks s → ⊥
  nearer_is_target r None from t s other is origin place number nearest before nearer free =
      subst (λ (o : Option Candidate). MatchOption o ((u : ℕ) → IsFree p marks u → ⊥) (IsNearestFree p marks r.origin)) is nearest s free
  nearer_is_target r (Some c) from t s other is origin place number nearest before nearer free =
      let far = trap_distance p.architecture from in
      let found = subst (λ (o : Option Candidate). MatchOption o ((u : ℕ) → IsFree p marks u → ⊥) (IsNearestFree p marks r.origin)) is nearest in
      let first = subst (λ (o : Option Candidate). IfSome o (λ c. (apart r.origin other.place < c.distance) ⊎ ((apart r.origin other.place ≡ c.distance) × (other.target.0 < c.trap.0)))) is before in
      let to_t : apart r.origin other.place ≡ far t = paid_at p.architecture from t r.origin other.place origin place in
      let to_s : distance_from p.architecture r.origin s ≡ far s = ap (λ (x : Point). distance_from p.architecture x s) origin in
      by_cases (far s) (far t) c.distance s t c.trap.0 (nearer_cases (far s) (far t) s t nearer)
      (subst (λ (n : ℕ). (n < c.distance) ⊎ ((n ≡ c.distance) × (t < c.trap.0))) to_t (subst (λ (m : ℕ). (apart r.origin other.place < c.distance) ⊎ ((apart r.origin other.place ≡ c.distance) × (m < c.trap.0))) number first))
      (subst (λ (n : ℕ). (c.distance < n) ⊎ ((c.distance ≡ n) × (c.trap.0 ≤ s))) to_s (found.least s free))
    where
      by_cases : (a b d s t u : ℕ) → (a < b) ⊎ ((a ≡ b) × (s < t)) → (b < d) ⊎ ((b ≡ d) × (t < u)) → (d < a) ⊎ ((d ≡ a) × (u ≤ s)) → ⊥
      by_cases a b d s t u (inl x) (inl y) (inl z) = omega arith
      by_cases a b d s t u (inl x) (inl y) (inr z) = let e = z.0 in omega arith
      by_cases a b d s t u (inl x) (inr y) (inl z) = let e = y.0 in omega arith
      by_cases a b d s t u (inl x) (inr y) (inr z) = let e = y.0 in let f = z.0 in omega arith
      by_cases a b d s t u (inr x) (inl y) (inl z) = let e = x.0 in omega arith
      by_cases a b d s t u (inr x) (inl y) (inr z) = let e = x.0 in let f = z.0 in omega arith
      by_cases a b d s t u (inr x) (inr y) (inl z) = let e = x.0 in let f = y.0 in omega arith
      by_cases a b d s t u (inr x) (inr y) (inr z) = let g = x.1 in let h = y.1 in let i = z.1 in omega arith

  -- so they are few
  few_nearer : (row k : ℕ) → row < length leaving → k < length leaving → IsBeforeFree (row_at row) (row_at k) → IsAmongNearest p (trap_in p (get_or leaving row 0)) (length leaving + 1) (get_or targets k 0)
  few_nearer row k row_in k_in before =
      let from = trap_in p (get_or leaving row 0) in
      let t = get_or targets k 0 in
      let q : ℕ → Bool = λ s. is_nearer p.architecture from s t in
      let es = empty_storage p in
      let r = row_at row in
      let here = is_row row row_in in
      let there = is_row k k_in in
      let within : All (Contains targets) (filter q es) = λ i d i_in.
      let s = get_or (filter q es) i d in
      let parts = contains_from_filter q s es (i, i_in, get_or_default (filter q es) i s d i_in) in
      elim (cases_contains s targets) as (λ _. Contains targets s) [
        | inl c ↦ c
        | inr missing ↦ absurd (nearer_is_target r r.free from t s (row_at k) refl here.origin_is there.place_is there.target_is here.free_is before parts.1 (is_left s parts.0 missing))
      ] in
      record {
        empty = marked.empty k 0 (omega (arith, each_target));
        few = omega (arith, length-filter q es, no_more (filter q es) targets (AllPairs-filter (λ a b. a ≢ b) q es (empty_apart p)) within, each_target);
      }

  before_free : (row k : ℕ) → IsBeforeFree (get_or rows row no_row) (row_at k) → IsBeforeFree (row_at row) (row_at k)
  unfolding row_at
  before_free row k is = is

  near : AreNear p leaving targets
  near k d k_in =
      let k_low : k < length leaving = omega (arith, each_target) in
      let at : get_or targets k 0 ≡ get_or targets k d = get_or_default targets k 0 d k_in in
      elim (is_judged k k_low).near as (λ _. Any (λ q. IsAmongNearest p (trap_in p q) (length leaving + 1) (get_or targets k d)) leaving) [
        | inl own ↦ some k d k k_low at (few_nearer k k k_low k_low own)
        | inr other ↦ let lt : other.0 < length leaving = omega (arith, other.1, are.many) in some k d other.0 lt at (few_nearer other.0 k lt k_low (before_free other.0 k (other.2 no_row)))
      ]
    where
      some : (k d row : ℕ) → row < length leaving → get_or targets k 0 ≡ get_or targets k d → IsAmongNearest p (trap_in p (get_or leaving row 0)) (length leaving + 1) (get_or targets k 0) → Any (λ q. IsAmongNearest p (trap_in p q) (length leaving + 1) (get_or targets k d)) leaving
      some k d row row_in at among =
          (row, get_or leaving row 0, row_in, get_or_default leaving row (get_or leaving row 0) 0 row_in, subst (IsAmongNearest p (trap_in p (get_or leaving row 0)) (length leaving + 1)) at among)

  pub proved : IsProved p leaving targets prices
  proved = record { placing = placing; target_price = fees; prices = proof; near = near }
