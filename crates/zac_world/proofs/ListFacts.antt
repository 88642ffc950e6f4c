-- Lists of numbers: what is counted where they are in order, filtered or permuted.
use Rattle.std.proofs.Common.{◌≡◌, ◌≢◌, ◌==◌, ◌⊎◌, ℕ, zero, suc, ◌+◌, ◌<◌, ◌≤◌, inl, inr, Bool, true, false, cond, ◌&&◌, List, [], ◌∷◌, length, get_or, min, take, refl, sym, ap, ◌∙◌, subst, arith}
use Rattle.std.specs.List.{All, AllPairs, Contains, count_by, filter, range_with_len}
use Rattle.std.specs.List.Sorted.{IsPermutation}
use Rattle.std.proofs.lemmas.Bool.{cases_Bool, cases_lt, eqb-true, ne_eqb, eq-eqb}
use Rattle.std.proofs.lemmas.List.{get_or-take, length-take, take_all}
use Rattle.std.proofs.lemmas.List.FromFn.{get_or-range_with_len, length-range_with_len}
use Rattle.std.proofs.lemmas.List.Kept.{AllPairs-filter}
use Rattle.std.proofs.lemmas.List.Sums.{sum_by-cons}
use Rattle.std.proofs.lemmas.Map.Keys.{IsDistinct-from_apart, IsDistinct-IsPermutation, apart_from_distinct}

-- a count of one element more
pub count-cons : {X : Type 0} (q : X → Bool) (x : X) (xs : List X) → count_by q (x ∷ xs) ≡ cond (q x) 1 0 + count_by q xs
count-cons q x xs = sum_by-cons (λ (y : _). cond (q y) 1 0) x xs

-- a filter, where the test's answer is known
filter_kept : {X : Type 0} (w : X → Bool) (x : X) (xs : List X) → w x ≡ true → filter w (x ∷ xs) ≡ x ∷ filter w xs
filter_kept w x xs is = ap (λ (b : Bool). cond b (x ∷ filter w xs) (filter w xs)) is

filter_out : {X : Type 0} (w : X → Bool) (x : X) (xs : List X) → w x ≡ false → filter w (x ∷ xs) ≡ filter w xs
filter_out w x xs is = ap (λ (b : Bool). cond b (x ∷ filter w xs) (filter w xs)) is

-- one filter after another
pub filter-filter : {X : Type 0} (w e : X → Bool) (xs : List X) → filter (λ x. w x && e x) xs ≡ filter w (filter e xs)
filter-filter w e [] = refl
filter-filter w e (x ∷ xs) =
    let rest = filter-filter w e xs in
    elim (cases_Bool (e x)) as (λ _. filter (λ y. w y && e y) (x ∷ xs) ≡ filter w (filter e (x ∷ xs))) [
      | inl kept ↦
          let here : (w x && e x) ≡ w x = ap (λ (b : Bool). w x && b) kept ∙ and_true (w x) in
          ap (λ (b : Bool). cond b (x ∷ filter (λ y. w y && e y) xs) (filter (λ y. w y && e y) xs)) here
          ∙ ap (λ (l : List _). cond (w x) (x ∷ l) l) rest ∙ sym (ap (filter w) (filter_kept e x xs kept))
      | inr out ↦
          let here : (w x && e x) ≡ false = ap (λ (b : Bool). w x && b) out ∙ and_false (w x) in
          ap (λ (b : Bool). cond b (x ∷ filter (λ y. w y && e y) xs) (filter (λ y. w y && e y) xs)) here
          ∙ rest ∙ sym (ap (filter w) (filter_out e x xs out))
    ]
  where
    and_true : (b : Bool) → (b && true) ≡ b
    and_true true = refl
    and_true false = refl

    and_false : (b : Bool) → (b && false) ≡ false
    and_false true = refl
    and_false false = refl

fails_too : (b : Bool) → (b ≡ true → ⊥) → ◌≡◌ {A = ℕ} (cond b 1 0) 0
fails_too true never = absurd (never refl)
fails_too false never = refl

-- what one test counts, where another passes whatever it passes
pub count-filter : {X : Type 0} (q w : X → Bool) (xs : List X) → ((x : X) → q x ≡ true → w x ≡ true) → count_by q (filter w xs) ≡ count_by q xs
count-filter q w [] within = refl
count-filter q w (x ∷ xs) within =
    let rest = count-filter q w xs within in
    elim (cases_Bool (w x)) as (λ _. count_by q (filter w (x ∷ xs)) ≡ count_by q (x ∷ xs)) [
      | inl kept ↦ ap (count_by q) (filter_kept w x xs kept) ∙ count-cons q x (filter w xs) ∙ ap (λ (n : ℕ). cond (q x) 1 0 + n) rest ∙ sym (count-cons q x xs)
      | inr out ↦
          let fails : cond (q x) 1 0 ≡ 0 =
          fails_too (q x) (λ passes. let same : true ≡ false = sym (within x passes) ∙ out in cc) in
          ap (count_by q) (filter_out w x xs out) ∙ rest ∙ omega (arith, count-cons q x xs, fails)
    ]

-- a filter keeps no more than there is
pub count-filter-le : {X : Type 0} (q w : X → Bool) (xs : List X) → count_by q (filter w xs) ≤ count_by q xs
count-filter-le q w [] = omega arith
count-filter-le q w (x ∷ xs) =
    let rest = count-filter-le q w xs in
    elim (cases_Bool (w x)) as (λ _. count_by q (filter w (x ∷ xs)) ≤ count_by q (x ∷ xs)) [
      | inl kept ↦ omega (arith, ap (count_by q) (filter_kept w x xs kept), count-cons q x (filter w xs), rest, count-cons q x xs)
      | inr out ↦ omega (arith, ap (count_by q) (filter_out w x xs out), rest, count-cons q x xs)
    ]

-- a test that all pass
pub filter_all : {X : Type 0} (w : X → Bool) (xs : List X) → All (λ x. w x ≡ true) xs → filter w xs ≡ xs
filter_all w [] all = refl
filter_all w (x ∷ xs) all =
    filter_kept w x xs (all zero x (omega arith)) ∙ ap (λ (l : List _). x ∷ l) (filter_all w xs (λ k d lt. all (suc k) d (omega arith)))

-- what a filter has
pub contains_filtered : {X : Type 0} (w : X → Bool) (x : X) (xs : List X) → Contains xs x → w x ≡ true → Contains (filter w xs) x
contains_filtered w x [] (k, within, is) passes = absurd (omega arith)
contains_filtered w x (y ∷ ys) (zero, within, is) passes =
    let here : w y ≡ true = ap w is ∙ passes in
    subst (λ (l : List _). Contains l x) (sym (filter_kept w y ys here)) (zero, omega arith, is)
contains_filtered w x (y ∷ ys) (suc k, within, is) passes =
    let rest = contains_filtered w x ys (k, omega arith, is) passes in
    elim (cases_Bool (w y)) as (λ _. Contains (filter w (y ∷ ys)) x) [
      | inl kept ↦ subst (λ (l : List _). Contains l x) (sym (filter_kept w y ys kept)) (let lt = rest.1 in (suc rest.0, omega arith, rest.2))
      | inr out ↦ subst (λ (l : List _). Contains l x) (sym (filter_out w y ys out)) rest
    ]

contains_cases : {X : Type 0} (y x : X) (xs : List X) → Contains (y ∷ xs) x → (y ≡ x) ⊎ Contains xs x
contains_cases y x xs (zero, within, is) = inl is
contains_cases y x xs (suc k, within, is) = inr (k, omega arith, is)

contains_later : {X : Type 0} (y x : X) (xs : List X) → Contains xs x → Contains (y ∷ xs) x
contains_later y x xs c = let within = c.1 in (suc c.0, omega arith, c.2)

pub contains_from_filter : {X : Type 0} (w : X → Bool) (x : X) (xs : List X) → Contains (filter w xs) x → Contains xs x × (w x ≡ true)
contains_from_filter w x [] (k, within, is) = absurd (omega arith)
contains_from_filter w x (y ∷ ys) c =
    elim (cases_Bool (w y)) as (λ _. Contains (y ∷ ys) x × (w x ≡ true)) [
      | inl kept ↦
          elim (contains_cases y x (filter w ys) (subst (λ (l : List _). Contains l x) (filter_kept w y ys kept) c)) as (λ _. Contains (y ∷ ys) x × (w x ≡ true)) [
            | inl here ↦ ((zero, omega arith, here), sym (ap w here) ∙ kept)
            | inr later ↦ let rest = contains_from_filter w x ys later in (contains_later y x ys rest.0, rest.1)
          ]
      | inr out ↦
          let rest = contains_from_filter w x ys (subst (λ (l : List _). Contains l x) (filter_out w y ys out) c) in
          (contains_later y x ys rest.0, rest.1)
    ]

-- where just the first k pass, k are counted
pub count_first : {X : Type 0} (q : X → Bool) (xs : List X) (k : ℕ) → k ≤ length xs → ((i : ℕ) (d : X) → i < k → q (get_or xs i d) ≡ true) → ((i : ℕ) (d : X) → k ≤ i → i < length xs → q (get_or xs i d) ≡ false) → count_by q xs ≡ k
count_first q [] k most passes fails = omega arith
count_first q (x ∷ xs) zero most passes fails =
    let rest = count_first q xs zero (omega arith) (λ i d lt. absurd (omega arith)) (λ i d le lt. fails (suc i) d (omega arith) (omega arith)) in
    omega (arith, count-cons q x xs, ap {B = ℕ} (λ (b : Bool). cond b 1 0) (fails zero x (omega arith) (omega arith)), rest)
count_first q (x ∷ xs) (suc k) most passes fails =
    let rest = count_first q xs k (omega arith) (λ i d lt. passes (suc i) d (omega arith)) (λ i d le lt. fails (suc i) d (omega arith) (omega arith)) in
    omega (arith, count-cons q x xs, ap {B = ℕ} (λ (b : Bool). cond b 1 0) (passes zero x (omega arith)), rest)

-- a front that is cut at the length at most
pub take-min : {X : Type 0} (n m : ℕ) (xs : List X) → m ≡ min n (length xs) → take m xs ≡ take n xs
take-min n m xs is =
    elim (cases_lt n (length xs)) as (λ _. take m xs ≡ take n xs) [
      | inl less ↦ let e : m ≡ n = omega arith in ap (λ (k : ℕ). take k xs) e
      | inr le ↦ take_all m xs (omega arith) ∙ sym (take_all n xs le)
    ]

-- a part of a list in order
pub AllPairs-take : {X : Type 0} (R : X → X → Type 0) (n : ℕ) (xs : List X) → AllPairs R xs → AllPairs R (take n xs)
AllPairs-take R n xs pairs i j d lt j_in =
    let len = length-take n xs in
    let j_low : j < n = omega arith in
    let j_within : j < length xs = omega arith in
    subst (λ x. R x (get_or (take n xs) j d)) (sym (get_or-take n xs i d (omega arith)))
    (subst (λ y. R (get_or xs i d) y) (sym (get_or-take n xs j d j_low)) (pairs i j d lt j_within))

-- rising numbers are apart, in whatever order they are put
pub range_rises : (s n : ℕ) → AllPairs (λ a b. a < b) (range_with_len s n)
range_rises s n i j d lt j_in =
    let len = length-range_with_len s n in
    omega (arith, get_or-range_with_len s n i d (omega arith), get_or-range_with_len s n j d (omega arith))

eqb-flips : (x y : ℕ) → (x == y) ≡ (y == x)
eqb-flips x y =
    elim (cases_Bool (y == x)) as (λ _. (x == y) ≡ (y == x)) [
      | inl same ↦ eq-eqb x y (sym (eqb-true y x same)) ∙ sym same
      | inr apart ↦ ne_eqb x y (λ e. let same = eq-eqb y x (sym e) in let both : true ≡ false = sym same ∙ apart in cc) ∙ sym apart
    ]

pub permuted_apart : (w : ℕ → Bool) (s n : ℕ) (ps : List ℕ) → IsPermutation (filter w (range_with_len s n)) ps → (i j d : ℕ) → i < j → j < length ps → get_or ps i d ≢ get_or ps j d
permuted_apart w s n ps permutes i j d lt j_in same =
    let ts = filter w (range_with_len s n) in
    let rises = AllPairs-filter (λ a b. a < b) w (range_with_len s n) (range_rises s n) in
    let distinct = IsDistinct-from_apart (λ (x y : ℕ). x == y) ts (λ k l e before within. ne_eqb (get_or ts k e) (get_or ts l e) (λ is. let less = rises k l e before within in omega arith)) in
    let apart : (get_or ps i d == get_or ps j d) ≡ false = apart_from_distinct (λ (x y : ℕ). x == y) ps i j d (IsDistinct-IsPermutation (λ (x y : ℕ). x == y) eqb-flips ts ps permutes distinct) lt j_in in
    let one : (get_or ps i d == get_or ps j d) ≡ true = eq-eqb (get_or ps i d) (get_or ps j d) same in
    (let both : true ≡ false = sym one ∙ apart in cc)
