-- Facts on what lists contain, and on an element that is written and read.
use Rattle.std.proofs.Common.{◌≡◌, ◌≢◌, ℕ, zero, suc, ◌+◌, ◌<◌, ◌≤◌, ◌⊎◌, inl, inr, Bool, true, cond, List, [], ◌∷◌, ◌++◌, Some, length, get_or, set, map, refl, sym, ap, ◌∙◌, subst, arith, slice_get}
use Rattle.std.specs.List.{All, AllByRecursion, AllPairs, AllAdjacentBelow, Any, Contains, filter, range_with_len}
use Rattle.std.proofs.lemmas.Bool.{cases_Bool, cases_eq}
use Rattle.std.proofs.lemmas.List.Elements.{All-cons, All-nil, All-contains, Contains-get_or, Contains-append_cases}
use Rattle.std.proofs.lemmas.List.Kept.{AllPairs-cons}
use Rattle.std.proofs.lemmas.Option.{get_or_from_slice_get, slice_get_within}

pub All-one : {X : Type 0} (P : X → Type 0) (x : X) → P x → All P (x ∷ [])
All-one P x h = All-cons P x [] h (All-nil P)

pub all-append : {X : Type 0} (P : X → Type 0) (xs ys : List X) → AllByRecursion P xs → AllByRecursion P ys → AllByRecursion P (xs ++ ys)
all-append P [] ys first second = second
all-append P (x ∷ xs) ys first second = (first.0, all-append P xs ys first.1 second)

pub AllPairs-one : {X : Type 0} (R : X → X → Type 0) (x : X) → AllPairs R (x ∷ [])
AllPairs-one R x i j d before within = absurd (omega arith)

pub AllAdjacent-one : {X : Type 0} (R : X → X → Type 0) (x : X) → AllAdjacentBelow R (x ∷ []) 1
AllAdjacent-one R x k d within = absurd (omega arith)

pub contains_one : {X : Type 0} (x : X) → Contains (x ∷ []) x
contains_one x = (0, omega arith, refl)

only_at : {X : Type 0} (x y : X) (k : ℕ) → k < 1 → get_or (x ∷ []) k y ≡ y → y ≡ x
only_at x y zero within e = sym e
only_at x y (suc k) within e = absurd (omega arith)

-- the one element is it
pub contained_in_one : {X : Type 0} (x y : X) → Contains (x ∷ []) y → y ≡ x
contained_in_one x y h = only_at x y h.0 h.1 h.2

pub contained_in_none : {X : Type 0} (y : X) → ¬ Contains [] y
contained_in_none y h = absurd (omega (arith, h.1))

-- what is written is read
pub slice_get-set_same : {X : Type 0} (xs : List X) (i : ℕ) (x y : X) → slice_get xs i ≡ Some x → slice_get (set xs i y) i ≡ Some y
slice_get-set_same [] i x y h = cc
slice_get-set_same (z ∷ zs) zero x y h = refl
slice_get-set_same (z ∷ zs) (suc i) x y h = slice_get-set_same zs i x y h

-- a write elsewhere changes nothing
pub slice_get-set_other : {X : Type 0} (xs : List X) (i k : ℕ) (y : X) → k ≢ i → slice_get (set xs i y) k ≡ slice_get xs k
slice_get-set_other [] i k y ne = refl
slice_get-set_other (z ∷ zs) zero zero y ne = absurd (ne refl)
slice_get-set_other (z ∷ zs) zero (suc k) y ne = refl
slice_get-set_other (z ∷ zs) (suc i) zero y ne = refl
slice_get-set_other (z ∷ zs) (suc i) (suc k) y ne = slice_get-set_other zs i k y (λ e. ne (ap suc e))

-- of two writes at one place the later counts
pub set-set_same : {X : Type 0} (xs : List X) (i : ℕ) (x y : X) → set (set xs i x) i y ≡ set xs i y
set-set_same [] i x y = refl
set-set_same (z ∷ zs) zero x y = refl
set-set_same (z ∷ zs) (suc i) x y = ap (λ l. z ∷ l) (set-set_same zs i x y)

-- two writes at different places come in any order
pub set-set_other : {X : Type 0} (xs : List X) (i k : ℕ) (x y : X) → k ≢ i → set (set xs i x) k y ≡ set (set xs k y) i x
set-set_other [] i k x y ne = refl
set-set_other (z ∷ zs) zero zero x y ne = absurd (ne refl)
set-set_other (z ∷ zs) zero (suc k) x y ne = refl
set-set_other (z ∷ zs) (suc i) zero x y ne = refl
set-set_other (z ∷ zs) (suc i) (suc k) x y ne = ap (λ l. z ∷ l) (set-set_other zs i k x y (λ e. ne (ap suc e)))

-- what is there is written
pub set-slice_get : {X : Type 0} (xs : List X) (i : ℕ) (x : X) → slice_get xs i ≡ Some x → set xs i x ≡ xs
set-slice_get [] i x h = refl
set-slice_get (z ∷ zs) zero x h = let same : z ≡ x = cc in ap (λ y. y ∷ zs) (sym same)
set-slice_get (z ∷ zs) (suc i) x h = ap (λ l. z ∷ l) (set-slice_get zs i x h)

-- two lists with the same items at all places are one
pub same_places : {X : Type 0} (xs ys : List X) → ((k : ℕ) → slice_get xs k ≡ slice_get ys k) → xs ≡ ys
same_places [] [] h = refl
same_places [] (y ∷ ys) h = let first = h 0 in cc
same_places (x ∷ xs) [] h = let first = h 0 in cc
same_places {X} (x ∷ xs) (y ∷ ys) h =
    let first : Some x ≡ Some y = h 0 in
    let same : x ≡ y = cc in
    ap (λ (z : X). z ∷ xs) same ∙ ap (λ (l : List X). y ∷ l) (same_places xs ys (λ k. h (suc k)))

pub contains_here : {X : Type 0} (x : X) (xs : List X) → Contains (x ∷ xs) x
contains_here x xs = (0, omega arith, refl)

pub contains_later : {X : Type 0} (x y : X) (xs : List X) → Contains xs y → Contains (x ∷ xs) y
contains_later x y xs h = (suc h.0, omega (arith, h.1), h.2)

cases_at : {X : Type 0} (x y : X) (xs : List X) (k : ℕ) → k < length (x ∷ xs) → get_or (x ∷ xs) k y ≡ y → (x ≡ y) ⊎ Contains xs y
cases_at x y xs zero within e = inl e
cases_at x y xs (suc k) within e = inr (k, omega arith, e)

-- it is the first item or a later one
pub contains_cases : {X : Type 0} (x y : X) (xs : List X) → Contains (x ∷ xs) y → (x ≡ y) ⊎ Contains xs y
contains_cases x y xs h = cases_at x y xs h.0 h.1 h.2

-- what stands at a place is contained
pub contains_at : {X : Type 0} (xs : List X) (k : ℕ) (x : X) → slice_get xs k ≡ Some x → Contains xs x
contains_at xs k x h = (k, slice_get_within xs k x h, get_or_from_slice_get xs k x x h)

-- an item of the list is behind each item of the map
pub contained_in_map : {X Y : Type 0} (f : X → Y) (xs : List X) (y : Y) → Contains (map f xs) y → (x : X) × Contains xs x × (f x ≡ y)
contained_in_map f [] y h = absurd (contained_in_none y h)
contained_in_map f (x ∷ xs) y h = elim (contains_cases (f x) y (map f xs) h) [
  | inl e ↦ (x, contains_here x xs, e)
  | inr later ↦ let r = contained_in_map f xs y later in (r.0, contains_later x r.0 xs r.1, r.2)
]

pub contains_map : {X Y : Type 0} (f : X → Y) (xs : List X) (x : X) → Contains xs x → Contains (map f xs) (f x)
contains_map f [] x h = absurd (contained_in_none x h)
contains_map f (y ∷ ys) x h = elim (contains_cases y x ys h) [
  | inl e ↦ subst (λ z. Contains (f y ∷ map f ys) (f z)) e (contains_here (f y) (map f ys))
  | inr later ↦ contains_later (f y) (f x) (map f ys) (contains_map f ys x later)
]

pub all_from_contains : {X : Type 0} (P : X → Type 0) (xs : List X) → ((x : X) → Contains xs x → P x) → All P xs
all_from_contains P xs h k d within = h (get_or xs k d) (Contains-get_or xs k d within)

pub any_from_contained : {X : Type 0} (P : X → Type 0) (xs : List X) (x : X) → Contains xs x → P x → Any P xs
any_from_contained P xs x h p = (h.0, x, h.1, h.2, p)

pub pairs_head : {X : Type 0} (R : X → X → Type 0) (x : X) (xs : List X) → AllPairs R (x ∷ xs) → (y : X) → Contains xs y → R x y
pairs_head R x xs h y in_rest =
    All-contains (R x) xs y (λ k d within. h 0 (suc k) d (omega arith) (omega arith)) in_rest

pub pairs_tail : {X : Type 0} (R : X → X → Type 0) (x : X) (xs : List X) → AllPairs R (x ∷ xs) → AllPairs R xs
pairs_tail R x xs h i j d before within = h (suc i) (suc j) d (omega arith) (omega arith)

pub pairs_none : {X : Type 0} (R : X → X → Type 0) → AllPairs R []
pairs_none R i j d before within = absurd (omega arith)

pub pairs_cons : {X : Type 0} (R : X → X → Type 0) (x : X) (xs : List X) → ((y : X) → Contains xs y → R x y) → AllPairs R xs → AllPairs R (x ∷ xs)
pairs_cons R x xs first rest = AllPairs-cons R x xs (all_from_contains (R x) xs first) rest

pub contained_in_append : {X : Type 0} (xs ys : List X) (x : X) → Contains (xs ++ ys) x → Contains xs x ⊎ Contains ys x
contained_in_append xs ys x h = Contains-append_cases xs ys x h

-- pairs of items of a map
pub pairs_map : {X Y : Type 0} (R : Y → Y → Type 0) (f : X → Y) (xs : List X) → AllPairs (λ x y. R (f x) (f y)) xs → AllPairs R (map f xs)
pairs_map R f [] h = pairs_none R
pairs_map {X} {Y} R f (x ∷ xs) h =
    pairs_cons R (f x) (map f xs)
    (λ y in_map.
    let behind = contained_in_map f xs y in_map in
    subst (R (f x)) behind.2 (pairs_head (λ (u v : X). R (f u) (f v)) x xs h behind.0 behind.1))
    (pairs_map R f xs (pairs_tail (λ (u v : X). R (f u) (f v)) x xs h))

-- two lists one after the other
pub pairs_append : {X : Type 0} (R : X → X → Type 0) (xs ys : List X) → AllPairs R xs → AllPairs R ys →
    ((x y : X) → Contains xs x → Contains ys y → R x y) → AllPairs R (xs ++ ys)
pairs_append R [] ys first second between = second
pairs_append R (x ∷ xs) ys first second between =
    pairs_cons R x (xs ++ ys)
    (λ y in_both. elim (contained_in_append xs ys y in_both) [
      | inl in_first ↦ pairs_head R x xs first y in_first
      | inr in_second ↦ between x y (contains_here x xs) in_second
    ])
    (pairs_append R xs ys (pairs_tail R x xs first) second (λ u v in_first in_second. between u v (contains_later x u xs in_first) in_second))

-- what a filter keeps
pub contains_filter : {X : Type 0} (test : X → Bool) (xs : List X) (x : X) → Contains xs x → test x ≡ true → Contains (filter test xs) x
contains_filter test [] x h e = absurd (contained_in_none x h)
contains_filter {X} test (y ∷ ys) x h e = elim (contains_cases y x ys h) [
  | inl same ↦
      let passes : test y ≡ true = ap test same ∙ e in
      subst (λ b. Contains (cond b (y ∷ filter test ys) (filter test ys)) x) (sym passes) (subst (λ (z : X). Contains (y ∷ filter test ys) z) same (contains_here y (filter test ys)))
  | inr later ↦
      let in_rest = contains_filter test ys x later e in
      elim (cases_Bool (test y)) [
        | inl passes ↦ subst (λ b. Contains (cond b (y ∷ filter test ys) (filter test ys)) x) (sym passes) (contains_later y x (filter test ys) in_rest)
        | inr fails ↦ subst (λ b. Contains (cond b (y ∷ filter test ys) (filter test ys)) x) (sym fails) in_rest
      ]
]

pub contained_in_filter : {X : Type 0} (test : X → Bool) (xs : List X) (x : X) → Contains (filter test xs) x → Contains xs x × (test x ≡ true)
contained_in_filter test [] x h = absurd (contained_in_none x h)
contained_in_filter {X} test (y ∷ ys) x h = elim (cases_Bool (test y)) [
  | inl passes ↦
      elim (contains_cases y x (filter test ys) (subst (λ b. Contains (cond b (y ∷ filter test ys) (filter test ys)) x) passes h)) [
        | inl same ↦ (subst (λ (z : X). Contains (y ∷ ys) z) same (contains_here y ys), ap test (sym same) ∙ passes)
        | inr later ↦ let r = contained_in_filter test ys x later in (contains_later y x ys r.0, r.1)
      ]
  | inr fails ↦
      let r = contained_in_filter test ys x (subst (λ b. Contains (cond b (y ∷ filter test ys) (filter test ys)) x) fails h) in
      (contains_later y x ys r.0, r.1)
]

-- the numbers from a on
pub contained_in_range : (a n k : ℕ) → Contains (range_with_len a n) k → (a ≤ k) × (k < a + n)
contained_in_range a zero k h = absurd (contained_in_none k h)
contained_in_range a (suc n) k h = elim (contains_cases a k (range_with_len (a + 1) n) h) [
  | inl e ↦ (omega arith, omega arith)
  | inr later ↦ let rest = contained_in_range (a + 1) n k later in (omega (arith, rest.0), omega (arith, rest.1))
]

pub contains_range : (a n k : ℕ) → a ≤ k → k < a + n → Contains (range_with_len a n) k
contains_range a zero k low high = absurd (omega arith)
contains_range a (suc n) k low high = elim (cases_eq a k) [
  | inl e ↦ subst (λ m. Contains (a ∷ range_with_len (a + 1) n) m) e (contains_here a (range_with_len (a + 1) n))
  | inr ne ↦ contains_later a k (range_with_len (a + 1) n) (contains_range (a + 1) n k (omega arith) (omega arith))
]

pub range_rises : (a n : ℕ) → AllPairs (λ i j. i < j) (range_with_len a n)
range_rises a zero = pairs_none (λ i j. i < j)
range_rises a (suc n) =
    pairs_cons (λ i j. i < j) a (range_with_len (a + 1) n) (λ k later. omega (arith, (contained_in_range (a + 1) n k later).0)) (range_rises (a + 1) n)
