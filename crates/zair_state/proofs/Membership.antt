-- What a list contains, one item after another.
use Rattle.std.proofs.Common.{◌≡◌, ◌≢◌, ℕ, zero, suc, ◌<◌, ◌⊎◌, inl, inr, Bool, true, cond, List, [], ◌∷◌, length, get_or, map, refl, sym, ap, ◌∙◌, subst, arith}
use Rattle.std.specs.List.{All, AllPairs, Any, Contains, filter}
use Rattle.std.proofs.lemmas.Bool.{cases_order, cases_Bool}
use Rattle.std.proofs.lemmas.List.{get_or_default}
use Rattle.std.proofs.lemmas.List.Elements.{All-contains, Contains-get_or}

pub contains_none : {X : Type 0} (x : X) → ¬ Contains [] x
contains_none x h = absurd (omega (arith, h.1))

pub contains_here : {X : Type 0} (x : X) (xs : List X) → Contains (x ∷ xs) x
contains_here x xs = (0, omega arith, refl)

pub contains_later : {X : Type 0} (x y : X) (xs : List X) → Contains xs y → Contains (x ∷ xs) y
contains_later x y xs h = (suc h.0, omega (arith, h.1), h.2)

cases_at : {X : Type 0} (x y : X) (xs : List X) (k : ℕ) → k < length (x ∷ xs) → get_or (x ∷ xs) k y ≡ y → (x ≡ y) ⊎ Contains xs y
cases_at x y xs zero within e = inl e
cases_at x y xs (suc k) within e = inr (k, omega arith, e)

-- it is the first item or a later one
pub contains_cases : {X : Type 0} (x y : X) (xs : List X) → Contains (x ∷ xs) y → (x ≡ y) ⊎ Contains xs y
contains_cases x y xs h = cases_at x y xs h.0 h.1 h.2

pub all_from_contains : {X : Type 0} (P : X → Type 0) (xs : List X) → ((x : X) → Contains xs x → P x) → All P xs
all_from_contains P xs h k d within = h (get_or xs k d) (Contains-get_or xs k d within)

pub pairs_head : {X : Type 0} (R : X → X → Type 0) (x : X) (xs : List X) → AllPairs R (x ∷ xs) → All (R x) xs
pairs_head R x xs h k d within = h 0 (suc k) d (omega arith) (omega arith)

pub pairs_tail : {X : Type 0} (R : X → X → Type 0) (x : X) (xs : List X) → AllPairs R (x ∷ xs) → AllPairs R xs
pairs_tail R x xs h i j d before within = h (suc i) (suc j) d (omega arith) (omega arith)

pub pairs_none : {X : Type 0} (R : X → X → Type 0) → AllPairs R []
pairs_none R i j d before within = absurd (omega arith)

pub contains_map : {X Y : Type 0} (f : X → Y) (xs : List X) (x : X) → Contains xs x → Contains (map f xs) (f x)
contains_map f [] x h = absurd (contains_none x h)
contains_map f (y ∷ ys) x h = elim (contains_cases y x ys h) [
  | inl e ↦ subst (λ z. Contains (f y ∷ map f ys) (f z)) e (contains_here (f y) (map f ys))
  | inr later ↦ contains_later (f y) (f x) (map f ys) (contains_map f ys x later)
]

-- an item of the list is behind each item of the map
pub contained_in_map : {X Y : Type 0} (f : X → Y) (xs : List X) (y : Y) → Contains (map f xs) y → (x : X) × Contains xs x × (f x ≡ y)
contained_in_map f [] y h = absurd (contains_none y h)
contained_in_map f (x ∷ xs) y h = elim (contains_cases (f x) y (map f xs) h) [
  | inl e ↦ (x, contains_here x xs, e)
  | inr later ↦ let r = contained_in_map f xs y later in (r.0, contains_later x r.0 xs r.1, r.2)
]

pub contains_filter : {X : Type 0} (test : X → Bool) (xs : List X) (x : X) → Contains xs x → test x ≡ true → Contains (filter test xs) x
contains_filter test [] x h e = absurd (contains_none x h)
contains_filter {X} test (y ∷ ys) x h e = elim (contains_cases y x ys h) [
  | inl same ↦
      let passes : test y ≡ true = ap test same ∙ e in
      subst (λ b. Contains (cond b (y ∷ filter test ys) (filter test ys)) x) (sym passes) (subst (λ (z : X). Contains (y ∷ filter test ys) z) same (contains_here y (filter test ys)))
  | inr later ↦
      let in_rest = contains_filter test ys x later e in
      elim (cases_Bool (test y)) [
        | inl passes ↦ subst (λ b. Contains (cond b (y ∷ filter test ys) (filter test ys)) x) (sym passes) (contains_later y x (filter test ys) in_rest)
        | inr fails ↦ subst (λ b. Contains (cond b (y ∷ filter test ys) (filter test ys)) x) (sym fails) in_rest
      ]
]

pub contained_in_filter : {X : Type 0} (test : X → Bool) (xs : List X) (x : X) → Contains (filter test xs) x → Contains xs x × (test x ≡ true)
contained_in_filter test [] x h = absurd (contains_none x h)
contained_in_filter {X} test (y ∷ ys) x h = elim (cases_Bool (test y)) [
  | inl passes ↦
      elim (contains_cases y x (filter test ys) (subst (λ b. Contains (cond b (y ∷ filter test ys) (filter test ys)) x) passes h)) [
        | inl same ↦ (subst (λ (z : X). Contains (y ∷ ys) z) same (contains_here y ys), ap test (sym same) ∙ passes)
        | inr later ↦ let r = contained_in_filter test ys x later in (contains_later y x ys r.0, r.1)
      ]
  | inr fails ↦
      let r = contained_in_filter test ys x (subst (λ b. Contains (cond b (y ∷ filter test ys) (filter test ys)) x) fails h) in
      (contains_later y x ys r.0, r.1)
]

-- of a list that rises by a key, two items with the same key are one
pub one_by_key : {X : Type 0} (key : X → ℕ) (xs : List X) (x y : X) → AllPairs (λ a b. key a < key b) xs → Contains xs x → Contains xs y → key x ≡ key y → x ≡ y
one_by_key key [] x y h in_x in_y e = absurd (contains_none x in_x)
one_by_key key (z ∷ zs) x y h in_x in_y e =
    let above : All (λ b. key z < key b) zs = pairs_head (λ a b. key a < key b) z zs h in
    elim (contains_cases z x zs in_x) [
      | inl zx ↦ elim (contains_cases z y zs in_y) [
        | inl zy ↦ sym zx ∙ zy
        | inr y_later ↦ let lt = All-contains (λ b. key z < key b) zs y above y_later in let same : key z ≡ key x = ap key zx in absurd (omega arith)
      ]
      | inr x_later ↦ elim (contains_cases z y zs in_y) [
        | inl zy ↦ let lt = All-contains (λ b. key z < key b) zs x above x_later in let same : key z ≡ key y = ap key zy in absurd (omega arith)
        | inr y_later ↦ one_by_key key zs x y (pairs_tail (λ a b. key a < key b) z zs h) x_later y_later e
      ]
    ]

related_at : {X : Type 0} (R : X → X → Type 0) (xs : List X) (d : X) → AllPairs R xs → (i j : ℕ) → i < length xs → j < length xs →
    (get_or xs i d ≡ get_or xs j d) ⊎ (R (get_or xs i d) (get_or xs j d) ⊎ R (get_or xs j d) (get_or xs i d))
related_at R xs d h i j in_i in_j = elim (cases_order i j) [
  | inl e ↦ inl (ap (λ (n : ℕ). get_or xs n d) e)
  | inr other ↦ elim other [ inl before ↦ inr (inl (h i j d before in_j)) | inr behind ↦ inr (inr (h j i d behind in_i)) ]
]

-- two items are one, or the one stands before the other
pub one_or_related : {X : Type 0} (R : X → X → Type 0) (xs : List X) (x y : X) → AllPairs R xs → Contains xs x → Contains xs y → (x ≡ y) ⊎ (R x y ⊎ R y x)
one_or_related {X} R xs x y h in_x in_y =
    let ex : get_or xs in_x.0 x ≡ x = in_x.2 in
    let ey : get_or xs in_y.0 x ≡ y = get_or_default xs in_y.0 x y in_y.1 ∙ in_y.2 in
    subst (λ (u : X). (u ≡ y) ⊎ (R u y ⊎ R y u)) ex
    (subst (λ (v : X). (get_or xs in_x.0 x ≡ v) ⊎ (R (get_or xs in_x.0 x) v ⊎ R v (get_or xs in_x.0 x))) ey (related_at R xs x h in_x.0 in_y.0 in_x.1 in_y.1))

-- of a list without a key twice too
pub one_by_distinct_key : {X : Type 0} (key : X → ℕ) (xs : List X) (x y : X) → AllPairs (λ a b. key a ≢ key b) xs → Contains xs x → Contains xs y → key x ≡ key y → x ≡ y
one_by_distinct_key key [] x y h in_x in_y e = absurd (contains_none x in_x)
one_by_distinct_key key (z ∷ zs) x y h in_x in_y e =
    let other : All (λ b. key z ≢ key b) zs = pairs_head (λ a b. key a ≢ key b) z zs h in
    elim (contains_cases z x zs in_x) [
      | inl zx ↦ elim (contains_cases z y zs in_y) [
        | inl zy ↦ sym zx ∙ zy
        | inr y_later ↦ absurd (All-contains (λ b. key z ≢ key b) zs y other y_later (ap key zx ∙ e))
      ]
      | inr x_later ↦ elim (contains_cases z y zs in_y) [
        | inl zy ↦ absurd (All-contains (λ b. key z ≢ key b) zs x other x_later (ap key zy ∙ sym e))
        | inr y_later ↦ one_by_distinct_key key zs x y (pairs_tail (λ a b. key a ≢ key b) z zs h) x_later y_later e
      ]
    ]

-- rising lists of the same numbers are the same list
pub rising_same : (xs ys : List ℕ) → AllPairs (λ a b. a < b) xs → AllPairs (λ a b. a < b) ys → ((z : ℕ) → Contains xs z → Contains ys z) → ((z : ℕ) → Contains ys z → Contains xs z) → xs ≡ ys
rising_same [] [] h k there back = refl
rising_same [] (y ∷ ys) h k there back = absurd (contains_none y (back y (contains_here y ys)))
rising_same (x ∷ xs) [] h k there back = absurd (contains_none x (there x (contains_here x xs)))
rising_same (x ∷ xs) (y ∷ ys) h k there back =
    let above_x : All (λ b. x < b) xs = pairs_head (λ a b. a < b) x xs h in
    let above_y : All (λ b. y < b) ys = pairs_head (λ a b. a < b) y ys k in
    let first : x ≡ y = elim (contains_cases y x ys (there x (contains_here x xs))) [
      | inl e ↦ sym e
      | inr in_ys ↦ elim (contains_cases x y xs (back y (contains_here y ys))) [
        | inl e ↦ e
        | inr in_xs ↦
            let lt = All-contains (λ b. x < b) xs y above_x in_xs in
            let gt = All-contains (λ b. y < b) ys x above_y in_ys in
            absurd (omega arith)
      ]
    ] in
    let rest_there : (z : ℕ) → Contains xs z → Contains ys z = λ z in_xs. elim (contains_cases y z ys (there z (contains_later x z xs in_xs))) [
      | inl e ↦ let lt = All-contains (λ b. x < b) xs z above_x in_xs in absurd (omega arith)
      | inr in_ys ↦ in_ys
    ] in
    let rest_back : (z : ℕ) → Contains ys z → Contains xs z = λ z in_ys. elim (contains_cases x z xs (back z (contains_later y z ys in_ys))) [
      | inl e ↦ let lt = All-contains (λ b. y < b) ys z above_y in_ys in absurd (omega arith)
      | inr in_xs ↦ in_xs
    ] in
    let rest : xs ≡ ys = rising_same xs ys (pairs_tail (λ a b. a < b) x xs h) (pairs_tail (λ a b. a < b) y ys k) rest_there rest_back in
    cc

-- one of the items is as P says, or none is, where each can be told
pub any_or_none : {X : Type 0} (P : X → Type 0) (xs : List X) → ((x : X) → P x ⊎ ¬ P x) → Any P xs ⊎ ¬ Any P xs
any_or_none P [] told = inr (λ h. absurd (omega (arith, h.2)))
any_or_none P (x ∷ xs) told = elim (told x) [
  | inl p ↦ inl (0, x, omega arith, refl, p)
  | inr not_first ↦ elim (any_or_none P xs told) [
    | inl h ↦ inl (suc h.0, h.1, omega (arith, h.2), h.3, h.4)
    | inr not_later ↦ inr (none_of_both P x xs not_first not_later)
  ]
]
  where
    none_at : {X : Type 0} (P : X → Type 0) (x : X) (xs : List X) → ¬ P x → ¬ Any P xs → (k : ℕ) (y : X) → k < length (x ∷ xs) → get_or (x ∷ xs) k y ≡ y → ¬ P y
    none_at {X} P x xs not_first not_later zero y within e p = not_first (subst (λ (z : X). P z) (sym e) p)
    none_at P x xs not_first not_later (suc k) y within e p = not_later (k, y, omega arith, e, p)

    none_of_both : {X : Type 0} (P : X → Type 0) (x : X) (xs : List X) → ¬ P x → ¬ Any P xs → ¬ Any P (x ∷ xs)
    none_of_both P x xs not_first not_later h = none_at P x xs not_first not_later h.0 h.1 h.2 h.3 h.4

pub any_contained : {X : Type 0} (P : X → Type 0) (xs : List X) → Any P xs → (x : X) × Contains xs x × P x
any_contained P xs h = (h.1, (h.0, h.2, h.3), h.4)

pub any_from_contained : {X : Type 0} (P : X → Type 0) (xs : List X) (x : X) → Contains xs x → P x → Any P xs
any_from_contained P xs x h p = (h.0, x, h.1, h.2, p)
