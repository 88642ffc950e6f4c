-- Tests that pass alike, on numbers and on lists.
use Rattle.std.proofs.Common.{◌≡◌, ℕ, ◌+◌, ◌≤◌, ◌⊎◌, inl, inr, Bool, true, false, not, ◌&&◌, ◌||◌, if◌then◌else◌, List, [], ◌∷◌, get_or, map, refl, sym, subst, arith}
use Rattle.std.specs.List.{AllPairs, Contains, list_any}
use Rattle.std.proofs.lemmas.List.Elements.{All-contains, Contains-get_or}
use Rattle.std.proofs.lemmas.List.Kept.{AllPairs-cons}
use Rattle.std.proofs.lemmas.Bool.{or_cases, or_left, or_right}
use Rattle.std.proofs.lemmas.List.Folds.{Any-from_list_any, list_any-from_Any}
use Rattle.zair_state.proofs.Membership.{any_contained, any_from_contained, all_from_contains, contained_in_map, pairs_head, pairs_tail, pairs_none}

pub same_tests : (p q : Bool) → (p ≡ true → q ≡ true) → (q ≡ true → p ≡ true) → p ≡ q
same_tests true q there back = sym (there refl)
same_tests false true there back = back refl
same_tests false false there back = refl

pub passes_at : {X : Type 0} (p : X → Bool) (xs : List X) (x : X) → Contains xs x → p x ≡ true → list_any p xs ≡ true
passes_at p xs x c e = list_any-from_Any p xs (any_from_contained (λ y. p y ≡ true) xs x c e)

pub passing : {X : Type 0} (p : X → Bool) (xs : List X) → list_any p xs ≡ true → (x : X) × Contains xs x × (p x ≡ true)
passing p xs e = any_contained (λ y. p y ≡ true) xs (Any-from_list_any p xs e)

-- a line is at its place or parked beyond it
pub at_or_parked : (base park : ℕ) (t : Bool) → (base + (if t then 0 else park) ≡ base) ⊎ (base + (if t then 0 else park) ≡ base + park)
at_or_parked base park true = inl (omega arith)
at_or_parked base park false = inr refl

pub in_its_place : (base park : ℕ) (t : Bool) → t ≡ true → base + (if t then 0 else park) ≡ base
in_its_place base park true e = omega arith
in_its_place base park false e = cc

pub beyond_its_place : (base park : ℕ) (t : Bool) → t ≡ false → base + (if t then 0 else park) ≡ base + park
beyond_its_place base park true e = cc
beyond_its_place base park false e = refl

pub at_most_parked : (base park : ℕ) (t : Bool) → base + (if t then 0 else park) ≤ base + park
at_most_parked base park true = omega arith
at_most_parked base park false = omega arith

pub at_least_there : (base park : ℕ) (t : Bool) → base ≤ base + (if t then 0 else park)
at_least_there base park true = omega arith
at_least_there base park false = omega arith

pub any_implies : {X : Type 0} (p q : X → Bool) (xs : List X) → ((x : X) → Contains xs x → p x ≡ true → q x ≡ true) → list_any p xs ≡ true → list_any q xs ≡ true
any_implies p q xs h e = let found = passing p xs e in passes_at q xs found.0 found.1 (h found.0 found.1 found.2)

-- what follows for two items of the list
pub pairs_among : (X : Type 0) (R S : X → X → Type 0) (xs : List X) → ((x y : X) → Contains xs x → Contains xs y → R x y → S x y) → AllPairs R xs → AllPairs S xs
pairs_among X R S xs h pairs i j d before within =
    h (get_or xs i d) (get_or xs j d) (Contains-get_or xs i d (omega arith)) (Contains-get_or xs j d within) (pairs i j d before within)

-- a test that passes where one of two others does
pub any_either : {X : Type 0} (p q r : X → Bool) (xs : List X) → ((x : X) → Contains xs x → p x ≡ true → (q x ≡ true) ⊎ (r x ≡ true)) → ((x : X) → Contains xs x → q x ≡ true → p x ≡ true) → ((x : X) → Contains xs x → r x ≡ true → p x ≡ true)
    → list_any p xs ≡ (list_any q xs || list_any r xs)
any_either p q r xs splits left right =
    same_tests (list_any p xs) (list_any q xs || list_any r xs)
    (λ e.
    let found = passing p xs e in
    elim (splits found.0 found.1 found.2) [
      | inl passes ↦ or_left (list_any q xs) (list_any r xs) (passes_at q xs found.0 found.1 passes)
      | inr passes ↦ or_right (list_any q xs) (list_any r xs) (passes_at r xs found.0 found.1 passes)
    ])
    (λ e. elim (or_cases (list_any q xs) (list_any r xs) e) [
      | inl some ↦ any_implies q p xs left some
      | inr some ↦ any_implies r p xs right some
    ])

pub pairs_map : (X Y : Type 0) (R : Y → Y → Type 0) (f : X → Y) (xs : List X) → AllPairs (λ x y. R (f x) (f y)) xs → AllPairs R (map f xs)
pairs_map X Y R f [] h = pairs_none R
pairs_map X Y R f (x ∷ xs) h =
    AllPairs-cons R (f x) (map f xs)
    (all_from_contains (R (f x)) (map f xs) (λ y c.
    let r = contained_in_map f xs y c in
    subst (R (f x)) r.2 (All-contains (λ z. R (f x) (f z)) xs r.0 (pairs_head (λ z w. R (f z) (f w)) x xs h) r.1)))
    (pairs_map X Y R f xs (pairs_tail (λ z w. R (f z) (f w)) x xs h))

-- of what comes with or after something, without that it comes only after it
pub new_or_old : (p q : Bool) → (p || q) ≡ ((p && not q) || q)
new_or_old true true = refl
new_or_old true false = refl
new_or_old false true = refl
new_or_old false false = refl

pub old_alone : (p q : Bool) → q ≡ ((p || q) && not (p && not q))
old_alone true true = refl
old_alone true false = refl
old_alone false true = refl
old_alone false false = refl
