-- Pairs and elements of joined and filtered lists, and lists that rearrange each other.
use Rattle.std.proofs.Common.{◌≡◌, ◌≢◌, ℕ, zero, suc, ◌<◌, ◌⊎◌, Bool, true, false, cond, List, [], ◌∷◌, ◌++◌, length, get_or, refl, sym, ap, ◌∙◌, subst, inl, inr, ⊎_elim, arith, filter, remove}
use Rattle.std.specs.List.{All, AllPairs, Contains}
use Rattle.std.specs.List.Sorted.{IsPermutation}
use Rattle.std.proofs.lemmas.List.{append-nil, nil_from_length, length-append}
use Rattle.std.proofs.lemmas.List.Elements.{All-append}
use Rattle.std.proofs.lemmas.List.Kept.{AllPairs-cons}
use Rattle.std.proofs.lemmas.List.Sorted.{IsPermutation-refl, IsPermutation-sym, IsPermutation-trans, IsPermutation-cons, IsPermutation-remove, length_permutation, Contains-permutation}

pub AllPairs-head : {X : Type 0} (R : X → X → Type 0) (x : X) (xs : List X) → AllPairs R (x ∷ xs) → All (R x) xs
AllPairs-head R x xs pairs k d lt = pairs 0 (suc k) d (omega arith) (omega arith)

pub AllPairs-tail : {X : Type 0} (R : X → X → Type 0) (x : X) (xs : List X) → AllPairs R (x ∷ xs) → AllPairs R xs
AllPairs-tail R x xs pairs i j d lt in' = pairs (suc i) (suc j) d (omega arith) (omega arith)

pub AllPairs-append : {X : Type 0} (R : X → X → Type 0) (xs ys : List X) → AllPairs R xs → AllPairs R ys → All (λ x. All (R x) ys) xs → AllPairs R (xs ++ ys)
AllPairs-append R [] ys left right across = right
AllPairs-append R (x ∷ xs) ys left right across =
    AllPairs-cons R x (xs ++ ys) (All-append (R x) xs ys (AllPairs-head R x xs left) (across 0 x (omega arith)))
    (AllPairs-append R xs ys (AllPairs-tail R x xs left) right (λ k d lt. across (suc k) d (omega arith)))

pub Contains-here : {X : Type 0} (x : X) (xs : List X) → Contains (x ∷ xs) x
Contains-here x xs = (0, omega arith, refl)

pub Contains-there : {X : Type 0} (x y : X) (xs : List X) → Contains xs y → Contains (x ∷ xs) y
Contains-there x y xs h = (suc h.0, omega (arith, h.1), h.2)

pub Contains-cases : {X : Type 0} (x y : X) (xs : List X) → Contains (x ∷ xs) y → (x ≡ y) ⊎ Contains xs y
Contains-cases x y xs h = by_place h.0 h.1 h.2
  where
    by_place : (k : ℕ) → k < length (x ∷ xs) → get_or (x ∷ xs) k y ≡ y → (x ≡ y) ⊎ Contains xs y
    by_place zero lt e = inl e
    by_place (suc k) lt e = inr (k, omega arith, e)

pub Contains-filter : {X : Type 0} (p : X → Bool) (xs : List X) (y : X) → p y ≡ true → Contains xs y → Contains (filter p xs) y
Contains-filter p [] y passes h = absurd (omega (arith, h.1))
Contains-filter {X} p (x ∷ xs) y passes h =
    ⊎_elim
    (λ (e : x ≡ y).
    let here : filter p (x ∷ xs) ≡ x ∷ filter p xs = ap (λ (b : Bool). cond b (x ∷ filter p xs) (filter p xs)) (ap p e ∙ passes) in
    subst (λ (l : List X). Contains l y) (sym here) (subst (Contains (x ∷ filter p xs)) e (Contains-here x (filter p xs))))
    (λ (later : Contains xs y). kept (p x) (Contains-filter p xs y passes later))
    (Contains-cases x y xs h)
  where
    kept : (b : Bool) → Contains (filter p xs) y → Contains (cond b (x ∷ filter p xs) (filter p xs)) y
    kept true h = Contains-there x y (filter p xs) h
    kept false h = h

-- what is left of a list from which the elements of another are taken
pub record Rest {X : Type 0} (xs ys : List X) : Type 0 where
  pub rest : List X
  pub is : IsPermutation ys (xs ++ rest)

pub rest_of : {X : Type 0} (xs ys : List X) → AllPairs (λ x y. x ≢ y) xs → ((x : X) → Contains xs x → Contains ys x) → Rest xs ys
rest_of [] ys apart among = record { rest = ys; is = IsPermutation-refl ys }
rest_of (x ∷ xs) ys apart among =
    let found = among x (Contains-here x xs) in
    let front = IsPermutation-remove ys found.0 x found.1 (sym found.2) in
    let rest = rest_of xs (remove ys found.0) (AllPairs-tail (λ x y. x ≢ y) x xs apart)
    (λ y in'. ⊎_elim
    (λ (e : x ≡ y). absurd (apart 0 (suc in'.0) y (omega arith) (omega (arith, in'.1)) (e ∙ sym in'.2)))
    (λ later. later)
    (Contains-cases x y (remove ys found.0) (Contains-permutation ys (x ∷ remove ys found.0) y front (among y (Contains-there x y xs in'))))) in
    record {
      rest = rest.rest;
      is = IsPermutation-trans ys (x ∷ remove ys found.0) (x ∷ (xs ++ rest.rest)) front (IsPermutation-cons x (remove ys found.0) (xs ++ rest.rest) rest.is);
    }

-- two lists without repetition that have the same elements rearrange each other
pub rearranged : {X : Type 0} (xs ys : List X) → AllPairs (λ x y. x ≢ y) xs → AllPairs (λ x y. x ≢ y) ys → ((x : X) → Contains xs x → Contains ys x) → ((x : X) → Contains ys x → Contains xs x) → IsPermutation xs ys
rearranged {X} xs ys apart_xs apart_ys right left =
    let more = rest_of xs ys apart_xs right in
    let fewer = rest_of ys xs apart_ys left in
    let none : more.rest ≡ [] = nil_from_length more.rest
    (omega (arith, length_permutation ys (xs ++ more.rest) more.is, length_permutation xs (ys ++ fewer.rest) fewer.is, length-append xs more.rest, length-append ys fewer.rest)) in
    IsPermutation-sym ys xs (subst (λ (l : List X). IsPermutation ys l) (ap (λ (r : List X). xs ++ r) none ∙ append-nil xs) more.is)
