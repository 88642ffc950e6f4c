-- What lists contain that are made of parts, and how the items of different parts stand to each other.
use Rattle.std.proofs.Common.{inl, inr, List, [], ◌∷◌, sym, subst}
use Rattle.std.specs.List.{AllPairs, Contains, flat_map}
use Rattle.std.proofs.lemmas.List.Elements.{Contains-append_left, Contains-append_right}
use Rattle.zac_plan.proofs.Lists.{contained_in_append, contained_in_none, contains_cases, contains_here, contains_later, pairs_append, pairs_head, pairs_none, pairs_tail}

-- an item of the whole is one of a part
pub contained_in_flat_map : {X Y : Type 0} (f : X → List Y) (xs : List X) (y : Y) → Contains (flat_map f xs) y → (x : X) × Contains xs x × Contains (f x) y
contained_in_flat_map f [] y h = absurd (contained_in_none y h)
contained_in_flat_map f (x ∷ xs) y h = elim (contained_in_append (f x) (flat_map f xs) y h) [
  | inl here ↦ (x, contains_here x xs, here)
  | inr later ↦ let r = contained_in_flat_map f xs y later in (r.0, contains_later x r.0 xs r.1, r.2)
]

pub contains_flat_map : {X Y : Type 0} (f : X → List Y) (xs : List X) (x : X) (y : Y) → Contains xs x → Contains (f x) y → Contains (flat_map f xs) y
contains_flat_map f [] x y h in_part = absurd (contained_in_none x h)
contains_flat_map {X} {Y} f (z ∷ zs) x y h in_part = elim (contains_cases z x zs h) [
  | inl e ↦ Contains-append_left (f z) (flat_map f zs) y (subst (λ (u : X). Contains (f u) y) (sym e) in_part)
  | inr later ↦ Contains-append_right (f z) (flat_map f zs) y (contains_flat_map f zs x y later in_part)
]

-- the items of each part stand so to each other, and so do those of any two parts
pub pairs_flat_map : {X Y : Type 0} (Q : X → X → Type 0) (R : Y → Y → Type 0) (f : X → List Y) (xs : List X) → AllPairs Q xs →
    ((x : X) → Contains xs x → AllPairs R (f x)) →
    ((x x' : X) (y y' : Y) → Contains xs x → Contains xs x' → Q x x' → Contains (f x) y → Contains (f x') y' → R y y') →
    AllPairs R (flat_map f xs)
pairs_flat_map Q R f [] apart inside between = pairs_none R
pairs_flat_map Q R f (x ∷ xs) apart inside between =
    pairs_append R (f x) (flat_map f xs) (inside x (contains_here x xs))
    (pairs_flat_map Q R f xs (pairs_tail Q x xs apart) (λ z listed. inside z (contains_later x z xs listed))
    (λ z z' y y' listed listed'. between z z' y y' (contains_later x z xs listed) (contains_later x z' xs listed')))
    (λ y y' in_first in_rest.
    let part = contained_in_flat_map f xs y' in_rest in
    between x part.0 y y' (contains_here x xs) (contains_later x part.0 xs part.1) (pairs_head Q x xs apart part.0 part.1) in_first part.2)
