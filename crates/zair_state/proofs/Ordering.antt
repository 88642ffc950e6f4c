-- What holds of each element of a list with each later one, and what holds in each order of timed steps.
use Rattle.std.proofs.Common.{List, [], ◌∷◌, ◌++◌, suc, sym, subst, arith}
use Rattle.std.specs.List.{All, AllPairs, AllByRecursion}
use Rattle.std.proofs.lemmas.List.Elements.{All-from_recursion, recursion_from_All}
use Rattle.std.proofs.lemmas.List.Kept.{AllPairs-cons}
use Rattle.zair_form.specs.Times.{Timed}
use Rattle.zair_state.specs.Orders.{IsOrderOf}

-- what holds of each element with each later one, by recursion on the list
abbrev pub EachLater : {X : Type 0} → (X → X → Type 0) → List X → Type 0
EachLater R [] = Unit {0}
EachLater R (x ∷ xs) = AllByRecursion (R x) xs × EachLater R xs

pub AllPairs-from_each_later : {X : Type 0} (R : X → X → Type 0) (xs : List X) → EachLater R xs → AllPairs R xs
AllPairs-from_each_later R [] h = λ i j d below inside. absurd (omega arith)
AllPairs-from_each_later R (x ∷ xs) h =
    AllPairs-cons R x xs (All-from_recursion (R x) xs h.0) (AllPairs-from_each_later R xs h.1)

AllPairs-tail : {X : Type 0} (R : X → X → Type 0) (x : X) (xs : List X) → AllPairs R (x ∷ xs) → AllPairs R xs
AllPairs-tail R x xs h = λ i j d below inside. h (suc i) (suc j) d (omega arith) (omega arith)

AllPairs-head : {X : Type 0} (R : X → X → Type 0) (x : X) (xs : List X) → AllPairs R (x ∷ xs) → All (R x) xs
AllPairs-head R x xs h = λ k d inside. h 0 (suc k) d (omega arith) (omega arith)

pub each_later_from_AllPairs : {X : Type 0} (R : X → X → Type 0) (xs : List X) → AllPairs R xs → EachLater R xs
each_later_from_AllPairs R [] h = tt
each_later_from_AllPairs R (x ∷ xs) h =
    (recursion_from_All (R x) xs (AllPairs-head R x xs h), each_later_from_AllPairs R xs (AllPairs-tail R x xs h))

-- what holds of all elements of an append holds of them with a further one in the middle
all_with_middle : {X : Type 0} (P : X → Type 0) (xs : List X) (y : X) (ys : List X) →
    P y → AllByRecursion P (xs ++ ys) → AllByRecursion P (xs ++ y ∷ ys)
all_with_middle P [] y ys here h = (here, h)
all_with_middle P (x ∷ xs) y ys here h = (h.0, all_with_middle P xs y ys here h.1)

-- what holds of each step holds of each in an order of them
pub all_of_order : (P : Timed → Type 0) (xs order : List Timed) →
    IsOrderOf xs order → AllByRecursion P xs → AllByRecursion P order
all_of_order P [] order same h = subst (AllByRecursion P) (sym same) h
all_of_order P (x ∷ xs) order same h =
    subst (AllByRecursion P) (sym same.2)
    (all_with_middle P same.0 x same.1 h.0 (all_of_order P xs (same.0 ++ same.1) same.3 h.1))
