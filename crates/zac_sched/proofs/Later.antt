-- What holds of each element of a list with each later one, by recursion on the list.
use Rattle.std.proofs.Common.{suc, List, [], ◌∷◌, ◌++◌, arith}
use Rattle.std.specs.List.{All, AllPairs, AllByRecursion}
use Rattle.std.proofs.lemmas.List.Elements.{All-from_recursion, recursion_from_All}
use Rattle.std.proofs.lemmas.List.Kept.{AllPairs-cons}

-- R holds of each element with each later one
abbrev pub EachLater : {X : Type 0} → (X → X → Type 0) → List X → Type 0
EachLater R [] = Unit {0}
EachLater R (x ∷ xs) = AllByRecursion (R x) xs × EachLater R xs

module _ {X : Type 0} (P : X → Type 0) where
  pub all_append : (xs ys : List X) → AllByRecursion P xs → AllByRecursion P ys → AllByRecursion P (xs ++ ys)
  all_append [] ys first second = second
  all_append (x ∷ xs) ys first second = (first.0, all_append xs ys first.1 second)

  pub all_in_middle : (xs : List X) (y : X) (ys : List X) → AllByRecursion P (xs ++ y ∷ ys) → P y
  all_in_middle [] y ys h = h.0
  all_in_middle (x ∷ xs) y ys h = all_in_middle xs y ys h.1

  pub all_with_middle : (xs : List X) (y : X) (ys : List X) → P y → AllByRecursion P (xs ++ ys) → AllByRecursion P (xs ++ y ∷ ys)
  all_with_middle [] y ys here h = (here, h)
  all_with_middle (x ∷ xs) y ys here h = (h.0, all_with_middle xs y ys here h.1)

  pub all_without_middle : (xs : List X) (y : X) (ys : List X) → AllByRecursion P (xs ++ y ∷ ys) → AllByRecursion P (xs ++ ys)
  all_without_middle [] y ys h = h.1
  all_without_middle (x ∷ xs) y ys h = (h.0, all_without_middle xs y ys h.1)

  pub all_before : (xs ys : List X) → AllByRecursion P (xs ++ ys) → AllByRecursion P xs
  all_before [] ys h = tt
  all_before (x ∷ xs) ys h = (h.0, all_before xs ys h.1)

-- what follows for one element from what holds of it follows for all
pub all_weaker : {X : Type 0} (P Q : X → Type 0) (xs : List X) → ((x : X) → P x → Q x) → AllByRecursion P xs → AllByRecursion Q xs
all_weaker P Q [] weaker h = tt
all_weaker P Q (x ∷ xs) weaker h = (weaker x h.0, all_weaker P Q xs weaker h.1)

-- the same from two facts
pub all_from_two : {X : Type 0} (P Q R : X → Type 0) (xs : List X) → ((x : X) → P x → Q x → R x) →
    AllByRecursion P xs → AllByRecursion Q xs → AllByRecursion R xs
all_from_two P Q R [] both h k = tt
all_from_two P Q R (x ∷ xs) both h k = (both x h.0 k.0, all_from_two P Q R xs both h.1 k.1)

module _ {X : Type 0} (R : X → X → Type 0) where
  pub later_append : (xs ys : List X) → EachLater R xs → EachLater R ys →
      AllByRecursion (λ x. AllByRecursion (R x) ys) xs → EachLater R (xs ++ ys)
  later_append [] ys first second across = second
  later_append (x ∷ xs) ys first second across =
      (all_append (R x) xs ys first.0 across.0, later_append xs ys first.1 second across.1)

  pub later_without_middle : (xs : List X) (y : X) (ys : List X) → EachLater R (xs ++ y ∷ ys) → EachLater R (xs ++ ys)
  later_without_middle [] y ys h = h.1
  later_without_middle (x ∷ xs) y ys h = (all_without_middle (R x) xs y ys h.0, later_without_middle xs y ys h.1)

  -- each element before one in the middle is related to it
  pub later_to_middle : (xs : List X) (y : X) (ys : List X) → EachLater R (xs ++ y ∷ ys) → AllByRecursion (λ x. R x y) xs
  later_to_middle [] y ys h = tt
  later_to_middle (x ∷ xs) y ys h = (all_in_middle (R x) xs y ys h.0, later_to_middle xs y ys h.1)

  pub AllPairs-from_later : (xs : List X) → EachLater R xs → AllPairs R xs
  AllPairs-from_later [] h = λ i j d below inside. absurd (omega arith)
  AllPairs-from_later (x ∷ xs) h = AllPairs-cons R x xs (All-from_recursion (R x) xs h.0) (AllPairs-from_later xs h.1)

  AllPairs-head : (x : X) (xs : List X) → AllPairs R (x ∷ xs) → All (R x) xs
  AllPairs-head x xs h = λ k d inside. h 0 (suc k) d (omega arith) (omega arith)

  AllPairs-tail : (x : X) (xs : List X) → AllPairs R (x ∷ xs) → AllPairs R xs
  AllPairs-tail x xs h = λ i j d below inside. h (suc i) (suc j) d (omega arith) (omega arith)

  pub later_from_AllPairs : (xs : List X) → AllPairs R xs → EachLater R xs
  later_from_AllPairs [] h = tt
  later_from_AllPairs (x ∷ xs) h =
      (recursion_from_All (R x) xs (AllPairs-head x xs h), later_from_AllPairs xs (AllPairs-tail x xs h))

-- what follows for two elements from what holds of each and of both
pub later_from_all : {X : Type 0} (P : X → Type 0) (R Q : X → X → Type 0) (xs : List X) → ((x y : X) → P x → P y → R x y → Q x y) →
    AllByRecursion P xs → EachLater R xs → EachLater Q xs
later_from_all P R Q [] both all later = tt
later_from_all P R Q (x ∷ xs) both all later =
    (all_from_two P (R x) (Q x) xs (λ y p r. both x y all.0 p r) all.1 later.0, later_from_all P R Q xs both all.1 later.1)

pub later_weaker : {X : Type 0} (R Q : X → X → Type 0) (xs : List X) → ((x y : X) → R x y → Q x y) → EachLater R xs → EachLater Q xs
later_weaker R Q [] weaker later = tt
later_weaker R Q (x ∷ xs) weaker later = (all_weaker (R x) (Q x) xs (weaker x) later.0, later_weaker R Q xs weaker later.1)
