-- The first items of a list, one more of them, and all.
use Rattle.std.proofs.Common.{◌≡◌, ℕ, zero, suc, ◌+◌, ◌≤◌, List, [], ◌∷◌, ◌++◌, length, take, refl, ap, sym, subst, arith}
use Rattle.std.specs.List.{All}
use Rattle.std.proofs.lemmas.List.Elements.{All-append, All-cons}

pub take_whole : {X : Type 0} (k : ℕ) (xs : List X) → length xs ≤ k → take k xs ≡ xs
take_whole zero [] le = refl
take_whole (suc k) [] le = refl
take_whole zero (x ∷ xs) le = absurd (omega arith)
take_whole {X} (suc k) (x ∷ xs) le = ap (λ (l : List X). x ∷ l) (take_whole k xs (omega arith))

pub all_more : {X : Type 0} (P : X → Type 0) (xs : List X) (k : ℕ) (x : X) → take (k + 1) xs ≡ take k xs ++ x ∷ [] → All P (take k xs) → P x → All P (take (k + 1) xs)
all_more {X} P xs k x more all here =
    subst (λ (l : List X). All P l) (sym more) (All-append P (take k xs) (x ∷ []) all (All-cons P x [] here (λ i d lt. absurd (omega arith))))

pub all_whole : {X : Type 0} (P : X → Type 0) (xs : List X) (k : ℕ) → length xs ≤ k → All P (take k xs) → All P xs
all_whole {X} P xs k le all = subst (λ (l : List X). All P l) (take_whole k xs le) all
