-- What holds between any two items of a list holds in each order of the list.
use Rattle.std.proofs.Common.{◌≡◌, ◌≢◌, ℕ, ◌<◌, ◌⊎◌, inl, inr, List, length, get_or, refl, sym, ap, ◌∙◌, subst, arith}
use Rattle.std.specs.List.{AllPairs, swap}
use Rattle.std.specs.List.Sorted.{IsPermutation}
use Rattle.std.proofs.lemmas.Bool.{cases_eq, cases_lt}
use Rattle.std.proofs.lemmas.List.Edits.{length-swap, swapped_from_swap}
use Rattle.std.proofs.lemmas.List.Sorted.{IsPermutation-keeps}
use Rattle.zac_group.specs.declared.shift.Shift.{Shift}

-- where an item of a list in which two are swapped stood before
abbrev IsSwapOf : ℕ → ℕ → ℕ → ℕ → Type 0
IsSwapOf i j k m = ((k ≡ i) × (m ≡ j)) ⊎ (((k ≡ j) × (m ≡ i)) ⊎ ((k ≢ i) × (k ≢ j) × (m ≡ k)))

swaps_apart : (i j k m k' m' : ℕ) → IsSwapOf i j k m → IsSwapOf i j k' m' → k ≢ k' → m ≢ m'
swaps_apart i j k m k' m' (inl h) (inl h') ne = omega arith
swaps_apart i j k m k' m' (inl h) (inr (inl h')) ne = omega arith
swaps_apart i j k m k' m' (inl h) (inr (inr h')) ne = omega arith
swaps_apart i j k m k' m' (inr (inl h)) (inl h') ne = omega arith
swaps_apart i j k m k' m' (inr (inl h)) (inr (inl h')) ne = omega arith
swaps_apart i j k m k' m' (inr (inl h)) (inr (inr h')) ne = omega arith
swaps_apart i j k m k' m' (inr (inr h)) (inl h') ne = omega arith
swaps_apart i j k m k' m' (inr (inr h)) (inr (inl h')) ne = omega arith
swaps_apart i j k m k' m' (inr (inr h)) (inr (inr h')) ne = omega arith

stood : {X : Type 0} (xs : List X) (i j : ℕ) (d : X) → i < length xs → j < length xs → (k : ℕ) → k < length xs →
    (m : ℕ) × (m < length xs) × (get_or (swap xs i j) k d ≡ get_or xs m d) × IsSwapOf i j k m
stood xs i j d i_in j_in k k_in =
    let swapped = swapped_from_swap xs (swap xs i j) i j d i_in j_in refl in
    elim (cases_eq k i) [
      | inl at_i ↦ (j, j_in, ap (λ n. get_or (swap xs i j) n d) at_i ∙ swapped.0, inl (at_i, refl))
      | inr not_i ↦ elim (cases_eq k j) [
        | inl at_j ↦ (i, i_in, ap (λ n. get_or (swap xs i j) n d) at_j ∙ swapped.1, inr (inl (at_j, refl)))
        | inr not_j ↦ (k, k_in, swapped.2 k not_i not_j, inr (inr (not_i, not_j, refl)))
      ]
    ]

-- a relation between any two items, in either order, is kept by a permutation
module _ (X : Type 0) (R : X → X → Type 0) (comm : (x y : X) → R x y → R y x) where
  at_both : (xs : List X) → AllPairs R xs → (m n : ℕ) (d : X) → m < length xs → n < length xs → m ≢ n → R (get_or xs m d) (get_or xs n d)
  at_both xs h m n d m_in n_in ne =
      elim (cases_lt m n) [
        | inl lt ↦ h m n d lt n_in
        | inr le ↦ comm (get_or xs n d) (get_or xs m d) (h n m d (omega arith) m_in)
      ]

  pairs_swap : (xs : List X) (i j : ℕ) → i < length xs → j < length xs → AllPairs R xs → AllPairs R (swap xs i j)
  pairs_swap xs i j i_in j_in h k l d before within =
      let l_in : l < length xs = omega (arith, length-swap xs i j) in
      let k_stood = stood xs i j d i_in j_in k (omega arith) in
      let l_stood = stood xs i j d i_in j_in l l_in in
      let apart = swaps_apart i j k k_stood.0 l l_stood.0 k_stood.3 l_stood.3 (omega arith) in
      subst (λ (x : X). R x (get_or (swap xs i j) l d)) (sym k_stood.2)
      (subst (λ (y : X). R (get_or xs k_stood.0 d) y) (sym l_stood.2) (at_both xs h k_stood.0 l_stood.0 d k_stood.1 l_stood.1 apart))

  pub pairs_permute : (xs ys : List X) → IsPermutation xs ys → AllPairs R xs → AllPairs R ys
  pairs_permute xs ys permutes h =
      IsPermutation-keeps xs (AllPairs R) h (λ l i j i_in j_in before. pairs_swap l i j i_in j_in before) ys permutes

-- shifts of different qubits, and to different traps
pub atoms_permute : (ss ts : List Shift) → IsPermutation ss ts → AllPairs (λ (s t : Shift). s.q ≢ t.q) ss → AllPairs (λ (s t : Shift). s.q ≢ t.q) ts
atoms_permute ss ts permutes h = pairs_permute Shift (λ (s t : Shift). s.q ≢ t.q) (λ s t ne e. ne (sym e)) ss ts permutes h

pub targets_permute : (ss ts : List Shift) → IsPermutation ss ts → AllPairs (λ (s t : Shift). s.to ≢ t.to) ss → AllPairs (λ (s t : Shift). s.to ≢ t.to) ts
targets_permute ss ts permutes h = pairs_permute Shift (λ (s t : Shift). s.to ≢ t.to) (λ s t ne e. ne (sym e)) ss ts permutes h
