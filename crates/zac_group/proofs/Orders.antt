-- Lists in order, and in other orders.
use Rattle.std.proofs.Common.{◌≡◌, ◌≢◌, ℕ, zero, suc, ◌+◌, ◌-◌, ◌<◌, ◌≤◌, ◌⊎◌, true, false, inl, inr, List, [], ◌∷◌, length, get_or, refl, sym, ap, ◌∙◌, subst, arith}
use Rattle.std.specs.List.{AllPairs, Contains, swap}
use Rattle.std.specs.List.Sorted.{IsPermutation}
use Rattle.std.specs.Ordering.{is_lt, nat_cmp, ordering_then}
use Rattle.std.proofs.lemmas.Bool.{cases_eq, cases_lt, cases_order}
use Rattle.std.proofs.lemmas.List.Edits.{length-swap, swapped_from_swap}
use Rattle.std.proofs.lemmas.List.Sorted.{IsPermutation-keeps}
use Rattle.zac_group.proofs.Compare.{cmp_equal, cmp_less}

-- two numbers each that compare by the first, then the second
pub lesser_first : (a b m n : ℕ) → is_lt (ordering_then (nat_cmp a b) (nat_cmp m n)) ≡ false → (b < a) ⊎ ((a ≡ b) × (n ≤ m))
lesser_first a b m n h =
    elim (cases_order a b) [
      | inl e ↦ elim (cases_lt m n) [
        | inl lt ↦
            let both : ordering_then (nat_cmp a b) (nat_cmp m n) ≡ ordering_then (nat_cmp a b) (nat_cmp m n) = refl in
            let holds : is_lt (ordering_then (nat_cmp a b) (nat_cmp m n)) ≡ true =
            ap (λ o. is_lt (ordering_then o (nat_cmp m n))) (cmp_equal a b e) ∙ ap is_lt (cmp_less m n lt) in
            absurd (let x : true ≡ false = sym holds ∙ h in cc)
        | inr ge ↦ inr (e, ge)
      ]
      | inr w ↦ elim w [
        | inl lt ↦
            let holds : is_lt (ordering_then (nat_cmp a b) (nat_cmp m n)) ≡ true =
            ap (λ o. is_lt (ordering_then o (nat_cmp m n))) (cmp_less a b lt) in
            absurd (let x : true ≡ false = sym holds ∙ h in cc)
        | inr gt ↦ inl gt
      ]
    ]

-- neighbours that are in order, where the order goes on from one to the next
module _ (X : Type 0) (R : X → X → Type 0) (on : (x y z : X) → R x y → R y z → R x z) where
  far : (xs : List X) → ((k : ℕ) (d : X) → k + 1 < length xs → R (get_or xs k d) (get_or xs (k + 1) d)) →
      (n i : ℕ) (d : X) → i + n + 1 < length xs → R (get_or xs i d) (get_or xs (i + n + 1) d)
  far xs near zero i d lt =
      let e : i + 1 ≡ i + 0 + 1 = omega arith in
      subst (λ (m : ℕ). R (get_or xs i d) (get_or xs m d)) e (near i d (omega arith))
  far xs near (suc n) i d lt =
      let e : (i + n + 1) + 1 ≡ i + suc n + 1 = omega arith in
      subst (λ (m : ℕ). R (get_or xs i d) (get_or xs m d)) e
      (on (get_or xs i d) (get_or xs (i + n + 1) d) (get_or xs ((i + n + 1) + 1) d) (far xs near n i d (omega arith)) (near (i + n + 1) d (omega arith)))

  pub all_from_near : (xs : List X) → ((k : ℕ) (d : X) → k + 1 < length xs → R (get_or xs k d) (get_or xs (k + 1) d)) → AllPairs R xs
  all_from_near xs near i j d lt j_in =
      let n : ℕ = j - i - 1 in
      let e : i + n + 1 ≡ j = omega arith in
      subst (λ (m : ℕ). R (get_or xs i d) (get_or xs m d)) e (far xs near n i d (omega arith))

-- where an item of a list in which two are swapped stood before
abbrev IsSwapOf : ℕ → ℕ → ℕ → ℕ → Type 0
IsSwapOf i j k m = ((k ≡ i) × (m ≡ j)) ⊎ (((k ≡ j) × (m ≡ i)) ⊎ ((k ≢ i) × (k ≢ j) × (m ≡ k)))

swaps_apart : (i j k m k' m' : ℕ) → IsSwapOf i j k m → IsSwapOf i j k' m' → k ≢ k' → m ≢ m'
swaps_apart i j k m k' m' (inl h) (inl h') ne = omega arith
swaps_apart i j k m k' m' (inl h) (inr (inl h')) ne = omega arith
swaps_apart i j k m k' m' (inl h) (inr (inr h')) ne = omega arith
swaps_apart i j k m k' m' (inr (inl h)) (inl h') ne = omega arith
swaps_apart i j k m k' m' (inr (inl h)) (inr (inl h')) ne = omega arith
swaps_apart i j k m k' m' (inr (inl h)) (inr (inr h')) ne = omega arith
swaps_apart i j k m k' m' (inr (inr h)) (inl h') ne = omega arith
swaps_apart i j k m k' m' (inr (inr h)) (inr (inl h')) ne = omega arith
swaps_apart i j k m k' m' (inr (inr h)) (inr (inr h')) ne = omega arith

stood : {X : Type 0} (xs : List X) (i j : ℕ) (d : X) → i < length xs → j < length xs → (k : ℕ) → k < length xs →
    (m : ℕ) × (m < length xs) × (get_or (swap xs i j) k d ≡ get_or xs m d) × IsSwapOf i j k m
stood xs i j d i_in j_in k k_in =
    let swapped = swapped_from_swap xs (swap xs i j) i j d i_in j_in refl in
    elim (cases_eq k i) [
      | inl at_i ↦ (j, j_in, ap (λ n. get_or (swap xs i j) n d) at_i ∙ swapped.0, inl (at_i, refl))
      | inr not_i ↦ elim (cases_eq k j) [
        | inl at_j ↦ (i, i_in, ap (λ n. get_or (swap xs i j) n d) at_j ∙ swapped.1, inr (inl (at_j, refl)))
        | inr not_j ↦ (k, k_in, swapped.2 k not_i not_j, inr (inr (not_i, not_j, refl)))
      ]
    ]

-- a relation between any two items, in either order, is kept by a permutation
module _ (X : Type 0) (R : X → X → Type 0) (comm : (x y : X) → R x y → R y x) where
  at_both : (xs : List X) → AllPairs R xs → (m n : ℕ) (d : X) → m < length xs → n < length xs → m ≢ n → R (get_or xs m d) (get_or xs n d)
  at_both xs h m n d m_in n_in ne =
      elim (cases_lt m n) [
        | inl lt ↦ h m n d lt n_in
        | inr le ↦ comm (get_or xs n d) (get_or xs m d) (h n m d (omega arith) m_in)
      ]

  pairs_swap : (xs : List X) (i j : ℕ) → i < length xs → j < length xs → AllPairs R xs → AllPairs R (swap xs i j)
  pairs_swap xs i j i_in j_in h k l d before within =
      let l_in : l < length xs = omega (arith, length-swap xs i j) in
      let k_stood = stood xs i j d i_in j_in k (omega arith) in
      let l_stood = stood xs i j d i_in j_in l l_in in
      let apart = swaps_apart i j k k_stood.0 l l_stood.0 k_stood.3 l_stood.3 (omega arith) in
      subst (λ (x : X). R x (get_or (swap xs i j) l d)) (sym k_stood.2)
      (subst (λ (y : X). R (get_or xs k_stood.0 d) y) (sym l_stood.2) (at_both xs h k_stood.0 l_stood.0 d k_stood.1 l_stood.1 apart))

  pub pairs_permute : (xs ys : List X) → IsPermutation xs ys → AllPairs R xs → AllPairs R ys
  pairs_permute xs ys permutes h =
      IsPermutation-keeps xs (AllPairs R) h (λ l i j i_in j_in before. pairs_swap l i j i_in j_in before) ys permutes

-- what stands where in a list with one more at its head
pub contains_later : {X : Type 0} (y x : X) (xs : List X) → Contains xs x → Contains (y ∷ xs) x
contains_later y x xs c = let within = c.1 in (suc c.0, omega arith, c.2)

pub contains_here : {X : Type 0} (x : X) (xs : List X) → Contains (x ∷ xs) x
contains_here x xs = (zero, omega arith, refl)

pub contains_cases : {X : Type 0} (y x : X) (xs : List X) → Contains (y ∷ xs) x → (y ≡ x) ⊎ Contains xs x
contains_cases y x xs (zero, within, is) = inl is
contains_cases y x xs (suc k, within, is) = inr (k, omega arith, is)

pub contained_in_none : {X : Type 0} (x : X) → ¬ Contains [] x
contained_in_none x c = let within = c.1 in omega arith

-- of a list with a relation between each item and the later ones
pub pairs_head : {X : Type 0} (R : X → X → Type 0) (x : X) (xs : List X) → AllPairs R (x ∷ xs) → (y : X) → Contains xs y → R x y
pairs_head R x xs h y c = let within = c.1 in subst (λ z. R x z) c.2 (h zero (suc c.0) y (omega arith) (omega arith))

pub pairs_tail : {X : Type 0} (R : X → X → Type 0) (x : X) (xs : List X) → AllPairs R (x ∷ xs) → AllPairs R xs
pairs_tail R x xs h i j d lt j_in = h (suc i) (suc j) d (omega arith) (omega arith)

pub pairs_cons : {X : Type 0} (R : X → X → Type 0) (x : X) (xs : List X) → ((k : ℕ) (d : X) → k < length xs → R x (get_or xs k d)) → AllPairs R xs → AllPairs R (x ∷ xs)
pairs_cons R x xs head tail zero zero d lt j_in = absurd (omega arith)
pairs_cons R x xs head tail zero (suc j) d lt j_in = head j d (omega arith)
pairs_cons R x xs head tail (suc i) zero d lt j_in = absurd (omega arith)
pairs_cons R x xs head tail (suc i) (suc j) d lt j_in = tail i j d (omega arith) (omega arith)

-- two lists in one order that have the same items are one list
module _ (X : Type 0) (R : X → X → Type 0) (one_way : (x y : X) → R x y → ¬ R y x) where
  pub ordered_same : (xs ys : List X) → AllPairs R xs → AllPairs R ys → ((x : X) → Contains xs x → Contains ys x) → ((x : X) → Contains ys x → Contains xs x) → xs ≡ ys
  ordered_same [] [] x_rises y_rises there back = refl
  ordered_same [] (y ∷ ys) x_rises y_rises there back = absurd (contained_in_none y (back y (contains_here y ys)))
  ordered_same (x ∷ xs) [] x_rises y_rises there back = absurd (contained_in_none x (there x (contains_here x xs)))
  ordered_same (x ∷ xs) (y ∷ ys) x_rises y_rises there back =
      let x_least = pairs_head R x xs x_rises in
      let y_least = pairs_head R y ys y_rises in
      let first : x ≡ y =
      elim (contains_cases y x ys (there x (contains_here x xs))) [
        | inl e ↦ sym e
        | inr x_later ↦ elim (contains_cases x y xs (back y (contains_here y ys))) [
          | inl e ↦ e
          | inr y_later ↦ absurd (one_way x y (x_least y y_later) (y_least x x_later))
        ]
      ] in
      ap (λ (s : X). s ∷ xs) first
      ∙ ap (λ (l : List X). y ∷ l)
      (ordered_same xs ys (pairs_tail R x xs x_rises) (pairs_tail R y ys y_rises)
      (λ s later. elim (contains_cases y s ys (there s (contains_later x s xs later))) [
        | inl e ↦
            let above : R x x = subst (λ (z : X). R x z) (sym (first ∙ e)) (x_least s later) in
            absurd (one_way x x above above)
        | inr in_ys ↦ in_ys
      ])
      (λ s later. elim (contains_cases x s xs (back s (contains_later y s ys later))) [
        | inl e ↦
            let above : R y y = subst (λ (z : X). R y z) (sym (sym first ∙ e)) (y_least s later) in
            absurd (one_way y y above above)
        | inr in_xs ↦ in_xs
      ]))
