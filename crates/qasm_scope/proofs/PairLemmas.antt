-- Two items of a list, one behind the other.
use Rattle.std.proofs.Common.{◌≡◌, ℕ, ◌+◌, ◌-◌, ◌<◌, ◌≤◌, inl, inr, List, length, get_or, drop, Some, refl, sym, ◌∙◌, ap, subst, arith}
use Rattle.std.specs.Prelude.{slice_get}
use Rattle.std.specs.List.{Any}
use Rattle.std.proofs.lemmas.List.{get_or-drop, length-drop}
use Rattle.std.proofs.lemmas.Option.{slice_get_within, slice_get_read, get_or_from_slice_get, same_Some}
use Rattle.qasm_names.specs.Refusals.{SomeTwo}
use Rattle.qasm_scope.proofs.TestLemmas.{below_or_here}

-- none of the first items is so with a later one
abbrev pub NoPairBelow : {X : Type 0} → (X → X → Type 0) → List X → ℕ → Type 0
NoPairBelow {X} R xs i = (j : ℕ) (x : X) → j < i → slice_get xs j ≡ Some x → ¬ Any (R x) (drop (j + 1) xs)

module _ {X : Type 0} (R : X → X → Type 0) (xs : List X) where
  pub no_pair_first : NoPairBelow R xs 0
  no_pair_first j x l is h = absurd (omega arith)

  pub no_pair_more : (i : ℕ) (x : X) → slice_get xs i ≡ Some x → NoPairBelow R xs i → ¬ Any (R x) (drop (i + 1) xs) → NoPairBelow R xs (i + 1)
  no_pair_more i x at none here j y l is = elim (below_or_here j i l) [
    | inl k ↦ none j y k is
    | inr e ↦
        let same : x ≡ y = same_Some _ _ (sym at ∙ ap (slice_get xs) (sym e) ∙ is) in
        subst (λ n. ¬ Any (R y) (drop (n + 1) xs)) (sym e) (subst (λ (z : X). ¬ Any (R z) (drop (i + 1) xs)) same here)
  ]

  pub pair_found : (i : ℕ) (x : X) → slice_get xs i ≡ Some x → Any (R x) (drop (i + 1) xs) → SomeTwo R xs
  pair_found i x at w =
      let k : ℕ = w.0 in
      let inside : k < length xs - (i + 1) = subst (λ n. k < n) (length-drop (i + 1) xs) w.2 in
      let reads : get_or xs (i + 1 + k) w.1 ≡ w.1 = sym (get_or-drop (i + 1) xs k w.1) ∙ w.3 in
      (i, i + 1 + k, x, w.1, omega arith, at, slice_get_read xs (length xs) (i + 1 + k) w.1 refl (omega arith) (sym reads), w.4)

  pub no_pair_all : (i : ℕ) → length xs ≤ i → NoPairBelow R xs i → ¬ SomeTwo R xs
  no_pair_all i l none w =
      let first : w.0 < length xs = slice_get_within xs w.0 w.2 w.5 in
      let second : w.1 < length xs = slice_get_within xs w.1 w.3 w.6 in
      let k : ℕ = w.1 - (w.0 + 1) in
      let order : w.0 < w.1 = w.4 in
      let at : w.0 + 1 + k ≡ w.1 = omega arith in
      let reads : get_or (drop (w.0 + 1) xs) k w.3 ≡ w.3 =
      get_or-drop (w.0 + 1) xs k w.3 ∙ ap (λ n. get_or xs n w.3) at ∙ get_or_from_slice_get xs w.1 w.3 w.3 w.6 in
      none w.0 w.2 (omega arith) w.5 (k, w.3, subst (λ n. k < n) (sym (length-drop (w.0 + 1) xs)) (omega arith), reads, w.7)
