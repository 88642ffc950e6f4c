-- Tests of items, one by one.
use Rattle.std.proofs.Common.{◌≡◌, ℕ, ◌+◌, ◌<◌, ◌≤◌, ◌⊎◌, ◌↔◌, inl, inr, List, length, get_or, Some, Bool, true, false, not, IsTrue, refl, sym, ◌∙◌, ap, subst, arith}
use Rattle.std.specs.Prelude.{slice_get}
use Rattle.std.specs.List.{Any}
use Rattle.std.proofs.lemmas.Bool.{false≢true}
use Rattle.std.proofs.lemmas.Option.{slice_get_read, same_Some}

pub not_tested : {P : Type 0} {b : Bool} → (IsTrue b ↔ P) → (IsTrue (not b) ↔ ¬ P)
not_tested {b = true} h = (λ e. absurd (false≢true e), λ n. absurd (n (h.0 refl)))
not_tested {b = false} h = (λ _ p. false≢true (h.1 p), λ _. refl)

pub below_or_here : (j i : ℕ) → j < i + 1 → (j < i) ⊎ (j ≡ i)
below_or_here j i l = grind arith

-- none of the first items is so
abbrev pub NoneBelow : {X : Type 0} → (X → Type 0) → List X → ℕ → Type 0
NoneBelow {X} P xs i = (j : ℕ) (x : X) → j < i → slice_get xs j ≡ Some x → ¬ P x

module _ {X : Type 0} (P : X → Type 0) (xs : List X) where
  pub none_first : NoneBelow P xs 0
  none_first j x l is h = absurd (omega arith)

  pub none_more : (i : ℕ) (x : X) {b : Bool} → i < length xs → x ≡ get_or xs i x → NoneBelow P xs i → (IsTrue b ↔ P x) → b ≡ false → NoneBelow P xs (i + 1)
  none_more i x l at none test off j y k is p = elim (below_or_here j i k) [
    | inl below ↦ none j y below is p
    | inr e ↦
        let same : y ≡ x = same_Some _ _ (sym is ∙ ap (slice_get xs) e ∙ slice_get_read xs (length xs) i x refl l at) in
        false≢true (sym off ∙ test.1 (subst P same p))
  ]

  pub any_here : (i : ℕ) (x : X) {b : Bool} → i < length xs → x ≡ get_or xs i x → (IsTrue b ↔ P x) → b ≡ true → Any P xs
  any_here i x l at test on = (i, x, l, sym at, test.0 on)

  pub none_all : (i : ℕ) → length xs ≤ i → NoneBelow P xs i → ¬ Any P xs
  none_all i l none w = none w.0 w.1 (let k : w.0 < length xs = w.2 in omega arith) (slice_get_read xs (length xs) w.0 w.1 refl w.2 (sym w.3)) w.4
