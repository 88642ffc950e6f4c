-- The least number that an item of a list has, found item by item.
use Rattle.std.proofs.Common.{◌≡◌, ℕ, zero, suc, ◌+◌, ◌<◌, ◌≤◌, inl, inr, Option, Some, None, List, [], ◌∷◌, length, map, get_or, refl, sym, ap, ◌∙◌, subst, arith, slice_get}
use Rattle.std.specs.List.{Contains}
use Rattle.std.proofs.lemmas.Bool.{cases_lt}
use Rattle.std.proofs.lemmas.Option.{slice_get_within, slice_get-get_or}
use Rattle.zair_state.specs.Least.{IsLeastOf, lesser_of}
use Rattle.zair_state.proofs.Minima.{least_of_either, least_same}

module _ {X : Type 0} (Q : ℕ → X → ℕ → Type 0) (xs : List X) where
  -- one of the first items has the number
  abbrev pub HasBefore : ℕ → ℕ → Type 0
  HasBefore k n = (j : ℕ) × (x : X) × (j < k) × (slice_get xs j ≡ Some x) × Q j x n

  pub has_start : IsLeastOf (HasBefore 0) None
  has_start n h = let lt = h.2 in absurd (omega arith)

  pub has_more : (k : ℕ) (d : X) (o p : Option ℕ) → k < length xs → IsLeastOf (Q k (get_or xs k d)) p → IsLeastOf (HasBefore k) o → IsLeastOf (HasBefore (k + 1)) (lesser_of o p)
  has_more k d o p lt here before =
      least_of_either (HasBefore k) (Q k (get_or xs k d)) (HasBefore (k + 1)) o p
      (λ n h. elim (cases_lt h.0 k) [
        | inl less ↦ inl (h.0, h.1, less, h.3, h.4)
        | inr ge ↦
            let last : h.0 ≡ k = let le = h.2 in omega arith in
            let both : Some h.1 ≡ Some (get_or xs k d) = sym h.3 ∙ ap (slice_get xs) last ∙ slice_get-get_or xs k d lt in
            let same : h.1 ≡ get_or xs k d = cc in
            inr (subst (λ (j : ℕ). Q j (get_or xs k d) n) last (subst (λ x. Q h.0 x n) same h.4))
      ])
      (λ n h. (h.0, h.1, (let lt = h.2 in omega arith), h.3, h.4))
      (λ n h. (k, get_or xs k d, omega arith, slice_get-get_or xs k d lt, h))
      before here

  pub has_whole : (k : ℕ) (S : ℕ → Type 0) (o : Option ℕ) → length xs ≤ k → ((n : ℕ) (j : ℕ) (x : X) → slice_get xs j ≡ Some x → Q j x n → S n) → ((n : ℕ) → S n → (j : ℕ) × (x : X) × (slice_get xs j ≡ Some x) × Q j x n) → IsLeastOf (HasBefore k) o → IsLeastOf S o
  has_whole k S o le there back h =
      least_same (HasBefore k) S o
      (λ n. (λ y. there n y.0 y.1 y.3 y.4, λ y. let r = back n y in (r.0, r.1, (let lt = slice_get_within xs r.0 r.1 r.2 in omega arith), r.2, r.3))) h

-- what is as good for the least number as another property
pub least_as : (P S : ℕ → Type 0) (o : Option ℕ) → ((n : ℕ) → P n → S n) → ((n : ℕ) → S n → ¬ ¬ P n) → IsLeastOf P o → IsLeastOf S o
least_as P S None there back h = λ n s. back n s (h n)
least_as P S (Some m) there back h = (
  there m h.0,
  λ n s. elim (cases_lt n m) [
    | inl less ↦ absurd (back n s (λ p. let le = h.1 n p in absurd (omega arith)))
    | inr ge ↦ ge
  ],
)

pub at_contained : {X : Type 0} (xs : List X) (x : X) → Contains xs x → (k : ℕ) × (slice_get xs k ≡ Some x)
at_contained xs x h = (h.0, slice_get-get_or xs h.0 x h.1 ∙ ap (λ y. Some y) h.2)

pub map_at : {X : Type 0} (key : X → ℕ) (xs : List X) (k : ℕ) (x : X) → slice_get xs k ≡ Some x → slice_get (map key xs) k ≡ Some (key x)
map_at key [] k x h = absurd (cc)
map_at key (y ∷ ys) zero x h = let e : y ≡ x = cc in ap (λ z. Some (key z)) e
map_at key (y ∷ ys) (suc k) x h = map_at key ys k x h

pub mapped_at : {X : Type 0} (key : X → ℕ) (xs : List X) (k n : ℕ) → slice_get (map key xs) k ≡ Some n → (x : X) × (slice_get xs k ≡ Some x) × (key x ≡ n)
mapped_at key [] k n h = absurd (cc)
mapped_at key (y ∷ ys) zero n h = (y, refl, cc)
mapped_at key (y ∷ ys) (suc k) n h = mapped_at key ys k n h
