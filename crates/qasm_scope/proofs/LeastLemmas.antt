-- The least offset of a refusal, from the least offsets of its parts.
use Rattle.std.proofs.Common.{◌≡◌, ℕ, ◌+◌, ◌<◌, ◌≤◌, ◌⊎◌, ◌↔◌, min, inl, inr, List, length, get_or, Option, Some, None, Bool, true, false, IsTrue, refl, sym, ◌∙◌, ap, subst, arith}
use Rattle.std.specs.Prelude.{slice_get}
use Rattle.std.specs.Bool.{then_some}
use Rattle.std.specs.List.{Any}
use Rattle.std.proofs.lemmas.Bool.{false≢true}
use Rattle.std.proofs.lemmas.Option.{slice_get_within, slice_get_read, get_or_from_slice_get, same_Some}
use Rattle.qasm_scope.specs.Least.{IsLeastOffset, earlier}
use Rattle.qasm_scope.proofs.TestLemmas.{below_or_here}

pub none_least : (P : ℕ → Type 0) → ((at : ℕ) → ¬ P at) → IsLeastOffset P None
none_least P h = record { is = h }

pub alike : {P Q : ℕ → Type 0} {o : Option ℕ} → ((at : ℕ) → P at → Q at) → ((at : ℕ) → Q at → P at) → IsLeastOffset P o → IsLeastOffset Q o
alike {o = None} to from h = record { is = λ at q. h.is at (from at q) }
alike {o = Some a} to from h = record { is = (to a h.is.0, λ b q. h.is.1 b (from b q)) }

lesser : (a b : ℕ) → (min a b ≡ a) ⊎ (min a b ≡ b)
lesser a b = grind arith

pub earlier_least : {P Q : ℕ → Type 0} {a b : Option ℕ} → IsLeastOffset P a → IsLeastOffset Q b → IsLeastOffset (λ at. P at ⊎ Q at) (earlier a b)
earlier_least {P} {Q} {a = None} {b = None} h g =
    record { is = λ at w. elim w [ inl p ↦ h.is at p | inr q ↦ g.is at q ] }
earlier_least {P} {Q} {a = None} {b = Some b} h g =
    record { is = (inr g.is.0, λ n w. elim w [ inl p ↦ absurd (h.is n p) | inr q ↦ g.is.1 n q ]) }
earlier_least {P} {Q} {a = Some a} {b = None} h g =
    record { is = (inl h.is.0, λ n w. elim w [ inl p ↦ h.is.1 n p | inr q ↦ absurd (g.is n q) ]) }
earlier_least {P} {Q} {a = Some a} {b = Some b} h g = record { is = (which, least) } where
  which : P (min a b) ⊎ Q (min a b)
  which = elim (lesser a b) [ inl e ↦ inl (subst P (sym e) h.is.0) | inr e ↦ inr (subst Q (sym e) g.is.0) ]

  least : (n : ℕ) → P n ⊎ Q n → min a b ≤ n
  least n (inl p) = let l : a ≤ n = h.is.1 n p in omega arith
  least n (inr q) = let l : b ≤ n = g.is.1 n q in omega arith

pub either_least : {P Q : ℕ → Type 0} {a b next : Option ℕ} → IsLeastOffset P a → IsLeastOffset Q b → next ≡ earlier a b → IsLeastOffset (λ at. P at ⊎ Q at) next
either_least {P} {Q} h g e = subst (IsLeastOffset (λ at. P at ⊎ Q at)) (sym e) (earlier_least h g)

-- a refusal at one offset, where a test says whether it is there
pub one_least : (Q : Type 0) (from : ℕ) (b : Bool) → (IsTrue b ↔ Q) → IsLeastOffset (λ at. Q × (at ≡ from)) (then_some b from)
one_least Q from true h =
    record { is = ((h.0 refl, refl), λ n w. let e : n ≡ from = w.1 in omega arith) }
one_least Q from false h = record { is = λ n w. false≢true (h.1 w.0) }

-- a refusal of one of the first items
abbrev pub OfFirst : {X : Type 0} → (X → ℕ → Type 0) → List X → ℕ → ℕ → Type 0
OfFirst {X} R xs i at = (j : ℕ) × (x : X) × (j < i) × (slice_get xs j ≡ Some x) × R x at

module _ {X : Type 0} (R : X → ℕ → Type 0) (xs : List X) where
  pub first_none : IsLeastOffset (OfFirst R xs 0) None
  first_none = record { is = λ at w. let l : w.0 < 0 = w.2 in omega arith }

  pub first_more : (i : ℕ) (x : X) {o found : Option ℕ} → slice_get xs i ≡ Some x → IsLeastOffset (OfFirst R xs i) o → IsLeastOffset (R x) found → IsLeastOffset (OfFirst R xs (i + 1)) (earlier o found)
  first_more i x is h g = alike to from (earlier_least h g) where
    to : (at : ℕ) → OfFirst R xs i at ⊎ R x at → OfFirst R xs (i + 1) at
    to at (inl w) = (w.0, w.1, (let l : w.0 < i = w.2 in omega arith), w.3, w.4)
    to at (inr r) = (i, x, omega arith, is, r)

    from : (at : ℕ) → OfFirst R xs (i + 1) at → OfFirst R xs i at ⊎ R x at
    from at w = elim (below_or_here w.0 i w.2) [
      | inl l ↦ inl (w.0, w.1, l, w.3, w.4)
      | inr e ↦ inr (subst (λ (y : X). R y at) (same_Some _ _ (sym w.3 ∙ ap (slice_get xs) e ∙ is)) w.4)
    ]

  pub first_all : (i : ℕ) {o : Option ℕ} → length xs ≤ i → IsLeastOffset (OfFirst R xs i) o → IsLeastOffset (λ at. Any (λ x. R x at) xs) o
  first_all i l h = alike to from h where
    to : (at : ℕ) → OfFirst R xs i at → Any (λ x. R x at) xs
    to at w = (w.0, w.1, slice_get_within xs w.0 w.1 w.3, get_or_from_slice_get xs w.0 w.1 w.1 w.3, w.4)

    from : (at : ℕ) → Any (λ x. R x at) xs → OfFirst R xs i at
    from at w = (w.0, w.1, (let k : w.0 < length xs = w.2 in omega arith), slice_get_read xs (length xs) w.0 w.1 refl w.2 (sym w.3), w.4)

  -- one item more, with its own least offset
  pub found_more : (i : ℕ) (x : X) {o found next : Option ℕ} → i < length xs → x ≡ get_or xs i x → IsLeastOffset (OfFirst R xs i) o → IsLeastOffset (R x) found → next ≡ earlier o found → IsLeastOffset (OfFirst R xs (i + 1)) next
  found_more i x l is h g e =
      subst (IsLeastOffset (OfFirst R xs (i + 1))) (sym e) (first_more i x (slice_get_read xs (length xs) i x refl l is) h g)

-- one item more, which is tested
pub tested_more : {X : Type 0} (F : X → Type 0) (offset : X → ℕ) (xs : List X) (i : ℕ) (x : X) {b : Bool} {o found next : Option ℕ} → i < length xs → x ≡ get_or xs i x → IsLeastOffset (OfFirst (λ y at. F y × (at ≡ offset y)) xs i) o → (IsTrue b ↔ F x) → found ≡ then_some b (offset x) → next ≡ earlier o found → IsLeastOffset (OfFirst (λ y at. F y × (at ≡ offset y)) xs (i + 1)) next
tested_more F offset xs i x {b} l is h t e n =
    found_more (λ y at. F y × (at ≡ offset y)) xs i x l is h (subst (IsLeastOffset (λ at. F x × (at ≡ offset x))) (sym e) (one_least (F x) (offset x) b t)) n
