-- Numbers that are noted at places of a list.
use Rattle.std.proofs.Common.{◌≡◌, ℕ, ◌<◌, ◌⊎◌, inl, inr, List, [], ◌∷◌, length, get_or, set, fold, refl, sym, ◌∙◌, subst, arith}
use Rattle.std.specs.List.{Any}
use Rattle.std.proofs.Math.ListN.{length-set}
use Rattle.std.proofs.lemmas.Bool.{cases_eq}
use Rattle.std.proofs.lemmas.List.{get_or-set_same, get_or-set_other}
use Rattle.zac_sched.proofs.Latest.{any_none, any_here, any_later, any_cases}

-- the place is one of those, and has the new number; or it is not, and has the old one
abbrev pub Noted : Type 0 → ℕ → List ℕ → List ℕ → ℕ → Type 0
Noted One end old new q = (One × (get_or new q 0 ≡ end)) ⊎ ((¬ One) × (get_or new q 0 ≡ get_or old q 0))

pub noted_one : (end : ℕ) (old : List ℕ) (p q : ℕ) → q < length old → Noted (p ≡ q) end old (set old p end) q
noted_one end old p q within = elim (cases_eq p q) [
  | inl e ↦ inl (e, subst (λ (n : ℕ). get_or (set old n end) q 0 ≡ end) (sym e) (get_or-set_same old q end 0 within))
  | inr ne ↦ inr (ne, get_or-set_other old p q end 0 (λ e. ne (sym e)))
]

pub noted_two : (end : ℕ) (old : List ℕ) (p r q : ℕ) → q < length old → Noted ((p ≡ q) ⊎ (r ≡ q)) end old (set (set old p end) r end) q
noted_two end old p r q within =
    let inside : q < length (set old p end) = omega (arith, length-set old p end) in
    elim (noted_one end (set old p end) r q inside) [
      | inl second ↦ inl (inr second.0, second.1)
      | inr not_second ↦ elim (noted_one end old p q within) [
        | inl first ↦ inl (inl first.0, not_second.1 ∙ first.1)
        | inr not_first ↦ inr (λ h. elim h [ inl e ↦ not_first.0 e | inr e ↦ not_second.0 e ], not_second.1 ∙ not_first.1)
      ]
    ]

pub length_noted : {X : Type 0} (note : List ℕ → X → List ℕ) → ((ns : List ℕ) (x : X) → length (note ns x) ≡ length ns) → (xs : List X) (old : List ℕ) → length (fold note old xs) ≡ length old
length_noted note same [] old = refl
length_noted note same (x ∷ xs) old = length_noted note same xs (note old x) ∙ same old x

pub noted_all : {X : Type 0} (note : List ℕ → X → List ℕ) (At : X → ℕ → Type 0) (end : ℕ) → ((ns : List ℕ) (x : X) → length (note ns x) ≡ length ns)
    → ((ns : List ℕ) (x : X) (q : ℕ) → q < length ns → Noted (At x q) end ns (note ns x) q)
    → (xs : List X) (old : List ℕ) (q : ℕ) → q < length old → Noted (Any (λ x. At x q) xs) end old (fold note old xs) q
noted_all note At end same one [] old q within = inr (any_none (λ x. At x q), refl)
noted_all note At end same one (x ∷ xs) old q within =
    let inside : q < length (note old x) = omega (arith, same old x) in
    elim (noted_all note At end same one xs (note old x) q inside) [
      | inl later ↦ inl (any_later (λ y. At y q) x xs later.0, later.1)
      | inr not_later ↦ elim (one old x q within) [
        | inl here ↦ inl (any_here (λ y. At y q) x xs here.0, not_later.1 ∙ here.1)
        | inr not_here ↦ inr (λ h. elim (any_cases (λ y. At y q) x xs h) [ inl e ↦ not_here.0 e | inr e ↦ not_later.0 e ], not_later.1 ∙ not_here.1)
      ]
    ]
