-- The two traps of a site, and the site of an entangling trap.
use Rattle.std.proofs.Common.{◌≡◌, ◌≢◌, ℕ, ◌+◌, ◌-◌, ◌*◌, ◌/◌, ◌<◌, ◌≤◌, ◌⊎◌, inl, inr, eqb, sym, ap, ◌∙◌, arith}
use Rattle.std.proofs.lemmas.Bool.{cases_eq, cond-false, cond-true, eq-eqb, ne_eqb}
use Rattle.zac_arch.specs.Architecture.{Architecture, IsTrapOf, left_trap, right_trap, site_count, storage_count, trap_count}
use Rattle.zac_arch.specs.Rules.{KeepsRules}
use Rattle.zac_arch.specs.declared.place.TrapId.{TrapId}
use Rattle.zac_arch.proofs.Geometry.{trap_count_is}
use Rattle.zac_plan.specs.Plan.{left, other_trap, right, site_at}
use Rattle.zac_plan.proofs.Resting.{same_trap}

half_even : (s k : ℕ) → (s + 2 * k - s) / 2 ≡ k
half_even s k = omega arith

half_odd : (s k : ℕ) → (s + 2 * k + 1 - s) / 2 ≡ k
half_odd s k = omega arith

halves : (s t : ℕ) → s ≤ t → (t ≡ s + 2 * ((t - s) / 2)) ⊎ (t ≡ s + 2 * ((t - s) / 2) + 1)
halves s t within = elim (cases_eq t (s + 2 * ((t - s) / 2))) [
  | inl e ↦ inl e
  | inr differ ↦ inr (omega arith)
]

-- the site of a site's trap
pub site_of_trap : (a : Architecture) (site : ℕ) (t : TrapId) → IsTrapOf a site t.0 → site_at a t ≡ site
site_of_trap a site t (inl e) = ap (λ n. (n - storage_count a) / 2) e ∙ half_even (storage_count a) site
site_of_trap a site t (inr e) = ap (λ n. (n - storage_count a) / 2) e ∙ half_odd (storage_count a) site

-- each entangling trap is one of its site
pub trap_of_site : (a : Architecture) (t : TrapId) → storage_count a ≤ t.0 → IsTrapOf a (site_at a t) t.0
trap_of_site a t within = halves (storage_count a) t.0 within

pub site_in : (a : Architecture) → KeepsRules a → (t : TrapId) → storage_count a ≤ t.0 → t.0 < trap_count a → site_at a t < site_count a
site_in a rules t within below = omega (arith, trap_count_is a rules)

-- the traps of a site are entangling traps
pub trap_above : (a : Architecture) (site t : ℕ) → IsTrapOf a site t → storage_count a ≤ t
trap_above a site t (inl e) = omega arith
trap_above a site t (inr e) = omega arith

pub trap_in_card : (a : Architecture) → KeepsRules a → (site t : ℕ) → site < site_count a → IsTrapOf a site t → t < trap_count a
trap_in_card a rules site t within (inl e) = omega (arith, trap_count_is a rules)
trap_in_card a rules site t within (inr e) = omega (arith, trap_count_is a rules)

-- the other trap of a site
pub other_of_left : (a : Architecture) (site : ℕ) → other_trap a (left a site) ≡ right a site
other_of_left a site =
    let here : site_at a (left a site) ≡ site = half_even (storage_count a) site in
    cond-true (eqb (left_trap a site) (left_trap a (site_at a (left a site)))) (right a (site_at a (left a site))) (left a (site_at a (left a site)))
    (eq-eqb (left_trap a site) (left_trap a (site_at a (left a site))) (ap (left_trap a) (sym here)))
    ∙ ap (right a) here

pub other_of_right : (a : Architecture) (site : ℕ) → other_trap a (right a site) ≡ left a site
other_of_right a site =
    let here : site_at a (right a site) ≡ site = half_odd (storage_count a) site in
    cond-false (eqb (right_trap a site) (left_trap a (site_at a (right a site)))) (right a (site_at a (right a site))) (left a (site_at a (right a site)))
    (ne_eqb (right_trap a site) (left_trap a (site_at a (right a site))) (λ h. omega arith))
    ∙ ap (left a) here

-- a trap and the other one are the left and the right one of their site, in one order or the other
pub sides_of : (a : Architecture) (site : ℕ) (t : TrapId) → IsTrapOf a site t.0 →
    ((t ≡ left a site) × (other_trap a t ≡ right a site)) ⊎ ((t ≡ right a site) × (other_trap a t ≡ left a site))
sides_of a site t (inl e) = let same = same_trap t (left a site) e in inl (same, ap (other_trap a) same ∙ other_of_left a site)
sides_of a site t (inr e) = let same = same_trap t (right a site) e in inr (same, ap (other_trap a) same ∙ other_of_right a site)

-- the other trap is one of the same site, and another one
pub other_at : (a : Architecture) (site : ℕ) (t : TrapId) → IsTrapOf a site t.0 → IsTrapOf a site (other_trap a t).0
other_at a site t at = elim (sides_of a site t at) [
  | inl e ↦ inr (ap (λ (x : TrapId). x.0) e.1)
  | inr e ↦ inl (ap (λ (x : TrapId). x.0) e.1)
]

pub other_differs : (a : Architecture) (site : ℕ) (t : TrapId) → IsTrapOf a site t.0 → (other_trap a t).0 ≢ t.0
other_differs a site t at same = elim (sides_of a site t at) as (λ _. ⊥) [
  | inl e ↦
      let is : right_trap a site ≡ left_trap a site = ap (λ (x : TrapId). x.0) (sym e.1) ∙ same ∙ ap (λ (x : TrapId). x.0) e.0 in
      absurd (omega arith)
  | inr e ↦
      let is : left_trap a site ≡ right_trap a site = ap (λ (x : TrapId). x.0) (sym e.1) ∙ same ∙ ap (λ (x : TrapId). x.0) e.0 in
      absurd (omega arith)
]
