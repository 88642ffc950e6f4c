-- Items of a list that differ in pairs, and how many numbers that differ there can be.
use Rattle.std.proofs.Common.{◌≡◌, ◌≢◌, ℕ, ◌<◌, ◌⊎◌, inl, inr, List, [], ◌∷◌, sym, ◌∙◌, subst}
use Rattle.std.specs.List.{AllPairs, Contains}
use Rattle.zair_form.specs.declared.step.PairOf.{PairOf}
use Rattle.zac_arch.specs.Architecture.{Architecture}
use Rattle.zac_plan.specs.Plan.{qubits_of}
use Rattle.zac_plan.specs.Seats.{AreApart, IsInPair, IsPulse}
use Rattle.zac_plan.proofs.Lists.{contained_in_none, contains_cases, contains_here, contains_later, pairs_cons, pairs_head, pairs_none, pairs_tail}

-- two items are one, or they are related in one of the two orders
pub related : {X : Type 0} (R : X → X → Type 0) (xs : List X) → AllPairs R xs → (x y : X) → Contains xs x → Contains xs y → (x ≡ y) ⊎ (R x y ⊎ R y x)
related R [] all x y at_x at_y = absurd (contained_in_none x at_x)
related R (z ∷ zs) all x y at_x at_y = elim (contains_cases z x zs at_x) [
  | inl first ↦ elim (contains_cases z y zs at_y) [
    | inl second ↦ inl (sym first ∙ second)
    | inr later ↦ inr (inl (subst (λ u. R u y) first (pairs_head R z zs all y later)))
  ]
  | inr later ↦ elim (contains_cases z y zs at_y) [
    | inl second ↦ inr (inr (subst (λ u. R u x) second (pairs_head R z zs all x later)))
    | inr other ↦ related R zs (pairs_tail R z zs all) x y later other
  ]
]

-- items with different keys are one where their keys are
pub one_by_key : {X Y : Type 0} (key : X → Y) (xs : List X) → AllPairs (λ x y. key x ≢ key y) xs → (x y : X) → Contains xs x → Contains xs y → key x ≡ key y → x ≡ y
one_by_key key xs all x y at_x at_y same = elim (related (λ u v. key u ≢ key v) xs all x y at_x at_y) [
  | inl e ↦ e
  | inr differ ↦ elim differ [
    | inl before ↦ absurd (before same)
    | inr after ↦ absurd (after (sym same))
  ]
]

-- the qubits of a pair are among those of all
pub first_qubit : (pairs : List PairOf) (p : PairOf) → Contains pairs p → Contains (qubits_of pairs) p.a
first_qubit [] p listed = absurd (contained_in_none p listed)
first_qubit (r ∷ rs) p listed = elim (contains_cases r p rs listed) [
  | inl same ↦ subst (λ (x : PairOf). Contains (qubits_of (r ∷ rs)) x.a) same (contains_here r.a (r.b ∷ qubits_of rs))
  | inr later ↦ contains_later r.a p.a (r.b ∷ qubits_of rs) (contains_later r.b p.a (qubits_of rs) (first_qubit rs p later))
]

pub second_qubit : (pairs : List PairOf) (p : PairOf) → Contains pairs p → Contains (qubits_of pairs) p.b
second_qubit [] p listed = absurd (contained_in_none p listed)
second_qubit (r ∷ rs) p listed = elim (contains_cases r p rs listed) [
  | inl same ↦ subst (λ (x : PairOf). Contains (qubits_of (r ∷ rs)) x.b) same (contains_later r.a r.b (r.b ∷ qubits_of rs) (contains_here r.b (qubits_of rs)))
  | inr later ↦ contains_later r.a p.b (r.b ∷ qubits_of rs) (contains_later r.b p.b (qubits_of rs) (second_qubit rs p later))
]

pub qubit_listed : (pairs : List PairOf) (q : ℕ) → IsInPair pairs q → Contains (qubits_of pairs) q
qubit_listed pairs q h = elim (h.2) [
  | inl e ↦ subst (Contains (qubits_of pairs)) e (first_qubit pairs h.0 h.1)
  | inr e ↦ subst (Contains (qubits_of pairs)) e (second_qubit pairs h.0 h.1)
]

-- each of those is one of some pair
pub qubit_of_pair : (pairs : List PairOf) (q : ℕ) → Contains (qubits_of pairs) q → IsInPair pairs q
qubit_of_pair [] q listed = absurd (contained_in_none q listed)
qubit_of_pair (r ∷ rs) q listed = elim (contains_cases r.a q (r.b ∷ qubits_of rs) listed) [
  | inl first ↦ (r, contains_here r rs, inl first)
  | inr more ↦ elim (contains_cases r.b q (qubits_of rs) more) [
    | inl second ↦ (r, contains_here r rs, inr second)
    | inr rest ↦ let found = qubit_of_pair rs q rest in (found.0, contains_later r found.0 rs found.1, found.2)
  ]
]

-- a qubit of a pair that shares none with another is none of the other
pub apart_at : (p r : PairOf) (q : ℕ) → AreApart p r → (p.a ≡ q) ⊎ (p.b ≡ q) → (r.a ≡ q) ⊎ (r.b ≡ q) → ⊥
apart_at p r q apart (inl e) (inl f) = apart.aa (e ∙ sym f)
apart_at p r q apart (inl e) (inr f) = apart.ab (e ∙ sym f)
apart_at p r q apart (inr e) (inl f) = apart.ba (e ∙ sym f)
apart_at p r q apart (inr e) (inr f) = apart.bb (e ∙ sym f)

-- the pairs of a pulse that are on one qubit are one
pub one_pair : (a : Architecture) (n : ℕ) (pairs : List PairOf) → IsPulse a n pairs → (p r : PairOf) (q : ℕ) → Contains pairs p → Contains pairs r →
    (p.a ≡ q) ⊎ (p.b ≡ q) → (r.a ≡ q) ⊎ (r.b ≡ q) → p ≡ r
one_pair a n pairs pulse p r q at_p at_r on_p on_r = elim (related AreApart pairs pulse.apart p r at_p at_r) [
  | inl e ↦ e
  | inr apart ↦ elim apart [
    | inl before ↦ absurd (apart_at p r q before on_p on_r)
    | inr after ↦ absurd (apart_at r p q after on_r on_p)
  ]
]

none_twice : (pairs : List PairOf) → ((p : PairOf) → Contains pairs p → p.a ≢ p.b) → AllPairs AreApart pairs → AllPairs (λ q r. q ≢ r) (qubits_of pairs)
none_twice [] each apart = pairs_none (λ (q r : ℕ). q ≢ r)
none_twice (p ∷ ps) each apart =
    let elsewhere : (q : ℕ) → (p.a ≡ q) ⊎ (p.b ≡ q) → Contains (qubits_of ps) q → ⊥ =
    λ q on listed.
    let found = qubit_of_pair ps q listed in
    apart_at p found.0 q (pairs_head AreApart p ps apart found.0 found.1) on found.2 in
    pairs_cons (λ (q r : ℕ). q ≢ r) p.a (p.b ∷ qubits_of ps)
    (λ q listed e. elim (contains_cases p.b q (qubits_of ps) listed) as (λ _. ⊥) [
      | inl second ↦ each p (contains_here p ps) (e ∙ sym second)
      | inr rest ↦ elsewhere q (inl e) rest
    ])
    (pairs_cons (λ (q r : ℕ). q ≢ r) p.b (qubits_of ps) (λ q rest e. elsewhere q (inr e) rest)
    (none_twice ps (λ r listed. each r (contains_later p r ps listed)) (pairs_tail AreApart p ps apart)))

-- the qubits of a pulse are all different
pub qubits_differ : (a : Architecture) (n : ℕ) (pairs : List PairOf) → IsPulse a n pairs → AllPairs (λ q r. q ≢ r) (qubits_of pairs)
qubits_differ a n pairs pulse = none_twice pairs (λ p listed. (pulse.each p listed).2) pulse.apart

-- and below the count of qubits
pub qubit_below : (a : Architecture) (n : ℕ) (pairs : List PairOf) → IsPulse a n pairs → (q : ℕ) → Contains (qubits_of pairs) q → q < n
qubit_below a n pairs pulse q listed =
    let found = qubit_of_pair pairs q listed in
    let each = pulse.each found.0 found.1 in
    elim (found.2) [
      | inl e ↦ subst (λ m. m < n) e each.0
      | inr e ↦ subst (λ m. m < n) e each.1
    ]
