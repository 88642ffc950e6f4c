-- Pairs that a pulse lists or finds in range.
use Rattle.std.proofs.Common.{◌≡◌, ◌≢◌, ℕ, ◌<◌, ◌≤◌, ◌⊎◌, inl, inr, Bool, true, false, not, IsTrue, Some, List, length, take, refl, sym, ap, ◌∙◌, subst, arith, slice_get}
use Rattle.std.specs.List.{All, Any, Contains}
use Rattle.std.proofs.lemmas.Bool.{false≢true}
use Rattle.std.proofs.lemmas.List.{get_or-take, length-take}
use Rattle.std.proofs.lemmas.List.Elements.{All-contains}
use Rattle.std.proofs.lemmas.Option.{slice_get_within, slice_get-get_or, get_or_from_slice_get}
use Rattle.zac_arch.specs.Architecture.{Architecture}
use Rattle.zac_arch.specs.Distances.{IsWithin}
use Rattle.zac_arch.specs.declared.place.Point.{Point}
use Rattle.zair_form.specs.declared.step.PairOf.{PairOf}
use Rattle.zair_state.specs.Legal.{IsPairOf}
use Rattle.zair_state.specs.State.{State, RestsLit, AreInRange}
use Rattle.zair_state.proofs.Membership.{any_contained}
use Rattle.zair_state.proofs.NothingBroken.{contained_at}
use Rattle.zair_state.proofs.Deciding.{lit_at_one}
use Rattle.zair_state.proofs.Minima.{Same}
use Rattle.zair_state.proofs.Picking.{NoneBelow}

pub range_told : (a : Architecture) (s : State) (q r : ℕ) (x y : Point) (radius : ℕ) (test : Bool) → q ≢ r → RestsLit a s q x → RestsLit a s r y → radius ≡ a.figures.radius → Same (IsTrue test) (IsWithin radius x y) → Same (IsTrue test) (AreInRange a s q r)
range_told a s q r x y radius test ne hx hy e told = (
  λ t. record { two = ne; q_at = x; r_at = y; q_rests = hx; r_rests = hy; near = subst (λ (m : ℕ). IsWithin m x y) e (told.0 t) },
  λ h.
      let ex = lit_at_one a s q h.q_at x h.q_rests hx in
      let ey = lit_at_one a s r h.r_at y h.r_rests hy in
      told.1 (subst (λ (m : ℕ). IsWithin m x y) (sym e) (subst (λ (p : Point). IsWithin a.figures.radius p y) ex (subst (λ (p : Point). IsWithin a.figures.radius h.q_at p) ey h.near))),
)

abbrev pub Repeated : List PairOf → ℕ → ℕ → ℕ → Type 0
Repeated pairs q r k = (p : PairOf) × (slice_get pairs k ≡ Some p) × IsPairOf p q r × Any (λ p. IsPairOf p q r) (take k pairs)

abbrev pub IsListedTwice : List PairOf → ℕ → ℕ → Type 0
IsListedTwice pairs q r =
    (i : ℕ) × (j : ℕ) × (p : PairOf) × (p' : PairOf) × (i < j) × (slice_get pairs i ≡ Some p) × (slice_get pairs j ≡ Some p') × IsPairOf p q r × IsPairOf p' q r

abbrev pub IsWrongPair : Architecture → State → List PairOf → ℕ → ℕ → Type 0
IsWrongPair a s pairs q r =
    IsListedTwice pairs q r ⊎ ((Any (λ p. IsPairOf p q r) pairs × ¬ AreInRange a s q r) ⊎ (AreInRange a s q r × ¬ Any (λ p. IsPairOf p q r) pairs))

pub twice_told : (pairs : List PairOf) (q r k : ℕ) → Repeated pairs q r k → IsListedTwice pairs q r
twice_told pairs q r k h =
    let x = h.3 in
    let before : x.0 < k = omega (arith, x.2, length-take k pairs) in
    let within = slice_get_within pairs k h.0 h.1 in
    let at : slice_get pairs x.0 ≡ Some x.1 = slice_get-get_or pairs x.0 x.1 (omega (arith, before, within)) ∙ ap (λ (p : PairOf). Some p) (sym (get_or-take k pairs x.0 x.1 before) ∙ x.3) in
    (x.0, k, x.1, h.0, before, at, h.1, x.4, h.2)

pub never_listed_twice : (pairs : List PairOf) (q r k : ℕ) → length pairs ≤ k → NoneBelow (Repeated pairs q r) k → ¬ IsListedTwice pairs q r
never_listed_twice pairs q r k le none h =
    let within = slice_get_within pairs h.1 h.3 h.6 in
    let first = slice_get_within pairs h.0 h.2 h.5 in
    none h.1 (omega (arith, within, le)) (h.3, h.6, h.8, (h.0, h.2, omega (arith, h.4, first, length-take h.1 pairs), get_or-take h.1 pairs h.0 h.2 h.4 ∙ get_or_from_slice_get pairs h.0 h.2 h.2 h.5, h.7))

-- two truth values are the same
abbrev pub same_bool : Bool → Bool → Bool
same_bool true true = true
same_bool true false = false
same_bool false true = false
same_bool false false = true

pub wrong_told : (a : Architecture) (s : State) (pairs : List PairOf) (q r : ℕ) (listed near wrong : Bool) → wrong ≡ not (same_bool listed near) → ¬ IsListedTwice pairs q r → Same (IsTrue listed) (Any (λ p. IsPairOf p q r) pairs) → Same (IsTrue near) (AreInRange a s q r) → Same (IsTrue wrong) (IsWrongPair a s pairs q r)
wrong_told a s pairs q r true true wrong e once l n =
    (λ t. absurd (cc), λ h. elim h [ inl x ↦ absurd (once x) | inr y ↦ elim y [ inl x ↦ absurd (x.1 (n.0 refl)) | inr x ↦ absurd (x.1 (l.0 refl)) ] ])
wrong_told a s pairs q r true false wrong e once l n = (λ t. inr (inl (l.0 refl, λ h. false≢true (n.1 h))), λ h. e)
wrong_told a s pairs q r false true wrong e once l n = (λ t. inr (inr (n.0 refl, λ h. false≢true (l.1 h))), λ h. e)
wrong_told a s pairs q r false false wrong e once l n =
    (λ t. absurd (cc), λ h. elim h [ inl x ↦ absurd (once x) | inr y ↦ elim y [ inl x ↦ absurd (false≢true (l.1 x.0)) | inr x ↦ absurd (false≢true (n.1 x.0)) ] ])

pair_within : (pairs : List PairOf) (n q r : ℕ) (p : PairOf) → All (λ (p : PairOf). (p.a < n) × (p.b < n)) pairs → Contains pairs p → IsPairOf p q r → (q < n) × (r < n)
pair_within pairs n q r p known here is =
    let both = All-contains (λ (p : PairOf). (p.a < n) × (p.b < n)) pairs p known here in
    elim is [
      | inl e ↦ (subst (λ (m : ℕ). m < n) e.0 both.0, subst (λ (m : ℕ). m < n) e.1 both.1)
      | inr e ↦ (subst (λ (m : ℕ). m < n) e.1 both.1, subst (λ (m : ℕ). m < n) e.0 both.0)
    ]

pub wrong_within : (a : Architecture) (s : State) (pairs : List PairOf) (q r : ℕ) → All (λ (p : PairOf). (p.a < length s.places) × (p.b < length s.places)) pairs → IsWrongPair a s pairs q r → (q < length s.places) × (r < length s.places)
wrong_within a s pairs q r known h = elim h [
  | inl x ↦ pair_within pairs (length s.places) q r x.2 known (contained_at pairs x.0 x.2 x.5) x.7
  | inr y ↦ elim y [
    | inl x ↦ let p = any_contained (λ (p : PairOf). IsPairOf p q r) pairs x.0 in pair_within pairs (length s.places) q r p.0 known p.1 p.2
    | inr x ↦ (slice_get_within s.places q _ x.0.q_rests.1, slice_get_within s.places r _ x.0.r_rests.1)
  ]
]
