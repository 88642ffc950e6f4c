-- Where atoms are after some have been caught or dropped.
use Rattle.std.proofs.Common.{◌≡◌, ◌≢◌, ℕ, zero, suc, ◌⊎◌, inl, inr, List, [], ◌∷◌, Some, set, refl, sym, ap, ◌∙◌, subst, slice_get}
use Rattle.std.specs.List.{All, AllPairs, Contains}
use Rattle.std.proofs.lemmas.Bool.{cases_eq}
use Rattle.std.proofs.lemmas.List.Elements.{All-contains}
use Rattle.zair_form.specs.declared.step.Caught.{Caught}
use Rattle.zair_form.specs.declared.step.Dropped.{Dropped}
use Rattle.zair_state.specs.declared.place.Place.{Place}
use Rattle.zair_state.specs.declared.place.Place.TheVariants.{Trap, Held}
use Rattle.zair_state.specs.Result.{after_catching, after_dropping}
use Rattle.zair_state.proofs.Membership.{contains_none, contains_here, contains_later, contains_cases, pairs_head, pairs_tail}

some_same : {X : Type 0} (x y : X) → Some x ≡ Some y → x ≡ y
some_same x y e = cc

-- what is written is read, where something stood
written : {X : Type 0} (xs : List X) (i : ℕ) (x y : X) → slice_get xs i ≡ Some x → slice_get (set xs i y) i ≡ Some y
written [] i x y h = cc
written (z ∷ zs) zero x y h = refl
written (z ∷ zs) (suc i) x y h = written zs i x y h

read_back : {X : Type 0} (xs : List X) (i : ℕ) (x y : X) → slice_get (set xs i y) i ≡ Some x → y ≡ x
read_back [] i x y h = cc
read_back (z ∷ zs) zero x y h = some_same y x h
read_back (z ∷ zs) (suc i) x y h = read_back zs i x y h

unwritten : {X : Type 0} (xs : List X) (i k : ℕ) (y : X) → k ≢ i → slice_get (set xs i y) k ≡ slice_get xs k
unwritten [] i k y ne = refl
unwritten (z ∷ zs) zero zero y ne = absurd (ne refl)
unwritten (z ∷ zs) zero (suc k) y ne = refl
unwritten (z ∷ zs) (suc i) zero y ne = refl
unwritten (z ∷ zs) (suc i) (suc k) y ne = unwritten zs i k y (λ e. ne (ap suc e))

-- the qubit is listed among the atoms that are caught
abbrev pub IsCaught : List Caught → ℕ → Type 0
IsCaught atoms q = (c : Caught) × Contains atoms c × (c.q ≡ q)

abbrev pub IsDropped : List Dropped → ℕ → Type 0
IsDropped atoms q = (d : Dropped) × Contains atoms d × (d.q ≡ q)

pub caught_or_not : (atoms : List Caught) (q : ℕ) → IsCaught atoms q ⊎ ¬ IsCaught atoms q
caught_or_not [] q = inr (λ h. contains_none h.0 h.1)
caught_or_not (c ∷ cs) q = elim (cases_eq c.q q) [
  | inl e ↦ inl (c, contains_here c cs, e)
  | inr ne ↦ elim (caught_or_not cs q) [
    | inl h ↦ inl (h.0, contains_later c h.0 cs h.1, h.2)
    | inr none ↦ inr (λ h. elim (contains_cases c h.0 cs h.1) [
      | inl same ↦ ne (ap (λ (x : Caught). x.q) same ∙ h.2)
      | inr later ↦ none (h.0, later, h.2)
    ])
  ]
]

pub dropped_or_not : (atoms : List Dropped) (q : ℕ) → IsDropped atoms q ⊎ ¬ IsDropped atoms q
dropped_or_not [] q = inr (λ h. contains_none h.0 h.1)
dropped_or_not (d ∷ ds) q = elim (cases_eq d.q q) [
  | inl e ↦ inl (d, contains_here d ds, e)
  | inr ne ↦ elim (dropped_or_not ds q) [
    | inl h ↦ inl (h.0, contains_later d h.0 ds h.1, h.2)
    | inr none ↦ inr (λ h. elim (contains_cases d h.0 ds h.1) [
      | inl same ↦ ne (ap (λ (x : Dropped). x.q) same ∙ h.2)
      | inr later ↦ none (h.0, later, h.2)
    ])
  ]
]

-- an atom that isn't listed stays where it is
pub not_caught_stays : (aod : ℕ) (atoms : List Caught) (places : List Place) (q : ℕ) → ¬ IsCaught atoms q → slice_get (after_catching aod atoms places) q ≡ slice_get places q
not_caught_stays aod [] places q none = refl
not_caught_stays aod (c ∷ cs) places q none =
    not_caught_stays aod cs (set places c.q (Held aod c.row c.column)) q (λ h. none (h.0, contains_later c h.0 cs h.1, h.2))
    ∙ unwritten places c.q q (Held aod c.row c.column) (λ e. none (c, contains_here c cs, sym e))

pub not_dropped_stays : (atoms : List Dropped) (places : List Place) (q : ℕ) → ¬ IsDropped atoms q → slice_get (after_dropping atoms places) q ≡ slice_get places q
not_dropped_stays [] places q none = refl
not_dropped_stays (d ∷ ds) places q none =
    not_dropped_stays ds (set places d.q (Trap d.trap)) q (λ h. none (h.0, contains_later d h.0 ds h.1, h.2))
    ∙ unwritten places d.q q (Trap d.trap) (λ e. none (d, contains_here d ds, sym e))

-- an atom that is listed once is held at its crossing
pub caught_is_held : (aod : ℕ) (atoms : List Caught) (places : List Place) (c : Caught) (place : Place) →
    AllPairs (λ (c d : Caught). c.q ≢ d.q) atoms → Contains atoms c → slice_get places c.q ≡ Some place →
    slice_get (after_catching aod atoms places) c.q ≡ Some (Held aod c.row c.column)
caught_is_held aod [] places c place once h there = absurd (contains_none c h)
caught_is_held aod (b ∷ bs) places c place once h there =
    let other : All (λ (d : Caught). b.q ≢ d.q) bs = pairs_head (λ (c d : Caught). c.q ≢ d.q) b bs once in
    elim (contains_cases b c bs h) [
      | inl e ↦
          let unlisted : ¬ IsCaught bs b.q = λ again. All-contains (λ (d : Caught). b.q ≢ d.q) bs again.0 other again.1 (sym again.2) in
          let there_b : slice_get places b.q ≡ Some place = subst (λ (x : Caught). slice_get places x.q ≡ Some place) (sym e) there in
          let held_b : slice_get (after_catching aod (b ∷ bs) places) b.q ≡ Some (Held aod b.row b.column) =
          not_caught_stays aod bs (set places b.q (Held aod b.row b.column)) b.q unlisted ∙ written places b.q place (Held aod b.row b.column) there_b in
          subst (λ (x : Caught). slice_get (after_catching aod (b ∷ bs) places) x.q ≡ Some (Held aod x.row x.column)) e held_b
      | inr later ↦
          let ne : c.q ≢ b.q = λ e. All-contains (λ (d : Caught). b.q ≢ d.q) bs c other later (sym e) in
          caught_is_held aod bs (set places b.q (Held aod b.row b.column)) c place (pairs_tail (λ (c d : Caught). c.q ≢ d.q) b bs once) later
          (unwritten places b.q c.q (Held aod b.row b.column) ne ∙ there)
    ]

-- an atom is where a listed one of its number is held, or it isn't listed and is where it was
pub after_catching_at : (aod : ℕ) (atoms : List Caught) (places : List Place) (q : ℕ) (place : Place) → slice_get (after_catching aod atoms places) q ≡ Some place →
    ((c : Caught) × Contains atoms c × (c.q ≡ q) × (Held aod c.row c.column ≡ place)) ⊎ (¬ IsCaught atoms q × (slice_get places q ≡ Some place))
after_catching_at aod [] places q place h = inr (λ c. contains_none c.0 c.1, h)
after_catching_at aod (b ∷ bs) places q place h =
    elim (after_catching_at aod bs (set places b.q (Held aod b.row b.column)) q place h) [
      | inl r ↦ inl (r.0, contains_later b r.0 bs r.1, r.2, r.3)
      | inr r ↦ elim (cases_eq b.q q) [
        | inl e ↦ inl (
          b,
          contains_here b bs,
          e,
          read_back places q place (Held aod b.row b.column) (subst (λ (n : ℕ). slice_get (set places n (Held aod b.row b.column)) q ≡ Some place) e r.1),
        )
        | inr ne ↦ inr (
          λ c. elim (contains_cases b c.0 bs c.1) [
            | inl same ↦ ne (ap (λ (x : Caught). x.q) same ∙ c.2)
            | inr later ↦ r.0 (c.0, later, c.2)
          ],
          sym (unwritten places b.q q (Held aod b.row b.column) (λ e. ne (sym e))) ∙ r.1,
        )
      ]
    ]

pub after_dropping_at : (atoms : List Dropped) (places : List Place) (q : ℕ) (place : Place) → slice_get (after_dropping atoms places) q ≡ Some place →
    ((d : Dropped) × Contains atoms d × (d.q ≡ q) × (Trap d.trap ≡ place)) ⊎ (¬ IsDropped atoms q × (slice_get places q ≡ Some place))
after_dropping_at [] places q place h = inr (λ d. contains_none d.0 d.1, h)
after_dropping_at (b ∷ bs) places q place h =
    elim (after_dropping_at bs (set places b.q (Trap b.trap)) q place h) [
      | inl r ↦ inl (r.0, contains_later b r.0 bs r.1, r.2, r.3)
      | inr r ↦ elim (cases_eq b.q q) [
        | inl e ↦ inl (
          b,
          contains_here b bs,
          e,
          read_back places q place (Trap b.trap) (subst (λ (n : ℕ). slice_get (set places n (Trap b.trap)) q ≡ Some place) e r.1),
        )
        | inr ne ↦ inr (
          λ d. elim (contains_cases b d.0 bs d.1) [
            | inl same ↦ ne (ap (λ (x : Dropped). x.q) same ∙ d.2)
            | inr later ↦ r.0 (d.0, later, d.2)
          ],
          sym (unwritten places b.q q (Trap b.trap) (λ e. ne (sym e))) ∙ r.1,
        )
      ]
    ]
