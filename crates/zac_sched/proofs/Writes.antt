-- A step of an AOD as what it writes: places of qubits, and the beams of that AOD.
use Rattle.std.proofs.Common.{◌≡◌, ◌≢◌, ℕ, zero, suc, ◌⊎◌, inl, inr, true, List, [], ◌∷◌, Some, get_or-set_other, map, set, slice_get, refl, sym, ap, ◌∙◌, subst}
use Rattle.std.specs.List.{Contains, list_all}
use Rattle.std.proofs.lemmas.Bool.{and_parts, cases_eq, eqb-true, false≢true}
use Rattle.zair_form.specs.Steps.{is_step_of}
use Rattle.zair_form.specs.declared.step.Caught.{Caught}
use Rattle.zair_form.specs.declared.step.Dropped.{Dropped}
use Rattle.zair_form.specs.declared.step.Step.{Step}
use Rattle.zair_form.specs.declared.step.Step.TheVariants.{Activate, Move, Deactivate, One, Pulse, Readout}
use Rattle.zair_state.specs.Result.{after, after_catching, after_dropping, with_beams, without_beams}
use Rattle.zair_state.specs.State.{State, Beams, beams_of, idle}
use Rattle.zair_state.specs.declared.place.Place.{Place}
use Rattle.zair_state.specs.declared.place.Place.TheVariants.{Trap, Held}
use Rattle.zair_state.proofs.Membership.{contains_here, contains_later, contains_cases, contains_none}

-- the list with these items written at these numbers, one after another
abbrev pub written : {X : Type 0} → List (ℕ × X) → List X → List X
written [] xs = xs
written (w ∷ ws) xs = written ws (set xs w.0 w.1)

-- the place of each qubit that a step catches or drops
abbrev pub places_set : Step → List (ℕ × Place)
places_set (Activate aod rows columns atoms) = map (λ (c : Caught). (c.q, Held aod c.row c.column)) atoms
places_set (Move aod rows columns) = []
places_set (Deactivate aod rows columns atoms) = map (λ (d : Dropped). (d.q, Trap d.trap)) atoms
places_set (One gate) = []
places_set (Pulse pairs) = []
places_set (Readout reads) = []

-- the beams that a step makes of those of its AOD
abbrev pub beams_set : Step → Beams → Beams
beams_set (Activate aod rows columns atoms) b = record { rows = with_beams rows b.rows; columns = with_beams columns b.columns }
beams_set (Move aod rows columns) b = record { rows = with_beams rows []; columns = with_beams columns [] }
beams_set (Deactivate aod rows columns atoms) b = record { rows = without_beams rows b.rows; columns = without_beams columns b.columns }
beams_set (One gate) b = b
beams_set (Pulse pairs) b = b
beams_set (Readout reads) b = b

-- the state that a step of this AOD writes
abbrev pub stepped : ℕ → Step → State → State
stepped aod step s = record { places = written (places_set step) s.places; aods = set s.aods aod (beams_set step (beams_of s aod)) }

set_there : {X : Type 0} (xs : List X) (i : ℕ) (x y : X) → slice_get xs i ≡ Some x → slice_get (set xs i y) i ≡ Some y
set_there [] i x y h = cc
set_there (z ∷ zs) zero x y h = refl
set_there (z ∷ zs) (suc i) x y h = set_there zs i x y h

set_elsewhere : {X : Type 0} (xs : List X) (i k : ℕ) (y : X) → i ≢ k → slice_get (set xs i y) k ≡ slice_get xs k
set_elsewhere [] i k y ne = refl
set_elsewhere (z ∷ zs) zero zero y ne = absurd (ne refl)
set_elsewhere (z ∷ zs) zero (suc k) y ne = refl
set_elsewhere (z ∷ zs) (suc i) zero y ne = refl
set_elsewhere (z ∷ zs) (suc i) (suc k) y ne = set_elsewhere zs i k y (λ e. ne (ap suc e))

-- an item is as it was, or what was written last at its number
pub written_at : {X : Type 0} (ws : List (ℕ × X)) (xs : List X) (k : ℕ) →
    (slice_get xs k ≡ slice_get (written ws xs) k)
    ⊎ ((w : ℕ × X) × Contains ws w × (w.0 ≡ k) × ((x : X) → slice_get xs k ≡ Some x → slice_get (written ws xs) k ≡ Some w.1))
written_at [] xs k = inl refl
written_at {X} (w ∷ ws) xs k = elim (written_at ws (set xs w.0 w.1) k) [
  | inl e ↦ elim (cases_eq w.0 k) [
    | inl here ↦ inr (
      w,
      contains_here w ws,
      here,
      λ x there. sym e ∙ subst (λ (n : ℕ). slice_get (set xs n w.1) k ≡ Some w.1) (sym here) (set_there xs k x w.1 there),
    )
    | inr ne ↦ inl (sym (set_elsewhere xs w.0 k w.1 ne) ∙ e)
  ]
  | inr r ↦ inr (
    r.0,
    contains_later w r.0 ws r.1,
    r.2,
    λ x there. elim (cases_eq w.0 k) [
      | inl here ↦ r.3 w.1 (subst (λ (n : ℕ). slice_get (set xs n w.1) k ≡ Some w.1) (sym here) (set_there xs k x w.1 there))
      | inr ne ↦ r.3 x (set_elsewhere xs w.0 k w.1 ne ∙ there)
    ],
  )
]

-- writes at different numbers may change places
pub set_apart : {X : Type 0} (xs : List X) (i k : ℕ) (x y : X) → i ≢ k → set (set xs i x) k y ≡ set (set xs k y) i x
set_apart [] i k x y ne = refl
set_apart (z ∷ zs) zero zero x y ne = absurd (ne refl)
set_apart (z ∷ zs) zero (suc k) x y ne = refl
set_apart (z ∷ zs) (suc i) zero x y ne = refl
set_apart (z ∷ zs) (suc i) (suc k) x y ne = ap (λ (l : _). z ∷ l) (set_apart zs i k x y (λ e. ne (ap suc e)))

-- no number of the one list is one of the other
abbrev pub AreApartAt : {X : Type 0} → List (ℕ × X) → List (ℕ × X) → Type 0
AreApartAt {X} ws vs = (w v : ℕ × X) → Contains ws w → Contains vs v → w.0 ≢ v.0

-- a write may come before the others, if none of them is at its number
set_past : {X : Type 0} (ws : List (ℕ × X)) (xs : List X) (i : ℕ) (x : X) → ((w : ℕ × X) → Contains ws w → w.0 ≢ i) →
    written ws (set xs i x) ≡ set (written ws xs) i x
set_past [] xs i x ne = refl
set_past (w ∷ ws) xs i x ne =
    ap (written ws) (sym (set_apart xs w.0 i w.1 x (ne w (contains_here w ws))))
    ∙ set_past ws (set xs w.0 w.1) i x (λ v later. ne v (contains_later w v ws later))

pub written_apart : {X : Type 0} (ws vs : List (ℕ × X)) (xs : List X) → AreApartAt ws vs → written ws (written vs xs) ≡ written vs (written ws xs)
written_apart [] vs xs apart = refl
written_apart (w ∷ ws) vs xs apart =
    ap (written ws) (sym (set_past vs xs w.0 w.1 (λ v later e. apart w v (contains_here w ws) later (sym e))))
    ∙ written_apart ws vs (set xs w.0 w.1) (λ u v in_ws in_vs. apart u v (contains_later w u ws in_ws) in_vs)

catching_writes : (aod : ℕ) (atoms : List Caught) (places : List Place) → after_catching aod atoms places ≡ written (map (λ (c : Caught). (c.q, Held aod c.row c.column)) atoms) places
catching_writes aod [] places = refl
catching_writes aod (c ∷ cs) places = catching_writes aod cs (set places c.q (Held aod c.row c.column))

dropping_writes : (atoms : List Dropped) (places : List Place) → after_dropping atoms places ≡ written (map (λ (d : Dropped). (d.q, Trap d.trap)) atoms) places
dropping_writes [] places = refl
dropping_writes (d ∷ ds) places = dropping_writes ds (set places d.q (Trap d.trap))

-- a step of an AOD leaves what it writes
pub after_writes : (aod : ℕ) (s : State) (step : Step) → is_step_of aod step ≡ true → after s step ≡ stepped aod step s
after_writes n s (Activate aod rows columns atoms) own =
    let step : Step = Activate aod rows columns atoms in
    subst (λ (m : ℕ). after s step ≡ stepped m step s) (eqb-true aod n own)
    (ap (λ (places : List Place). record { places = places; aods = set s.aods aod (beams_set step (beams_of s aod)) }) (catching_writes aod atoms s.places))
after_writes n s (Move aod rows columns) own =
    let step : Step = Move aod rows columns in
    subst (λ (m : ℕ). after s step ≡ stepped m step s) (eqb-true aod n own) refl
after_writes n s (Deactivate aod rows columns atoms) own =
    let step : Step = Deactivate aod rows columns atoms in
    subst (λ (m : ℕ). after s step ≡ stepped m step s) (eqb-true aod n own)
    (ap (λ (places : List Place). record { places = places; aods = set s.aods aod (beams_set step (beams_of s aod)) }) (dropping_writes atoms s.places))
after_writes n s (One gate) own = absurd (false≢true own)
after_writes n s (Pulse pairs) own = absurd (false≢true own)
after_writes n s (Readout reads) own = absurd (false≢true own)

-- each step of a job is one of its AOD
pub own_step : (aod : ℕ) (steps : List Step) (step : Step) → list_all (is_step_of aod) steps ≡ true → Contains steps step → is_step_of aod step ≡ true
own_step aod [] step own within = absurd (contains_none step within)
own_step aod (s ∷ ss) step own within =
    let both = and_parts (is_step_of aod s) (list_all (is_step_of aod) ss) own in
    elim (contains_cases s step ss within) [
      | inl e ↦ subst (λ (t : Step). is_step_of aod t ≡ true) e both.0
      | inr later ↦ own_step aod ss step both.1 later
    ]

-- steps of two AODs that write places of different qubits may change places
pub stepped_apart : (n m : ℕ) (step next : Step) (s : State) → n ≢ m → AreApartAt (places_set step) (places_set next) →
    stepped n step (stepped m next s) ≡ stepped m next (stepped n step s)
stepped_apart n m step next s ne apart =
    let here : beams_of (stepped m next s) n ≡ beams_of s n = get_or-set_other s.aods m n (beams_set next (beams_of s m)) idle ne in
    let there : beams_of (stepped n step s) m ≡ beams_of s m = get_or-set_other s.aods n m (beams_set step (beams_of s n)) idle (λ e. ne (sym e)) in
    let places : written (places_set step) (written (places_set next) s.places) ≡ written (places_set next) (written (places_set step) s.places) = written_apart (places_set step) (places_set next) s.places apart in
    let aods : set (set s.aods m (beams_set next (beams_of s m))) n (beams_set step (beams_of (stepped m next s) n))
    ≡ set (set s.aods n (beams_set step (beams_of s n))) m (beams_set next (beams_of (stepped n step s) m)) =
    ap (λ (b : Beams). set (set s.aods m (beams_set next (beams_of s m))) n (beams_set step b)) here
    ∙ set_apart s.aods m n (beams_set next (beams_of s m)) (beams_set step (beams_of s n)) (λ e. ne (sym e))
    ∙ ap (λ (b : Beams). set (set s.aods n (beams_set step (beams_of s n))) m (beams_set next b)) (sym there) in
    ap (λ (l : List Place). record { places = l; aods = set (set s.aods m (beams_set next (beams_of s m))) n (beams_set step (beams_of (stepped m next s) n)) }) places
    ∙ ap (λ (l : List Beams). record { places = written (places_set next) (written (places_set step) s.places); aods = l }) aods
