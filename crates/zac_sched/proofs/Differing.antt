-- Two states that differ only in what one act uses show the same to every act that doesn't conflict with it.
use Rattle.std.proofs.Common.{◌≡◌, ℕ, ◌≤◌, ◌⊎◌, inl, inr, Some, length, slice_get, refl, sym, ◌∙◌, subst}
use Rattle.std.proofs.lemmas.Bool.{cases_eq, cases_lt}
use Rattle.std.proofs.lemmas.Option.{slice_get_within}
use Rattle.zac_arch.specs.Architecture.{Architecture, IsLit, StandsAt, storage_count, trap_points}
use Rattle.zac_arch.specs.Distances.{IsFarther}
use Rattle.zac_arch.specs.Parking.{IsCorner}
use Rattle.zac_arch.specs.declared.place.Point.{Point}
use Rattle.zair_form.specs.declared.program.Act.{Act}
use Rattle.zair_form.specs.declared.program.Act.TheVariants.{Init, Gates, Rydberg, Job, Readout}
use Rattle.zair_state.specs.Resources.{Conflict, Uses}
use Rattle.zair_state.specs.Resources.{Resource as resource}
use Rattle.zair_state.specs.State.{State, Beams, beams_of, crossing, EachCrossing, IsAt, IsFreeOfOthers, RestsLit}
use Rattle.zair_state.specs.declared.place.Place.{Place}
use Rattle.zair_state.specs.declared.place.Place.TheVariants.{Trap, Held}
use Rattle.zac_sched.specs.Exchange.{IsAtTrapsOf}
use Rattle.zac_sched.proofs.Surroundings.{CardLaws, IsPulse, Shows}

-- the place is a trap that the act uses, or a crossing of an AOD that it uses
abbrev pub IsPlaceOf : Architecture → Act → Place → Type 0
IsPlaceOf a x (Trap t) = Uses a x (resource.Trap t.0)
IsPlaceOf a x (Held aod row column) = Uses a x (resource.Aod aod)

-- a qubit that the act uses is in the one state at one place of the act, and in the other at another
pub record IsCarried (a : Architecture) (x : Act) (s s' : State) (q : ℕ) : Type 0 where
  pub used : Uses a x (resource.Qubit q)
  pub here : Place
  pub there : Place
  pub at_here : IsAt s q here
  pub at_there : IsAt s' q there
  pub own_here : IsPlaceOf a x here
  pub own_there : IsPlaceOf a x there

-- the crossings of each AOD that the act uses are at its traps
abbrev pub CrossesOwnTraps : Architecture → Act → State → Type 0
CrossesOwnTraps a x s =
    (aod : ℕ) → Uses a x (resource.Aod aod) → EachCrossing (beams_of s aod).rows (beams_of s aod).columns (λ row column. IsAtTrapsOf a x (crossing row column))

-- the two states differ only in what the act uses
pub record DifferOnlyIn (a : Architecture) (x : Act) (s s' : State) : Type 0 where
  pub count : length s.aods ≡ length s'.aods
  pub others : (aod : ℕ) → ¬ Uses a x (resource.Aod aod) → beams_of s aod ≡ beams_of s' aod
  pub places : (q : ℕ) → (slice_get s.places q ≡ slice_get s'.places q) ⊎ IsCarried a x s s' q
  pub crossings : CrossesOwnTraps a x s
  pub crossings_then : CrossesOwnTraps a x s'

carried_back : (a : Architecture) (x : Act) (s s' : State) (q : ℕ) → IsCarried a x s s' q → IsCarried a x s' s q
carried_back a x s s' q h =
    record { used = h.used; here = h.there; there = h.here; at_here = h.at_there; at_there = h.at_here; own_here = h.own_there; own_there = h.own_here }

pub differ_back : (a : Architecture) (x : Act) (s s' : State) → DifferOnlyIn a x s s' → DifferOnlyIn a x s' s
differ_back a x s s' h = record {
  count = sym h.count;
  others = λ aod none. sym (h.others aod none);
  places = λ q. elim (h.places q) [ inl e ↦ inl (sym e) | inr carried ↦ inr (carried_back a x s s' q carried) ];
  crossings = h.crossings_then;
  crossings_then = h.crossings;
}

-- it can be told whether an act uses an AOD
aod_used : (a : Architecture) (x : Act) (aod : ℕ) → Uses a x (resource.Aod aod) ⊎ ¬ Uses a x (resource.Aod aod)
aod_used a (Init homes) aod = inl tt
aod_used a (Gates ones) aod = inr (λ h. h)
aod_used a (Rydberg pairs) aod = inr (λ h. h)
aod_used a (Job n steps) aod = cases_eq n aod
aod_used a (Readout reads) aod = inr (λ h. h)

-- a pulse uses each trap that isn't one of storage
pulse_uses : (a : Architecture) (y : Act) (t : ℕ) (p : Point) → IsPulse y → StandsAt a t p → storage_count a ≤ t → Uses a y (resource.Trap t)
pulse_uses a (Init homes) t p h stands from = tt
pulse_uses a (Gates ones) t p h stands from = absurd h
pulse_uses a (Rydberg pairs) t p h stands from = (from, slice_get_within (trap_points a) t p stands)
pulse_uses a (Job aod steps) t p h stands from = absurd h
pulse_uses a (Readout reads) t p h stands from = absurd h

module _ (a : Architecture) (laws : CardLaws a) (x y : Act) (apart : ¬ Conflict a x y) where
  -- no trap of an act that doesn't conflict with a pulse is lit, and no crossing at one
  dark_for_pulse : (t : ℕ) (p r : Point) → IsPulse y → Uses a x (resource.Trap t) → StandsAt a t p → IsCorner a.figures.park p r → ¬ IsLit a r
  dark_for_pulse t p r pulse used stands corner = elim (cases_lt t (storage_count a)) [
    | inl below ↦ laws.dark t p r below stands corner
    | inr from ↦ absurd (apart (resource.Trap t, used, pulse_uses a y t p pulse stands from))
  ]

  module _ (s s' : State) (differ : DifferOnlyIn a x s s') where
    same_places : (q : ℕ) (place : Place) → Uses a y (resource.Qubit q) → IsAt s q place → IsAt s' q place
    same_places q place used there = elim (differ.places q) [
      | inl e ↦ sym e ∙ there
      | inr carried ↦ absurd (apart (resource.Qubit q, carried.used, used))
    ]

    same_beams : (aod : ℕ) → Uses a y (resource.Aod aod) → beams_of s aod ≡ beams_of s' aod
    same_beams aod used = differ.others aod (λ h. apart (resource.Aod aod, h, used))

    some_place : (p r : Place) → Some p ≡ Some r → p ≡ r
    some_place p r e = cc

    -- a place that the act doesn't have is left as it is
    same_place : (q : ℕ) (place : Place) → ¬ IsPlaceOf a x place → IsAt s q place → IsAt s' q place
    same_place q place none there = elim (differ.places q) [
      | inl e ↦ sym e ∙ there
      | inr carried ↦ absurd (none (subst (IsPlaceOf a x) (some_place carried.here place (sym carried.at_here ∙ there)) carried.own_here))
    ]

    still_free : (aod : ℕ) (p : Point) → IsAtTrapsOf a y p → IsFreeOfOthers a s aod p → IsFreeOfOthers a s' aod p
    still_free aod p at_traps free other ne = elim (aod_used a x other) [
      | inl used ↦ λ row column in_rows in_columns.
          let near = differ.crossings_then other used row column in_rows in_columns in
          laws.corners_apart at_traps.trap near.trap at_traps.stands near.stands p (crossing row column)
          (λ e. apart (resource.Trap near.trap, near.used, subst (λ (n : ℕ). Uses a y (resource.Trap n)) e at_traps.used))
          at_traps.stands_at near.stands_at at_traps.corner near.corner
      | inr none ↦
          subst (λ (b : Beams). EachCrossing b.rows b.columns (λ row column. IsFarther a.figures.reach p (crossing row column))) (differ.others other none) (free other ne)
    ]

    still_lit : IsPulse y → (q : ℕ) (p : Point) → RestsLit a s q p → RestsLit a s' q p
    still_lit pulse q p h = (
      h.0,
      same_place q (Trap h.0) (λ used. dark_for_pulse h.0.0 p p pulse used h.2 (record { along_x = inl refl; along_y = inl refl }) h.3) h.1,
      h.2,
      h.3,
    )

    still_dark : IsPulse y → ((aod : ℕ) → EachCrossing (beams_of s aod).rows (beams_of s aod).columns (λ row column. ¬ IsLit a (crossing row column)))
        → (aod : ℕ) → EachCrossing (beams_of s' aod).rows (beams_of s' aod).columns (λ row column. ¬ IsLit a (crossing row column))
    still_dark pulse dark aod = elim (aod_used a x aod) [
      | inl used ↦ λ row column in_rows in_columns.
          let near = differ.crossings_then aod used row column in_rows in_columns in
          dark_for_pulse near.trap near.stands (crossing row column) pulse near.used near.stands_at near.corner
      | inr none ↦ subst (λ (b : Beams). EachCrossing b.rows b.columns (λ row column. ¬ IsLit a (crossing row column))) (differ.others aod none) (dark aod)
    ]

  -- what the one act leaves alone is all that the other sees
  pub shows_other : (s s' : State) → DifferOnlyIn a x s s' → Shows a s s' y
  shows_other s s' differ =
      let back = differ_back a x s s' differ in
      record {
        count = differ.count;
        places = same_places s s' differ;
        beams = same_beams s s' differ;
        held = λ aod q row column used. same_place s s' differ q (Held aod row column) (λ h. apart (resource.Aod aod, h, used));
        held_before = λ aod q row column used. same_place s' s back q (Held aod row column) (λ h. apart (resource.Aod aod, h, used));
        empty = λ t used empty r there. empty r (same_place s' s back r (Trap t) (λ h. apart (resource.Trap t.0, h, used)) there);
        free = λ aod p used. still_free s s' differ aod p;
        lit = still_lit s s' differ;
        lit_before = still_lit s' s back;
        dark = still_dark s s' differ;
      }
