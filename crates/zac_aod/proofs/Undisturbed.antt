-- A step of a job changes its own AOD's beams and its own atoms' places alone.
use Rattle.std.proofs.Common.{◌≡◌, ◌≢◌, ℕ, List, [], ◌∷◌, length, map, refl, sym, ap, ◌∙◌, subst, arith, slice_get, get_or-set_other, length-set}
use Rattle.std.specs.List.{Any, Contains}
use Rattle.std.specs.Prelude.{◌==◌, slice_set}
use Rattle.zac_arch.specs.Architecture.{Architecture}
use Rattle.zac_group.specs.Moves.{source_y}
use Rattle.zac_group.specs.declared.shift.Shift.{Shift}
use Rattle.zair_form.specs.declared.step.Caught.{Caught}
use Rattle.zair_form.specs.declared.step.Dropped.{Dropped}
use Rattle.zair_form.specs.declared.step.Step.{Step}
use Rattle.zair_state.specs.Result.{after, after_catching, after_dropping}
use Rattle.zair_state.specs.State.{State, Beams, beams_of, idle, crossing, EachCrossing}
use Rattle.zair_state.specs.declared.place.Place.{Place}
use Rattle.zair_state.specs.declared.place.Place.TheVariants.{Trap, Held}
use Rattle.zair_state.proofs.Membership.{contained_in_map, contained_in_filter, any_from_contained}
use Rattle.zair_state.proofs.Placing.{IsCaught, IsDropped, not_caught_stays, not_dropped_stays}
use Rattle.zac_aod.specs.Lines.{rows_of}
use Rattle.zac_aod.specs.Lowering.{caught, dropped, moves_of_row, catch_row, move_to, drop_row, job_steps}
use Rattle.zac_aod.specs.Soundness.{IsNearGrids, IsUndisturbed}
use Rattle.zac_aod.specs.declared.stage.Stage.{Stage}
use Rattle.zac_aod.proofs.JobSteps.{Kind, catches, moves, drops, kind_of}

-- the second state has all atoms but those of the moves where the first has them, and the beams of all AODs but this one
pub record Keeps (shifts : List Shift) (aod : ℕ) (s s' : State) : Type 0 where
  pub qubits : length s'.places ≡ length s.places
  pub places : (q : ℕ) → ¬ Any (λ (shift : Shift). shift.q ≡ q) shifts → slice_get s'.places q ≡ slice_get s.places q
  pub aods : length s'.aods ≡ length s.aods
  pub others : (other : ℕ) → other ≢ aod → beams_of s' other ≡ beams_of s other

pub keeps_itself : (shifts : List Shift) (aod : ℕ) (s : State) → Keeps shifts aod s s
keeps_itself shifts aod s = record { qubits = refl; places = λ q none. refl; aods = refl; others = λ other ne. refl }

pub keeps_further : (shifts : List Shift) (aod : ℕ) (s s' s'' : State) → Keeps shifts aod s s' → Keeps shifts aod s' s'' → Keeps shifts aod s s''
keeps_further shifts aod s s' s'' h k = record {
  qubits = k.qubits ∙ h.qubits;
  places = λ q none. k.places q none ∙ h.places q none;
  aods = k.aods ∙ h.aods;
  others = λ other ne. k.others other ne ∙ h.others other ne;
}

length_catching : (aod : ℕ) (atoms : List Caught) (places : List Place) → length (after_catching aod atoms places) ≡ length places
length_catching aod [] places = refl
length_catching aod (c ∷ cs) places = length_catching aod cs (slice_set places c.q (Held aod c.row c.column)) ∙ length-set places c.q (Held aod c.row c.column)

pub length_dropping : (atoms : List Dropped) (places : List Place) → length (after_dropping atoms places) ≡ length places
length_dropping [] places = refl
length_dropping (d ∷ ds) places = length_dropping ds (slice_set places d.q (Trap d.trap)) ∙ length-set places d.q (Trap d.trap)

-- the atoms of a row are atoms of the moves
caught_of_moves : (a : Architecture) (shifts : List Shift) (row q : ℕ) → ¬ Any (λ (shift : Shift). shift.q ≡ q) shifts → ¬ IsCaught (map (caught a shifts) (moves_of_row a shifts row)) q
caught_of_moves a shifts row q none h =
    let s = contained_in_map (caught a shifts) (moves_of_row a shifts row) h.0 h.1 in
    let e : s.0.q ≡ q = ap (λ (c : Caught). c.q) s.2 ∙ h.2 in
    none (any_from_contained (λ (shift : Shift). shift.q ≡ q) shifts s.0 (contained_in_filter (λ (x : Shift). source_y a x == row) shifts s.0 s.1).0 e)

dropped_of_moves : (a : Architecture) (shifts : List Shift) (row q : ℕ) → ¬ Any (λ (shift : Shift). shift.q ≡ q) shifts → ¬ IsDropped (map dropped (moves_of_row a shifts row)) q
dropped_of_moves a shifts row q none h =
    let s = contained_in_map dropped (moves_of_row a shifts row) h.0 h.1 in
    let e : s.0.q ≡ q = ap (λ (d : Dropped). d.q) s.2 ∙ h.2 in
    none (any_from_contained (λ (shift : Shift). shift.q ≡ q) shifts s.0 (contained_in_filter (λ (x : Shift). source_y a x == row) shifts s.0 s.1).0 e)

catch_keeps : (a : Architecture) (shifts : List Shift) (aod row : ℕ) (s : State) → Keeps shifts aod s (after s (catch_row a shifts aod row))
catch_keeps a shifts aod row s = record {
  qubits = length_catching aod (map (caught a shifts) (moves_of_row a shifts row)) s.places;
  places = λ q none. not_caught_stays aod (map (caught a shifts) (moves_of_row a shifts row)) s.places q (caught_of_moves a shifts row q none);
  aods = length-set s.aods aod _;
  others = λ other ne. get_or-set_other s.aods aod other _ idle ne;
}

move_keeps : (a : Architecture) (shifts : List Shift) (aod : ℕ) (stage : Stage) (s : State) → Keeps shifts aod s (after s (move_to a shifts aod stage))
move_keeps a shifts aod stage s = record {
  qubits = refl;
  places = λ q none. refl;
  aods = length-set s.aods aod _;
  others = λ other ne. get_or-set_other s.aods aod other _ idle ne;
}

drop_keeps : (a : Architecture) (shifts : List Shift) (aod row : ℕ) (s : State) → Keeps shifts aod s (after s (drop_row a shifts aod row))
drop_keeps a shifts aod row s = record {
  qubits = length_dropping (map dropped (moves_of_row a shifts row)) s.places;
  places = λ q none. not_dropped_stays (map dropped (moves_of_row a shifts row)) s.places q (dropped_of_moves a shifts row q none);
  aods = length-set s.aods aod _;
  others = λ other ne. get_or-set_other s.aods aod other _ idle ne;
}

-- each step of a job keeps the rest of the state
pub step_keeps : (a : Architecture) (shifts : List Shift) (aod : ℕ) (step : Step) → Contains (job_steps a shifts aod) step → (s : State) → Keeps shifts aod s (after s step)
step_keeps a shifts aod step c s = kind_keeps (kind_of a shifts aod step c)
  where
    kind_keeps : Kind a shifts aod (rows_of a shifts) step → Keeps shifts aod s (after s step)
    kind_keeps (catches r c e) = subst (λ (x : Step). Keeps shifts aod s (after s x)) e (catch_keeps a shifts aod r.from s)
    kind_keeps (moves stage e) = subst (λ (x : Step). Keeps shifts aod s (after s x)) e (move_keeps a shifts aod stage s)
    kind_keeps (drops r c e) = subst (λ (x : Step). Keeps shifts aod s (after s x)) e (drop_keeps a shifts aod r.from s)

-- what keeps the rest of the state leaves a job undisturbed
pub stays_undisturbed : (a : Architecture) (shifts : List Shift) (aod : ℕ) (s s' : State) → Keeps shifts aod s s' → IsUndisturbed a shifts aod s → IsUndisturbed a shifts aod s'
stays_undisturbed a shifts aod s s' k h = record {
  known = let e = k.aods in let lt = h.known in omega arith;
  strangers = λ q t at none. h.strangers q t (sym (k.places q none) ∙ at) none;
  apart = λ other ne.
      subst (λ (b : Beams). EachCrossing b.rows b.columns (λ row column. ¬ IsNearGrids a shifts (crossing row column))) (sym (k.others other ne)) (h.apart other ne);
}
