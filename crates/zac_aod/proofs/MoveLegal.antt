-- A move from a stage to one at which the same lines are active is legal.
use Rattle.std.proofs.Common.{◌≡◌, ℕ, ◌⊎◌, inl, inr, true, false, List, [], Some, refl, sym, ap, ◌∙◌, subst}
use Rattle.std.specs.List.{Contains}
use Rattle.std.specs.Prelude.{◌==◌, ◌&&◌}
use Rattle.std.proofs.lemmas.Bool.{cases_Bool, and_parts, and_from}
use Rattle.zac_arch.specs.Architecture.{Architecture}
use Rattle.zac_group.specs.Moves.{source_x, source_y}
use Rattle.zac_group.specs.declared.shift.Shift.{Shift}
use Rattle.zair_form.specs.declared.step.Beam.{Beam}
use Rattle.zair_state.specs.Legal.{IsLegal, CarriesOverEmptyTrap, ListsActive}
use Rattle.zair_state.specs.Result.{after, with_beams}
use Rattle.zair_state.specs.State.{State, Beams, IsAt, IsClear, ArePlaced, crossing, EachCrossing}
use Rattle.zair_state.specs.declared.place.Place.TheVariants.{Trap}
use Rattle.zair_state.proofs.Changing.{changes_of}
use Rattle.zair_state.proofs.Membership.{all_from_contains}
use Rattle.zac_aod.specs.Lines.{rows_of, columns_of}
use Rattle.zac_aod.specs.Lowering.{Leg, move_to}
use Rattle.zac_aod.specs.Soundness.{IsUndisturbed, IsAtStage}
use Rattle.zac_aod.specs.Stages.{is_loaded, is_column_active, place_at, row_at, column_at, rows_at, columns_at}
use Rattle.zac_aod.proofs.BeamFacts.{rising_over, listed_anew}
use Rattle.zac_aod.specs.CardLaws.{CardLaws, Grouped}
use Rattle.zac_aod.proofs.LineFacts.{atom_of_row}
use Rattle.zac_aod.proofs.OverTraps.{crossings_legal, held_at, rests_at, atom_at}
use Rattle.zac_aod.proofs.StageBeams.{lists_over, rows_are_placed, columns_are_placed}
use Rattle.zac_aod.proofs.StageFacts.{trap_at}
use Rattle.zac_aod.proofs.Tests.{same_tests, any_implies}
use Rattle.zac_aod.specs.declared.line.Line.{Line}
use Rattle.zac_aod.specs.declared.stage.Stage.{Stage}

-- the step of the leg is legal at the stage before it, and leads to the leg's stage
abbrev pub Leads : Architecture → List Shift → ℕ → Stage → Leg → Type 0
Leads a shifts aod before leg =
    (s : State) → IsUndisturbed a shifts aod s → IsAtStage a shifts aod before s → IsLegal a s leg.step × IsAtStage a shifts aod leg.stage (after s leg.step)

-- the same rows are loaded at both stages, and the other atoms rest in the same traps
pub record SameLines (a : Architecture) (shifts : List Shift) (before next : Stage) : Type 0 where
  pub loaded : (m : Shift) → Contains shifts m → is_loaded before (source_y a m) ≡ is_loaded next (source_y a m)
  pub kept : (m : Shift) → Contains shifts m → is_loaded next (source_y a m) ≡ false → trap_at before m ≡ trap_at next m

same_place : (a : Architecture) (shifts : List Shift) (aod : ℕ) (before next : Stage) → SameLines a shifts before next → (m : Shift) → Contains shifts m → place_at a shifts aod before m ≡ place_at a shifts aod next m
same_place a shifts aod before next same m c = elim (cases_Bool (is_loaded next (source_y a m))) [
  | inl on ↦ held_at a shifts aod before m (same.loaded m c ∙ on) ∙ sym (held_at a shifts aod next m on)
  | inr off ↦ rests_at a shifts aod before m (same.loaded m c ∙ off) ∙ ap Trap (same.kept m c off) ∙ sym (rests_at a shifts aod next m off)
]

same_rows : (a : Architecture) (shifts : List Shift) (before next : Stage) → SameLines a shifts before next → (l : Line) → Contains (rows_of a shifts) l → is_loaded before l.from ≡ is_loaded next l.from
same_rows a shifts before next same l c =
    let m = atom_of_row a shifts l c in
    subst (λ (x : Line). is_loaded before x.from ≡ is_loaded next x.from) m.2 (same.loaded m.0 m.1)

columns_stay : (a : Architecture) (shifts : List Shift) (before next : Stage) → ((m : Shift) → Contains shifts m → is_loaded before (source_y a m) ≡ is_loaded next (source_y a m))
    → (l : Line) → is_column_active a shifts before l ≡ true → is_column_active a shifts next l ≡ true
columns_stay a shifts before next same l =
    any_implies (λ (s : Shift). is_loaded before (source_y a s) && source_x a s == l.from) (λ (s : Shift). is_loaded next (source_y a s) && source_x a s == l.from) shifts (λ s c e.
    let parts = and_parts (is_loaded before (source_y a s)) (source_x a s == l.from) e in
    and_from (is_loaded next (source_y a s)) (source_x a s == l.from) (sym (same s c) ∙ parts.0) parts.1)

same_columns : (a : Architecture) (shifts : List Shift) (before next : Stage) → SameLines a shifts before next → (l : Line) → is_column_active a shifts before l ≡ is_column_active a shifts next l
same_columns a shifts before next same l =
    same_tests (is_column_active a shifts before l) (is_column_active a shifts next l)
    (columns_stay a shifts before next same.loaded l)
    (columns_stay a shifts next before (λ m c. sym (same.loaded m c)) l)

rows_anew : (a : Architecture) (shifts : List Shift) (stage : Stage) → with_beams (rows_at a shifts stage) [] ≡ rows_at a shifts stage
rows_anew a shifts stage = listed_anew (rows_at a shifts stage) (rising_over (λ (l : Line). is_loaded stage l.from) (row_at a stage) 0 (rows_of a shifts))

columns_anew : (a : Architecture) (shifts : List Shift) (stage : Stage) → with_beams (columns_at a shifts stage) [] ≡ columns_at a shifts stage
columns_anew a shifts stage = listed_anew (columns_at a shifts stage) (rising_over (is_column_active a shifts stage) (column_at a shifts stage) 0 (columns_of a shifts))

move_legal : (a : Architecture) → CardLaws a → (shifts : List Shift) → Grouped a shifts → (aod : ℕ) (before next : Stage) → SameLines a shifts before next
    → (s : State) → IsUndisturbed a shifts aod s → IsAtStage a shifts aod before s → IsLegal a s (move_to a shifts aod next)
move_legal a laws shifts g aod before next same s u h =
    let cross : (rows columns : List Beam) → rows ≡ rows_at a shifts next → columns ≡ columns_at a shifts next → EachCrossing rows columns (λ row column. IsClear a s aod (crossing row column) ⊎ CarriesOverEmptyTrap a s aod row column) =
    λ rows columns er ec. subst (λ (r : List Beam). EachCrossing r columns (λ row column. IsClear a s aod (crossing row column) ⊎ CarriesOverEmptyTrap a s aod row column)) (sym er)
    (subst (λ (c : List Beam). EachCrossing (rows_at a shifts next) c (λ row column. IsClear a s aod (crossing row column) ⊎ CarriesOverEmptyTrap a s aod row column)) (sym ec)
    (crossings_legal a shifts laws g aod before next s u h same.loaded)) in
    record {
      known = u.known;
      rows_listed = subst (λ (b : Beams). ListsActive (rows_at a shifts next) b.rows) (sym h.beams)
          (lists_over (λ (l : Line). is_loaded next l.from) (λ (l : Line). is_loaded before l.from) (row_at a next) (row_at a before) (rows_of a shifts) (λ l c. sym (same_rows a shifts before next same l c)));
      columns_listed = subst (λ (b : Beams). ListsActive (columns_at a shifts next) b.columns) (sym h.beams)
          (lists_over (is_column_active a shifts next) (is_column_active a shifts before) (column_at a shifts next) (column_at a shifts before) (columns_of a shifts) (λ l c. sym (same_columns a shifts before next same l)));
      rows_placed = subst (ArePlaced a.figures.gap) (sym (rows_anew a shifts next)) (rows_are_placed a shifts laws g next);
      columns_placed = subst (ArePlaced a.figures.gap) (sym (columns_anew a shifts next)) (columns_are_placed a shifts laws g next);
      crossings = cross (with_beams (rows_at a shifts next) []) (with_beams (columns_at a shifts next) []) (rows_anew a shifts next) (columns_anew a shifts next);
    }

move_result : (a : Architecture) (shifts : List Shift) (aod : ℕ) (before next : Stage) → SameLines a shifts before next
    → (s : State) → IsUndisturbed a shifts aod s → IsAtStage a shifts aod before s → IsAtStage a shifts aod next (after s (move_to a shifts aod next))
move_result a shifts aod before next same s u h = record {
  beams = (changes_of s (after s (move_to a shifts aod next)) aod (record { rows = with_beams (rows_at a shifts next) []; columns = with_beams (columns_at a shifts next) [] }) u.known refl).there
      ∙ (λ i. record { rows = rows_anew a shifts next i; columns = columns_anew a shifts next i });
  atoms = all_from_contains (λ (m : Shift). IsAt (after s (move_to a shifts aod next)) m.q (place_at a shifts aod next m)) shifts (λ m c.
      atom_at a shifts aod before s h m c ∙ ap Some (same_place a shifts aod before next same m c));
  own = h.own;
}

pub move_leads : (a : Architecture) → CardLaws a → (shifts : List Shift) → Grouped a shifts → (aod : ℕ) (before next : Stage) → SameLines a shifts before next
    → Leads a shifts aod before (record { step = move_to a shifts aod next; stage = next })
move_leads a laws shifts g aod before next same s u h = (move_legal a laws shifts g aod before next same s u h, move_result a shifts aod before next same s u h)
