-- Loading a row is legal where the rows before it are loaded and parked.
use Rattle.std.proofs.Common.{◌≡◌, ◌≢◌, ℕ, ◌<◌, ◌≤◌, ◌⊎◌, inl, inr, Bool, true, false, not, List, Some, map, refl, sym, ap, ◌∙◌, subst, arith}
use Rattle.std.specs.List.{AllPairs, Any, Contains}
use Rattle.std.specs.Prelude.{◌==◌, ◌&&◌, ◌||◌, nat_lt, nat_le}
use Rattle.std.proofs.lemmas.Bool.{cases_eq, cases_lt, and_parts, and_from, or_cases, or_left, or_right, eqb-true, eq-eqb, ltb-true, lt-ltb, le-ltb, leb-true, le-leb, lt-leb, not-true}
use Rattle.std.proofs.lemmas.Bool.{cond-false}
use Rattle.std.proofs.lemmas.List.Kept.{AllPairs-filter}
use Rattle.zac_arch.specs.Architecture.{Architecture, StandsAt}
use Rattle.zac_group.specs.Moves.{source_x, source_y}
use Rattle.zac_group.specs.declared.shift.Shift.{Shift}
use Rattle.zair_form.specs.declared.step.Beam.{Beam}
use Rattle.zair_form.specs.declared.step.Caught.{Caught}
use Rattle.zair_state.specs.Legal.{IsLegal, IsLegalActivate, AreFresh, Picks}
use Rattle.zair_state.specs.Result.{after, with_beams}
use Rattle.zair_state.specs.State.{State, Beams, IsAt, IsClear, HasId, beams_of, crossing, EachCrossing}
use Rattle.zair_state.specs.declared.place.Place.TheVariants.{Trap, Held}
use Rattle.zair_state.proofs.Changing.{changes_of}
use Rattle.zair_state.proofs.Membership.{all_from_contains, contains_map, contained_in_map, contains_filter, contained_in_filter, any_from_contained}
use Rattle.zair_state.proofs.Placing.{IsCaught, not_caught_stays, caught_is_held, after_catching_at}
use Rattle.zac_aod.specs.Lines.{rows_of, columns_of, number_of, has_atom}
use Rattle.zac_aod.specs.Lowering.{catch_row, caught, moves_of_row, is_used_before}
use Rattle.zac_aod.specs.Soundness.{IsUndisturbed, IsAtStage}
use Rattle.zac_aod.specs.declared.stage.Stage.TheVariants as stage
use Rattle.zac_aod.specs.Stages.{is_loaded, is_over_targets, is_column_active, place_at, row_at, column_at, rows_at, columns_at, beams_over}
use Rattle.zac_aod.proofs.BeamFacts.{beam_of, has_beam, joined_over, one_line}
use Rattle.zac_aod.specs.CardLaws.{CardLaws, Grouped}
use Rattle.zac_aod.proofs.GridFacts.{source_stands}
use Rattle.zac_aod.proofs.LineFacts.{rows_rise, columns_rise, row_of, column_of, has_row, has_column, one_move}
use Rattle.zac_aod.proofs.MoveLegal.{Leads}
use Rattle.zac_aod.proofs.OverTraps.{free_at, clear_at, same_qubit, held_at, rests_at, atom_at}
use Rattle.zac_aod.proofs.StageBeams.{fresh_over, id_of_line, rows_are_few, columns_are_few, rows_are_placed, columns_are_placed}
use Rattle.zac_aod.proofs.StageFacts.{trap_at, at_crossings}
use Rattle.zac_aod.proofs.Tests.{same_tests, passes_at, any_implies, any_either, new_or_old, pairs_among, pairs_map, in_its_place}
use Rattle.zac_aod.specs.declared.line.Line.{Line}
use Rattle.zac_aod.specs.declared.stage.Stage.{Stage}

-- at this stage the rows before this one are loaded, and no other; they stand where they stand while this one is loaded
pub record IsBefore (a : Architecture) (shifts : List Shift) (before : Stage) (y : ℕ) : Type 0 where
  pub loaded : (l : Line) → Contains (rows_of a shifts) l → is_loaded before l.from ≡ nat_lt l.from y
  pub at_sources : is_over_targets before ≡ false
  pub rows_stand : (l : Line) → Contains (rows_of a shifts) l → is_loaded before l.from ≡ true → row_at a before l ≡ row_at a (stage.Caught y) l
  pub columns_stand : (l : Line) → Contains (columns_of a shifts) l → is_column_active a shifts before l ≡ true → column_at a shifts before l ≡ column_at a shifts (stage.Caught y) l

-- the row's beam and the columns that are switched on with it
abbrev pub new_rows : Architecture → List Shift → ℕ → List Beam
new_rows a shifts y = beams_over (λ l. l.from == y) (λ l. l.from) 0 (rows_of a shifts)

abbrev pub is_new_column : Architecture → List Shift → ℕ → Line → Bool
is_new_column a shifts y l = has_atom a shifts y l.from && not (is_used_before a shifts y l)

abbrev pub new_columns : Architecture → List Shift → ℕ → List Beam
new_columns a shifts y = beams_over (is_new_column a shifts y) (λ l. l.from) 0 (columns_of a shifts)

abbrev pub atoms_of_row : Architecture → List Shift → ℕ → List Caught
atoms_of_row a shifts y = map (caught a shifts) (moves_of_row a shifts y)

loaded_before : (a : Architecture) (shifts : List Shift) → Grouped a shifts → (before : Stage) (y : ℕ) → IsBefore a shifts before y → (m : Shift) → Contains shifts m → is_loaded before (source_y a m) ≡ nat_lt (source_y a m) y
loaded_before a shifts g before y h m c = h.loaded (row_of a m) (has_row a shifts g m c)

either_row : (n y : ℕ) → nat_le n y ≡ ((n == y) || nat_lt n y)
either_row n y =
    same_tests (nat_le n y) ((n == y) || nat_lt n y)
    (λ e.
    let le : n ≤ y = leb-true n y e in
    elim (cases_eq n y) [
      | inl same ↦ or_left (n == y) (nat_lt n y) (eq-eqb n y same)
      | inr ne ↦ or_right (n == y) (nat_lt n y) (lt-ltb n y (less n y le ne))
    ])
    (λ e. elim (or_cases (n == y) (nat_lt n y) e) [
      | inl s ↦ let same : n ≡ y = eqb-true n y s in le-leb n y (omega arith)
      | inr l ↦ let lt : n < y = ltb-true n y l in le-leb n y (omega arith)
    ])
  where
    less : (n y : ℕ) → n ≤ y → n ≢ y → n < y
    less n y le ne = omega arith

not_before : (n y : ℕ) → (n == y) ≡ true → nat_lt n y ≡ false
not_before n y e = let same : n ≡ y = eqb-true n y e in le-ltb n y (omega arith)

-- a column is active before the row exactly where it is used before it
used_before : (a : Architecture) (shifts : List Shift) → Grouped a shifts → (before : Stage) (y : ℕ) → IsBefore a shifts before y → (l : Line) → is_column_active a shifts before l ≡ is_used_before a shifts y l
used_before a shifts g before y h l =
    same_tests (is_column_active a shifts before l) (is_used_before a shifts y l)
    (any_implies (λ (s : Shift). is_loaded before (source_y a s) && source_x a s == l.from) (λ (s : Shift). nat_lt (source_y a s) y && source_x a s == l.from) shifts (λ s c e.
    let parts = and_parts (is_loaded before (source_y a s)) (source_x a s == l.from) e in
    and_from (nat_lt (source_y a s) y) (source_x a s == l.from) (sym (loaded_before a shifts g before y h s c) ∙ parts.0) parts.1))
    (any_implies (λ (s : Shift). nat_lt (source_y a s) y && source_x a s == l.from) (λ (s : Shift). is_loaded before (source_y a s) && source_x a s == l.from) shifts (λ s c e.
    let parts = and_parts (nat_lt (source_y a s) y) (source_x a s == l.from) e in
    and_from (is_loaded before (source_y a s)) (source_x a s == l.from) (loaded_before a shifts g before y h s c ∙ parts.0) parts.1))

active_caught : (a : Architecture) (shifts : List Shift) (y : ℕ) (l : Line) → is_column_active a shifts (stage.Caught y) l ≡ (has_atom a shifts y l.from || is_used_before a shifts y l)
active_caught a shifts y l =
    any_either (λ (s : Shift). nat_le (source_y a s) y && source_x a s == l.from) (λ (s : Shift). source_y a s == y && source_x a s == l.from) (λ (s : Shift). nat_lt (source_y a s) y && source_x a s == l.from) shifts
    (λ s c e.
    let parts = and_parts (nat_le (source_y a s) y) (source_x a s == l.from) e in
    elim (or_cases (source_y a s == y) (nat_lt (source_y a s) y) (sym (either_row (source_y a s) y) ∙ parts.0)) [
      | inl t ↦ inl (and_from (source_y a s == y) (source_x a s == l.from) t parts.1)
      | inr t ↦ inr (and_from (nat_lt (source_y a s) y) (source_x a s == l.from) t parts.1)
    ])
    (λ s c e.
    let parts = and_parts (source_y a s == y) (source_x a s == l.from) e in
    and_from (nat_le (source_y a s) y) (source_x a s == l.from) (either_row (source_y a s) y ∙ or_left (source_y a s == y) (nat_lt (source_y a s) y) parts.0) parts.1)
    (λ s c e.
    let parts = and_parts (nat_lt (source_y a s) y) (source_x a s == l.from) e in
    and_from (nat_le (source_y a s) y) (source_x a s == l.from) (either_row (source_y a s) y ∙ or_right (source_y a s == y) (nat_lt (source_y a s) y) parts.0) parts.1)

either_column : (a : Architecture) (shifts : List Shift) → Grouped a shifts → (before : Stage) (y : ℕ) → IsBefore a shifts before y → (l : Line) → is_column_active a shifts (stage.Caught y) l ≡ (is_new_column a shifts y l || is_column_active a shifts before l)
either_column a shifts g before y h l =
    active_caught a shifts y l
    ∙ new_or_old (has_atom a shifts y l.from) (is_used_before a shifts y l)
    ∙ ap (λ (t : Bool). is_new_column a shifts y l || t) (sym (used_before a shifts g before y h l))

new_column_inactive : (a : Architecture) (shifts : List Shift) → Grouped a shifts → (before : Stage) (y : ℕ) → IsBefore a shifts before y → (l : Line) → is_new_column a shifts y l ≡ true → is_column_active a shifts before l ≡ false
new_column_inactive a shifts g before y h l e =
    used_before a shifts g before y h l ∙ not-true (is_used_before a shifts y l) (and_parts (has_atom a shifts y l.from) (not (is_used_before a shifts y l)) e).1

rows_joined : (a : Architecture) (shifts : List Shift) (before : Stage) (y : ℕ) → IsBefore a shifts before y → with_beams (new_rows a shifts y) (rows_at a shifts before) ≡ rows_at a shifts (stage.Caught y)
rows_joined a shifts before y h =
    joined_over (λ (l : Line). l.from == y) (λ (l : Line). is_loaded before l.from) (λ (l : Line). nat_le l.from y) (λ (l : Line). l.from) (row_at a before) (row_at a (stage.Caught y)) (rows_of a shifts) (rows_rise a shifts)
    (λ l c. either_row l.from y ∙ ap (λ (t : Bool). (l.from == y) || t) (sym (h.loaded l c)))
    (λ l c e. h.loaded l c ∙ not_before l.from y e)
    (λ l c e. sym (in_its_place l.from a.figures.park (l.from == y) e))
    h.rows_stand

columns_joined : (a : Architecture) (shifts : List Shift) → Grouped a shifts → (before : Stage) (y : ℕ) → IsBefore a shifts before y → with_beams (new_columns a shifts y) (columns_at a shifts before) ≡ columns_at a shifts (stage.Caught y)
columns_joined a shifts g before y h =
    joined_over (is_new_column a shifts y) (is_column_active a shifts before) (is_column_active a shifts (stage.Caught y)) (λ (l : Line). l.from) (column_at a shifts before) (column_at a shifts (stage.Caught y)) (columns_of a shifts) (columns_rise a shifts)
    (λ l c. either_column a shifts g before y h l)
    (λ l c e. new_column_inactive a shifts g before y h l e)
    (λ l c e. sym (in_its_place l.from a.figures.park (has_atom a shifts y l.from) (and_parts (has_atom a shifts y l.from) (not (is_used_before a shifts y l)) e).0))
    h.columns_stand

-- a move of the row, behind an atom that is listed
pub record FromRow (a : Architecture) (shifts : List Shift) (y : ℕ) (c : Caught) : Type 0 where
  pub move : Shift
  pub among : Contains shifts move
  pub starts : source_y a move ≡ y
  pub is : caught a shifts move ≡ c

from_row : (a : Architecture) (shifts : List Shift) (y : ℕ) (c : Caught) → Contains (atoms_of_row a shifts y) c → FromRow a shifts y c
from_row a shifts y c h =
    let m = contained_in_map (caught a shifts) (moves_of_row a shifts y) c h in
    let kept = contained_in_filter (λ (s : Shift). source_y a s == y) shifts m.0 m.1 in
    record { move = m.0; among = kept.0; starts = eqb-true (source_y a m.0) y kept.1; is = m.2 }

in_row : (a : Architecture) (shifts : List Shift) (y : ℕ) (m : Shift) → Contains shifts m → source_y a m ≡ y → Contains (atoms_of_row a shifts y) (caught a shifts m)
in_row a shifts y m c e = contains_map (caught a shifts) (moves_of_row a shifts y) m (contains_filter (λ (s : Shift). source_y a s == y) shifts m c (eq-eqb (source_y a m) y e))

unloaded_yet : (a : Architecture) (shifts : List Shift) → Grouped a shifts → (before : Stage) (y : ℕ) → IsBefore a shifts before y → (m : Shift) → Contains shifts m → source_y a m ≡ y → is_loaded before (source_y a m) ≡ false
unloaded_yet a shifts g before y h m c e = loaded_before a shifts g before y h m c ∙ le-ltb (source_y a m) y (omega arith)

at_its_source : (a : Architecture) (shifts : List Shift) (before : Stage) (y : ℕ) → IsBefore a shifts before y → (m : Shift) → trap_at before m ≡ m.from
at_its_source a shifts before y h m = cond-false (is_over_targets before) m.to m.from h.at_sources

has_row_beam : (a : Architecture) (shifts : List Shift) → Grouped a shifts → (y : ℕ) (m : Shift) → Contains shifts m → source_y a m ≡ y → Contains (rows_at a shifts (stage.Caught y)) (beam_of (rows_of a shifts) (row_at a (stage.Caught y)) (row_of a m))
has_row_beam a shifts g y m c e =
    has_beam (λ (l : Line). nat_le l.from y) (row_at a (stage.Caught y)) (rows_of a shifts) (rows_rise a shifts) (row_of a m) (has_row a shifts g m c) (le-leb (source_y a m) y (omega arith))

has_column_beam : (a : Architecture) (shifts : List Shift) → Grouped a shifts → (y : ℕ) (m : Shift) → Contains shifts m → source_y a m ≡ y → Contains (columns_at a shifts (stage.Caught y)) (beam_of (columns_of a shifts) (column_at a shifts (stage.Caught y)) (column_of a m))
has_column_beam a shifts g y m c e =
    has_beam (is_column_active a shifts (stage.Caught y)) (column_at a shifts (stage.Caught y)) (columns_of a shifts) (columns_rise a shifts) (column_of a m) (has_column a shifts g m c)
    (passes_at (λ (s : Shift). nat_le (source_y a s) y && source_x a s == source_x a m) shifts m c
    (and_from (nat_le (source_y a m) y) (source_x a m == source_x a m) (le-leb (source_y a m) y (omega arith)) (eq-eqb (source_x a m) (source_x a m) refl)))

pub atom_in_row : (a : Architecture) (shifts : List Shift) (y : ℕ) (m : Shift) → Contains shifts m → source_y a m ≡ y → has_atom a shifts y (source_x a m) ≡ true
atom_in_row a shifts y m c e =
    passes_at (λ (s : Shift). source_y a s == y && source_x a s == source_x a m) shifts m c
    (and_from (source_y a m == y) (source_x a m == source_x a m) (eq-eqb (source_y a m) y e) (eq-eqb (source_x a m) (source_x a m) refl))

picked : (a : Architecture) → CardLaws a → (shifts : List Shift) → Grouped a shifts → (aod : ℕ) (before : Stage) (y : ℕ) → IsBefore a shifts before y
    → (s : State) → IsUndisturbed a shifts aod s → IsAtStage a shifts aod before s → (m : Shift) → Contains shifts m → source_y a m ≡ y
    → Picks a s aod (new_rows a shifts y) (new_columns a shifts y) (rows_at a shifts (stage.Caught y)) (columns_at a shifts (stage.Caught y)) (caught a shifts m)
picked a laws shifts g aod before y h s u at m c e =
    let row = beam_of (rows_of a shifts) (row_at a (stage.Caught y)) (row_of a m) in
    let column = beam_of (columns_of a shifts) (column_at a shifts (stage.Caught y)) (column_of a m) in
    let in_rows = has_row_beam a shifts g y m c e in
    let in_columns = has_column_beam a shifts g y m c e in
    let at_y = in_its_place (source_y a m) a.figures.park (source_y a m == y) (eq-eqb (source_y a m) y e) in
    let at_x = in_its_place (source_x a m) a.figures.park (has_atom a shifts y (source_x a m)) (atom_in_row a shifts y m c e) in
    record {
      row = row;
      column = column;
      row_active = in_rows;
      column_active = in_columns;
      row_named = refl;
      column_named = refl;
      new = inl (id_of_line (λ (l : Line). l.from == y) (λ (l : Line). l.from) (rows_of a shifts) (rows_rise a shifts) (row_of a m) (has_row a shifts g m c) (eq-eqb (source_y a m) y e));
      trap = m.from;
      rests = atom_at a shifts aod before s at m c
          ∙ ap Some (rests_at a shifts aod before m (unloaded_yet a shifts g before y h m c e) ∙ ap Trap (at_its_source a shifts before y h m));
      exact = subst (λ (x : ℕ). StandsAt a m.from.0 (record { x = x; y = row_at a (stage.Caught y) (row_of a m) })) (sym at_x)
          (subst (λ (z : ℕ). StandsAt a m.from.0 (record { x = source_x a m; y = z })) (sym at_y) (source_stands a shifts laws g m c));
      free = free_at a shifts aod s u.apart (crossing row column) (at_crossings a shifts laws g (stage.Caught y) row column in_rows in_columns).at_grids;
    }

-- two moves with the same row and the same column are one
pub same_numbers : (a : Architecture) (shifts : List Shift) → Grouped a shifts → (s t : Shift) → Contains shifts s → Contains shifts t
    → number_of (rows_of a shifts) (source_y a s) ≡ number_of (rows_of a shifts) (source_y a t) → number_of (columns_of a shifts) (source_x a s) ≡ number_of (columns_of a shifts) (source_x a t) → s ≡ t
same_numbers a shifts g s t c d er ec =
    let row : row_of a s ≡ row_of a t = one_line (rows_of a shifts) (rows_rise a shifts) (row_of a s) (row_of a t) (has_row a shifts g s c) (has_row a shifts g t d) er in
    let column : column_of a s ≡ column_of a t = one_line (columns_of a shifts) (columns_rise a shifts) (column_of a s) (column_of a t) (has_column a shifts g s c) (has_column a shifts g t d) ec in
    one_move a shifts g s t c d (ap (λ (l : Line). l.from) row) (ap (λ (l : Line). l.from) column)

abbrev pub AreOther : Caught → Caught → Type 0
AreOther c d = (c.q ≢ d.q) × ¬ ((c.row ≡ d.row) × (c.column ≡ d.column))

listed_once : (a : Architecture) (shifts : List Shift) → Grouped a shifts → (y : ℕ) → AllPairs AreOther (atoms_of_row a shifts y)
listed_once a shifts g y =
    pairs_map Shift Caught AreOther (caught a shifts) (moves_of_row a shifts y)
    (pairs_among Shift (λ (s t : Shift). s.q ≢ t.q) (λ (s t : Shift). AreOther (caught a shifts s) (caught a shifts t)) (moves_of_row a shifts y)
    (λ s t c d ne. (
      ne,
      λ same. ne (ap (λ (x : Shift). x.q) (same_numbers a shifts g s t (contained_in_filter (λ (m : Shift). source_y a m == y) shifts s c).0 (contained_in_filter (λ (m : Shift). source_y a m == y) shifts t d).0 same.0 same.1)),
    ))
    (AllPairs-filter (λ (s t : Shift). s.q ≢ t.q) (λ (m : Shift). source_y a m == y) shifts g.phase.qubits))

others_clear : (a : Architecture) → CardLaws a → (shifts : List Shift) → Grouped a shifts → (aod y : ℕ) (s : State) → IsUndisturbed a shifts aod s
    → EachCrossing (rows_at a shifts (stage.Caught y)) (columns_at a shifts (stage.Caught y)) (λ row column. HasId (new_rows a shifts y) row.id ⊎ HasId (new_columns a shifts y) column.id →
    ¬ Any (λ c. (c.row ≡ row.id) × (c.column ≡ column.id)) (atoms_of_row a shifts y) → IsClear a s aod (crossing row column))
others_clear a laws shifts g aod y s u row column in_rows in_columns new unlisted =
    let at = at_crossings a shifts laws g (stage.Caught y) row column in_rows in_columns in
    elim at.how [
      | inl parked ↦ clear_at a shifts laws aod s u.apart (crossing row column) at.at_grids parked
      | inr one ↦ absurd (unlisted (any_from_contained (λ (c : Caught). (c.row ≡ row.id) × (c.column ≡ column.id)) (atoms_of_row a shifts y) (caught a shifts one.move)
          (in_row a shifts y one.move one.among (eqb-true (source_y a one.move) y one.in_place)) (one.row_is, one.column_is)))
    ]

rows_become : (a : Architecture) (shifts : List Shift) (aod : ℕ) (before : Stage) (y : ℕ) → IsBefore a shifts before y → (s : State) → IsAtStage a shifts aod before s
    → with_beams (new_rows a shifts y) (beams_of s aod).rows ≡ rows_at a shifts (stage.Caught y)
rows_become a shifts aod before y h s at = ap (λ (b : Beams). with_beams (new_rows a shifts y) b.rows) at.beams ∙ rows_joined a shifts before y h

columns_become : (a : Architecture) (shifts : List Shift) → Grouped a shifts → (aod : ℕ) (before : Stage) (y : ℕ) → IsBefore a shifts before y → (s : State) → IsAtStage a shifts aod before s
    → with_beams (new_columns a shifts y) (beams_of s aod).columns ≡ columns_at a shifts (stage.Caught y)
columns_become a shifts g aod before y h s at = ap (λ (b : Beams). with_beams (new_columns a shifts y) b.columns) at.beams ∙ columns_joined a shifts g before y h

catch_legal : (a : Architecture) → CardLaws a → (shifts : List Shift) → Grouped a shifts → (aod : ℕ) (before : Stage) (y : ℕ) → IsBefore a shifts before y
    → (s : State) → IsUndisturbed a shifts aod s → IsAtStage a shifts aod before s → IsLegal a s (catch_row a shifts aod y)
catch_legal a laws shifts g aod before y h s u at =
    subst (λ (rows : List Beam). IsLegalActivate a s aod (new_rows a shifts y) (new_columns a shifts y) rows (with_beams (new_columns a shifts y) (beams_of s aod).columns) (atoms_of_row a shifts y))
    (sym (rows_become a shifts aod before y h s at))
    (subst (λ (columns : List Beam). IsLegalActivate a s aod (new_rows a shifts y) (new_columns a shifts y) (rows_at a shifts (stage.Caught y)) columns (atoms_of_row a shifts y))
    (sym (columns_become a shifts g aod before y h s at))
    (record {
      known = u.known;
      rows_fresh = subst (λ (b : Beams). AreFresh (new_rows a shifts y) b.rows) (sym at.beams)
          (fresh_over (λ (l : Line). l.from == y) (λ (l : Line). is_loaded before l.from) (λ (l : Line). l.from) (row_at a before) (rows_of a shifts) (rows_rise a shifts) (λ l c e. h.loaded l c ∙ not_before l.from y e));
      columns_fresh = subst (λ (b : Beams). AreFresh (new_columns a shifts y) b.columns) (sym at.beams)
          (fresh_over (is_new_column a shifts y) (is_column_active a shifts before) (λ (l : Line). l.from) (column_at a shifts before) (columns_of a shifts) (columns_rise a shifts) (λ l c e. new_column_inactive a shifts g before y h l e));
      few_rows = rows_are_few a shifts g (stage.Caught y);
      few_columns = columns_are_few a shifts g (stage.Caught y);
      rows_placed = rows_are_placed a shifts laws g (stage.Caught y);
      columns_placed = columns_are_placed a shifts laws g (stage.Caught y);
      picks = all_from_contains (Picks a s aod (new_rows a shifts y) (new_columns a shifts y) (rows_at a shifts (stage.Caught y)) (columns_at a shifts (stage.Caught y))) (atoms_of_row a shifts y) (λ c in_atoms.
          let f = from_row a shifts y c in_atoms in
          subst (Picks a s aod (new_rows a shifts y) (new_columns a shifts y) (rows_at a shifts (stage.Caught y)) (columns_at a shifts (stage.Caught y))) f.is
          (picked a laws shifts g aod before y h s u at f.move f.among f.starts));
      once = listed_once a shifts g y;
      clear = others_clear a laws shifts g aod y s u;
    }))

-- a move of another row isn't listed
pub not_listed : (a : Architecture) (shifts : List Shift) → Grouped a shifts → (y : ℕ) (m : Shift) → Contains shifts m → source_y a m ≢ y → ¬ IsCaught (atoms_of_row a shifts y) m.q
not_listed a shifts g y m c ne listed =
    let f = from_row a shifts y listed.0 listed.1 in
    let same : f.move ≡ m = same_qubit a shifts g f.move m f.among c (ap (λ (x : Caught). x.q) f.is ∙ listed.2) in
    ne (subst (λ (x : Shift). source_y a x ≡ y) same f.starts)

stays_put : (a : Architecture) (shifts : List Shift) → Grouped a shifts → (aod : ℕ) (before : Stage) (y : ℕ) → IsBefore a shifts before y → (m : Shift) → Contains shifts m → source_y a m ≢ y
    → place_at a shifts aod before m ≡ place_at a shifts aod (stage.Caught y) m
stays_put a shifts g aod before y h m c ne = elim (cases_lt (source_y a m) y) [
  | inl lt ↦
      held_at a shifts aod before m (loaded_before a shifts g before y h m c ∙ lt-ltb (source_y a m) y lt)
      ∙ sym (held_at a shifts aod (stage.Caught y) m (le-leb (source_y a m) y (omega arith)))
  | inr le ↦
      rests_at a shifts aod before m (loaded_before a shifts g before y h m c ∙ le-ltb (source_y a m) y le)
      ∙ ap Trap (at_its_source a shifts before y h m)
      ∙ sym (rests_at a shifts aod (stage.Caught y) m (lt-leb (source_y a m) y (above (source_y a m) y le ne)))
]
  where
    above : (n y : ℕ) → y ≤ n → n ≢ y → y < n
    above n y le ne = omega arith

atom_after : (a : Architecture) (shifts : List Shift) → Grouped a shifts → (aod : ℕ) (before : Stage) (y : ℕ) → IsBefore a shifts before y
    → (s : State) → IsAtStage a shifts aod before s → (m : Shift) → Contains shifts m → IsAt (after s (catch_row a shifts aod y)) m.q (place_at a shifts aod (stage.Caught y) m)
atom_after a shifts g aod before y h s at m c = elim (cases_eq (source_y a m) y) [
  | inl e ↦
      caught_is_held aod (atoms_of_row a shifts y) s.places (caught a shifts m) (place_at a shifts aod before m)
      (λ i j d lt within. (listed_once a shifts g y i j d lt within).0)
      (in_row a shifts y m c e)
      (atom_at a shifts aod before s at m c)
      ∙ ap Some (sym (held_at a shifts aod (stage.Caught y) m (le-leb (source_y a m) y (omega arith))))
  | inr ne ↦
      not_caught_stays aod (atoms_of_row a shifts y) s.places m.q (not_listed a shifts g y m c ne)
      ∙ atom_at a shifts aod before s at m c
      ∙ ap Some (stays_put a shifts g aod before y h m c ne)
]

catch_result : (a : Architecture) → CardLaws a → (shifts : List Shift) → Grouped a shifts → (aod : ℕ) (before : Stage) (y : ℕ) → IsBefore a shifts before y
    → (s : State) → IsUndisturbed a shifts aod s → IsAtStage a shifts aod before s → IsAtStage a shifts aod (stage.Caught y) (after s (catch_row a shifts aod y))
catch_result a laws shifts g aod before y h s u at = record {
  beams = (changes_of s (after s (catch_row a shifts aod y)) aod (record { rows = with_beams (new_rows a shifts y) (beams_of s aod).rows; columns = with_beams (new_columns a shifts y) (beams_of s aod).columns }) u.known refl).there
      ∙ (λ i. record { rows = rows_become a shifts aod before y h s at i; columns = columns_become a shifts g aod before y h s at i });
  atoms = all_from_contains (λ (m : Shift). IsAt (after s (catch_row a shifts aod y)) m.q (place_at a shifts aod (stage.Caught y) m)) shifts (atom_after a shifts g aod before y h s at);
  own = λ q row column held. elim (after_catching_at aod (atoms_of_row a shifts y) s.places q (Held aod row column) held) [
    | inl r ↦
        let f = from_row a shifts y r.0 r.1 in
        any_from_contained (λ (m : Shift). m.q ≡ q) shifts f.move f.among (ap (λ (x : Caught). x.q) f.is ∙ r.2)
    | inr r ↦ at.own q row column r.1
  ];
}

pub catch_leads : (a : Architecture) → CardLaws a → (shifts : List Shift) → Grouped a shifts → (aod : ℕ) (before : Stage) (y : ℕ) → IsBefore a shifts before y
    → Leads a shifts aod before (record { step = catch_row a shifts aod y; stage = stage.Caught y })
catch_leads a laws shifts g aod before y h s u at = (catch_legal a laws shifts g aod before y h s u at, catch_result a laws shifts g aod before y h s u at)
