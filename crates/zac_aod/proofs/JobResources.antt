-- The resources of a job: its AOD, the qubits of the moves, and the traps of the two grids.
use Rattle.std.proofs.Common.{◌≡◌, ℕ, inl, inr, Bool, true, not, Some, List, [], map, refl, sym, ap, ◌∙◌, subst, arith, eq-eqb, eqb-true}
use Rattle.std.specs.Prelude.{◌==◌, ◌&&◌, nat_le}
use Rattle.std.specs.List.{Any, Contains, flat_map}
use Rattle.std.proofs.lemmas.Bool.{and_parts, and_from, not_from_false, le-leb}
use Rattle.zac_arch.specs.Architecture.{Architecture}
use Rattle.zac_group.specs.Moves.{source_x, source_y}
use Rattle.zac_group.specs.declared.shift.Shift.{Shift}
use Rattle.zair_form.specs.Times.{last_at, rows_set, columns_set}
use Rattle.zair_form.specs.declared.step.Caught.{Caught}
use Rattle.zair_form.specs.declared.step.Dropped.{Dropped}
use Rattle.zair_form.specs.declared.step.Step.{Step}
use Rattle.zair_state.specs.Resources.{rows_on, columns_on, rows_off, columns_off, last_rows, last_columns, IsOnGrid, Carries}
use Rattle.zair_state.proofs.Membership.{contains_none, contains_map, contained_in_map, contains_filter, contained_in_filter, any_contained, any_from_contained}
use Rattle.zac_aod.specs.Lines.{rows_of, columns_of, number_of, has_atom}
use Rattle.zac_aod.specs.Lowering.{caught, dropped, moves_of_row, is_used_before, is_used_after, catch_row, job_steps}
use Rattle.zac_aod.specs.Resources.{HasResources}
use Rattle.zac_aod.specs.Stages.{is_loaded, is_column_active, row_at, column_at, rows_at, columns_at, beams_over}
use Rattle.zac_aod.specs.declared.line.Line.{Line}
use Rattle.zac_aod.specs.declared.stage.Stage.TheVariants as stage
use Rattle.zac_aod.proofs.BeamFacts.{beam_of, has_beam, rising_over}
use Rattle.zac_aod.proofs.BeamPlaces.{line_at, line_of_id, has_place, has_number}
use Rattle.zac_aod.specs.CardLaws.{Grouped}
use Rattle.zac_aod.proofs.ColumnUses.{first_use, last_use}
use Rattle.zac_aod.proofs.JobSteps.{Kind, catches, moves, drops, kind_of, catches_row}
use Rattle.zac_aod.proofs.LastPlaces.{lasts, last_rows_are, last_columns_are, given_once, Stood, in_job_lasts, has_job_lasts}
use Rattle.zac_aod.proofs.LineFacts.{rows_rise, columns_rise, row_of, has_row, atom_of_column}
use Rattle.zac_aod.proofs.LineLists.{Rise}
use Rattle.zac_aod.proofs.ListParts.{contained_in_flat_map, contains_flat_map}
use Rattle.zac_aod.proofs.Tests.{passing, passes_at, in_its_place}

-- a row or a column at the sources, and at the targets
abbrev Sources : List Line → ℕ → Type 0
Sources lines n = Contains (map (λ l. l.from) lines) n

abbrev Targets : List Line → ℕ → Type 0
Targets lines n = Contains (map (λ l. l.to) lines) n

source_of : (lines : List Line) (l : Line) (n : ℕ) → Contains lines l → l.from ≡ n → Sources lines n
source_of lines l n c e = subst (Sources lines) e (contains_map (λ (l : Line). l.from) lines l c)

-- rows and columns are switched on at their sources alone
row_on : (a : Architecture) (shifts : List Shift) (aod n : ℕ) → Contains (flat_map rows_on (job_steps a shifts aod)) n → Sources (rows_of a shifts) n
row_on a shifts aod n c =
    let s = contained_in_flat_map rows_on (job_steps a shifts aod) n c in
    by_kind s.0 (kind_of a shifts aod s.0 s.1) s.2
  where
    by_kind : (step : Step) → Kind a shifts aod (rows_of a shifts) step → Contains (rows_on step) n → Sources (rows_of a shifts) n
    by_kind step (catches r d e) on =
        let l = line_at (λ l. l.from == r.from) (λ l. l.from) (rows_of a shifts) (rows_rise a shifts) n (subst (λ (x : Step). Contains (rows_on x) n) (sym e) on) in
        source_of (rows_of a shifts) l.line n l.among l.holds
    by_kind step (moves stage e) on = absurd (contains_none n (subst (λ (x : Step). Contains (rows_on x) n) (sym e) on))
    by_kind step (drops r d e) on = absurd (contains_none n (subst (λ (x : Step). Contains (rows_on x) n) (sym e) on))

column_on : (a : Architecture) (shifts : List Shift) (aod n : ℕ) → Contains (flat_map columns_on (job_steps a shifts aod)) n → Sources (columns_of a shifts) n
column_on a shifts aod n c =
    let s = contained_in_flat_map columns_on (job_steps a shifts aod) n c in
    by_kind s.0 (kind_of a shifts aod s.0 s.1) s.2
  where
    by_kind : (step : Step) → Kind a shifts aod (rows_of a shifts) step → Contains (columns_on step) n → Sources (columns_of a shifts) n
    by_kind step (catches r d e) on =
        let l = line_at (λ l. has_atom a shifts r.from l.from && not (is_used_before a shifts r.from l)) (λ l. l.from) (columns_of a shifts) (columns_rise a shifts) n
        (subst (λ (x : Step). Contains (columns_on x) n) (sym e) on) in
        source_of (columns_of a shifts) l.line n l.among l.holds
    by_kind step (moves stage e) on = absurd (contains_none n (subst (λ (x : Step). Contains (columns_on x) n) (sym e) on))
    by_kind step (drops r d e) on = absurd (contains_none n (subst (λ (x : Step). Contains (columns_on x) n) (sym e) on))

-- and all of them are
on_row : (a : Architecture) (shifts : List Shift) (aod n : ℕ) → Sources (rows_of a shifts) n → Contains (flat_map rows_on (job_steps a shifts aod)) n
on_row a shifts aod n c =
    let l = contained_in_map (λ (l : Line). l.from) (rows_of a shifts) n c in
    subst (Contains (flat_map rows_on (job_steps a shifts aod))) l.2
    (contains_flat_map rows_on (job_steps a shifts aod) (catch_row a shifts aod l.0.from) l.0.from (catches_row a shifts aod l.0 l.1)
    (has_place (λ m. m.from == l.0.from) (λ m. m.from) (rows_of a shifts) (rows_rise a shifts) l.0 l.1 (eq-eqb l.0.from l.0.from refl)))

-- the row of a move has an atom in its column
move_in_both : (a : Architecture) (shifts : List Shift) (m : Shift) (l : Line) → Contains shifts m → source_x a m ≡ l.from → has_atom a shifts (source_y a m) l.from ≡ true
move_in_both a shifts m l c e =
    passes_at (λ s. source_y a s == source_y a m && source_x a s == l.from) shifts m c
    (and_from (source_y a m == source_y a m) (source_x a m == l.from) (eq-eqb (source_y a m) (source_y a m) refl) (eq-eqb (source_x a m) l.from e))

on_column : (a : Architecture) (shifts : List Shift) → Grouped a shifts → (aod n : ℕ) → Sources (columns_of a shifts) n → Contains (flat_map columns_on (job_steps a shifts aod)) n
on_column a shifts g aod n c =
    let l = contained_in_map (λ (l : Line). l.from) (columns_of a shifts) n c in
    let s = atom_of_column a shifts l.0 l.1 in
    let u = first_use a shifts l.0 s.0 s.1 (ap (λ (x : Line). x.from) s.2) in
    let row = source_y a u.move in
    let active = and_from (has_atom a shifts row l.0.from) (not (is_used_before a shifts row l.0)) (move_in_both a shifts u.move l.0 u.among u.of_column) (not_from_false (is_used_before a shifts row l.0) u.no_other) in
    subst (Contains (flat_map columns_on (job_steps a shifts aod))) l.2
    (contains_flat_map columns_on (job_steps a shifts aod) (catch_row a shifts aod row) l.0.from (catches_row a shifts aod (row_of a u.move) (has_row a shifts g u.move u.among))
    (has_place (λ m. has_atom a shifts row m.from && not (is_used_before a shifts row m)) (λ m. m.from) (columns_of a shifts) (columns_rise a shifts) l.0 l.1 active))

-- the position of a line's beam among beams over lines
given_at : (active : Line → Bool) (at : Line → ℕ) (lines : List Line) → Rise lines → (l : Line) → Contains lines l → active l ≡ true → last_at (number_of lines l.from) (beams_over active at 0 lines) ≡ Some (at l)
given_at active at lines rise l c e = given_once (beams_over active at 0 lines) (beam_of lines at l) (rising_over active at 0 lines) (has_beam active at lines rise l c e)

-- a row that lands stands at its target
row_landed : (a : Architecture) (shifts : List Shift) (row : ℕ) (m : Line) → Contains (rows_of a shifts) m → m.from ≡ row
    → last_at (number_of (rows_of a shifts) m.from) (rows_at a shifts (stage.Landed row)) ≡ Some m.to
row_landed a shifts row m c e =
    given_at (λ l. is_loaded (stage.Landed row) l.from) (row_at a (stage.Landed row)) (rows_of a shifts) (rows_rise a shifts) m c (le-leb row m.from (omega arith))
    ∙ ap Some (in_its_place m.to a.figures.park (m.from == row) (eq-eqb m.from row e))

-- a column that has an atom in a row that lands stands at its target
column_landed : (a : Architecture) (shifts : List Shift) (row : ℕ) (m : Line) → Contains (columns_of a shifts) m → has_atom a shifts row m.from ≡ true
    → last_at (number_of (columns_of a shifts) m.from) (columns_at a shifts (stage.Landed row)) ≡ Some m.to
column_landed a shifts row m c e =
    let s = passing (λ s. source_y a s == row && source_x a s == m.from) shifts e in
    let parts = and_parts (source_y a s.0 == row) (source_x a s.0 == m.from) s.2 in
    let in_row : source_y a s.0 ≡ row = eqb-true (source_y a s.0) row parts.0 in
    let active : is_column_active a shifts (stage.Landed row) m ≡ true =
    passes_at (λ s. nat_le row (source_y a s) && source_x a s == m.from) shifts s.0 s.1
    (and_from (nat_le row (source_y a s.0)) (source_x a s.0 == m.from) (le-leb row (source_y a s.0) (omega arith)) parts.1) in
    given_at (is_column_active a shifts (stage.Landed row)) (column_at a shifts (stage.Landed row)) (columns_of a shifts) (columns_rise a shifts) m c active
    ∙ ap Some (in_its_place m.to a.figures.park (has_atom a shifts row m.from) e)

rows_stood : (a : Architecture) (shifts : List Shift) (aod : ℕ) → Stood a shifts aod rows_set rows_off (rows_of a shifts) (Targets (rows_of a shifts))
rows_stood a shifts aod l c id off =
    let rows = rows_of a shifts in
    let m = line_of_id (λ m. m.from == l.from) (λ m. m.to) rows (rows_rise a shifts) id off in (
      m.line.to,
      subst (λ (n : ℕ). last_at n (rows_at a shifts (stage.Landed l.from)) ≡ Some m.line.to) m.holds (row_landed a shifts l.from m.line m.among (eqb-true m.line.from l.from m.is_active)),
      contains_map (λ (l : Line). l.to) rows m.line m.among,
    )

columns_stood : (a : Architecture) (shifts : List Shift) (aod : ℕ) → Stood a shifts aod columns_set columns_off (rows_of a shifts) (Targets (columns_of a shifts))
columns_stood a shifts aod l c id off =
    let columns = columns_of a shifts in
    let m = line_of_id (λ m. has_atom a shifts l.from m.from && not (is_used_after a shifts l.from m)) (λ m. m.to) columns (columns_rise a shifts) id off in
    let parts = and_parts (has_atom a shifts l.from m.line.from) (not (is_used_after a shifts l.from m.line)) m.is_active in (
      m.line.to,
      subst (λ (n : ℕ). last_at n (columns_at a shifts (stage.Landed l.from)) ≡ Some m.line.to) m.holds (column_landed a shifts l.from m.line m.among parts.0),
      contains_map (λ (l : Line). l.to) columns m.line m.among,
    )

-- rows and columns are switched off at their targets alone
row_off : (a : Architecture) (shifts : List Shift) (aod n : ℕ) → Contains (last_rows [] (job_steps a shifts aod)) n → Targets (rows_of a shifts) n
row_off a shifts aod n c =
    in_job_lasts a shifts aod rows_set rows_off (Targets (rows_of a shifts)) (λ stage. refl) (λ row. refl) (rows_stood a shifts aod) n
    (subst (λ (ns : List ℕ). Contains ns n) (last_rows_are [] (job_steps a shifts aod)) c)

column_off : (a : Architecture) (shifts : List Shift) (aod n : ℕ) → Contains (last_columns [] (job_steps a shifts aod)) n → Targets (columns_of a shifts) n
column_off a shifts aod n c =
    in_job_lasts a shifts aod columns_set columns_off (Targets (columns_of a shifts)) (λ stage. refl) (λ row. refl) (columns_stood a shifts aod) n
    (subst (λ (ns : List ℕ). Contains ns n) (last_columns_are [] (job_steps a shifts aod)) c)

-- and all of them are
off_row : (a : Architecture) (shifts : List Shift) (aod n : ℕ) → Targets (rows_of a shifts) n → Contains (last_rows [] (job_steps a shifts aod)) n
off_row a shifts aod n c =
    let rows = rows_of a shifts in
    let l = contained_in_map (λ (l : Line). l.to) rows n c in
    let listed = has_number (λ m. m.from == l.0.from) (λ m. m.to) rows (rows_rise a shifts) l.0 l.1 (eq-eqb l.0.from l.0.from refl) in
    subst (λ (ns : List ℕ). Contains ns n) (sym (last_rows_are [] (job_steps a shifts aod)))
    (subst (Contains (lasts rows_set rows_off [] (job_steps a shifts aod))) l.2
    (has_job_lasts a shifts aod rows_set rows_off (λ stage. refl) (λ row. refl) l.0 l.1 (number_of rows l.0.from) l.0.to listed (row_landed a shifts l.0.from l.0 l.1 refl)))

off_column : (a : Architecture) (shifts : List Shift) → Grouped a shifts → (aod n : ℕ) → Targets (columns_of a shifts) n → Contains (last_columns [] (job_steps a shifts aod)) n
off_column a shifts g aod n c =
    let columns = columns_of a shifts in
    let l = contained_in_map (λ (l : Line). l.to) columns n c in
    let s = atom_of_column a shifts l.0 l.1 in
    let u = last_use a shifts l.0 s.0 s.1 (ap (λ (x : Line). x.from) s.2) in
    let row = source_y a u.move in
    let there = move_in_both a shifts u.move l.0 u.among u.of_column in
    let active = and_from (has_atom a shifts row l.0.from) (not (is_used_after a shifts row l.0)) there (not_from_false (is_used_after a shifts row l.0) u.no_other) in
    let listed = has_number (λ m. has_atom a shifts row m.from && not (is_used_after a shifts row m)) (λ m. m.to) columns (columns_rise a shifts) l.0 l.1 active in
    subst (λ (ns : List ℕ). Contains ns n) (sym (last_columns_are [] (job_steps a shifts aod)))
    (subst (Contains (lasts columns_set columns_off [] (job_steps a shifts aod))) l.2
    (has_job_lasts a shifts aod columns_set columns_off (λ stage. refl) (λ row. refl) (row_of a u.move) (has_row a shifts g u.move u.among) (number_of columns l.0.from) l.0.to listed
    (column_landed a shifts row l.0 l.1 there)))

-- the atoms that a job catches and drops are those of the moves
carried : (a : Architecture) (shifts : List Shift) (aod q : ℕ) → Any (λ s. Carries s q) (job_steps a shifts aod) → Any (λ (shift : Shift). shift.q ≡ q) shifts
carried a shifts aod q h =
    let s = any_contained (λ s. Carries s q) (job_steps a shifts aod) h in
    by_kind s.0 (kind_of a shifts aod s.0 s.1) s.2
  where
    one_of : (row : ℕ) (m : Shift) → Contains (moves_of_row a shifts row) m → m.q ≡ q → Any (λ (shift : Shift). shift.q ≡ q) shifts
    one_of row m c e = any_from_contained (λ (shift : Shift). shift.q ≡ q) shifts m (contained_in_filter (λ (x : Shift). source_y a x == row) shifts m c).0 e

    by_kind : (step : Step) → Kind a shifts aod (rows_of a shifts) step → Carries step q → Any (λ (shift : Shift). shift.q ≡ q) shifts
    by_kind step (catches r d e) on =
        let c = any_contained (λ (c : Caught). c.q ≡ q) (map (caught a shifts) (moves_of_row a shifts r.from)) (subst (λ (x : Step). Carries x q) (sym e) on) in
        let m = contained_in_map (caught a shifts) (moves_of_row a shifts r.from) c.0 c.1 in
        one_of r.from m.0 m.1 (ap (λ (c : Caught). c.q) m.2 ∙ c.2)
    by_kind step (moves stage e) on = absurd (subst (λ (x : Step). Carries x q) (sym e) on)
    by_kind step (drops r d e) on =
        let c = any_contained (λ (c : Dropped). c.q ≡ q) (map dropped (moves_of_row a shifts r.from)) (subst (λ (x : Step). Carries x q) (sym e) on) in
        let m = contained_in_map dropped (moves_of_row a shifts r.from) c.0 c.1 in
        one_of r.from m.0 m.1 (ap (λ (c : Dropped). c.q) m.2 ∙ c.2)

all_carried : (a : Architecture) (shifts : List Shift) → Grouped a shifts → (aod q : ℕ) → Any (λ (shift : Shift). shift.q ≡ q) shifts → Any (λ s. Carries s q) (job_steps a shifts aod)
all_carried a shifts g aod q h =
    let m = any_contained (λ (shift : Shift). shift.q ≡ q) shifts h in
    let row = source_y a m.0 in
    let listed = contains_filter (λ (x : Shift). source_y a x == row) shifts m.0 m.1 (eq-eqb row row refl) in
    any_from_contained (λ s. Carries s q) (job_steps a shifts aod) (catch_row a shifts aod row) (catches_row a shifts aod (row_of a m.0) (has_row a shifts g m.0 m.1))
    (any_from_contained (λ (c : Caught). c.q ≡ q) (map (caught a shifts) (moves_of_row a shifts row)) (caught a shifts m.0) (contains_map (caught a shifts) (moves_of_row a shifts row) m.0 listed) m.2)

-- a trap on one grid is on another one with the same lines
on_same_grid : (a : Architecture) (xs ys xs' ys' : List ℕ) (t : ℕ) → ((n : ℕ) → Contains xs n → Contains xs' n) → ((n : ℕ) → Contains ys n → Contains ys' n) → IsOnGrid a xs ys t → IsOnGrid a xs' ys' t
on_same_grid a xs ys xs' ys' t columns rows h = (h.0, h.1, columns h.0.x h.2, rows h.0.y h.3)

pub has_resources : (a : Architecture) (shifts : List Shift) → Grouped a shifts → (aod : ℕ) → HasResources a shifts aod (job_steps a shifts aod)
has_resources a shifts g aod =
    let steps = job_steps a shifts aod in
    let rows = rows_of a shifts in
    let columns = columns_of a shifts in
    record {
      no_laser = λ h. h;
      aod_is = λ n h. sym h;
      own_aod = refl;
      qubits_are = λ q h. carried a shifts aod q h;
      own_qubits = λ q h. all_carried a shifts g aod q h;
      traps_are = λ t h. elim h [
        | inl source ↦ inl (on_same_grid a (flat_map columns_on steps) (flat_map rows_on steps) (map (λ l. l.from) columns) (map (λ l. l.from) rows) t (column_on a shifts aod) (row_on a shifts aod) source)
        | inr target ↦ inr (on_same_grid a (last_columns [] steps) (last_rows [] steps) (map (λ l. l.to) columns) (map (λ l. l.to) rows) t (column_off a shifts aod) (row_off a shifts aod) target)
      ];
      own_traps = λ t h. elim h [
        | inl source ↦ inl (on_same_grid a (map (λ l. l.from) columns) (map (λ l. l.from) rows) (flat_map columns_on steps) (flat_map rows_on steps) t (on_column a shifts g aod) (on_row a shifts aod) source)
        | inr target ↦ inr (on_same_grid a (map (λ l. l.to) columns) (map (λ l. l.to) rows) (last_columns [] steps) (last_rows [] steps) t (off_column a shifts g aod) (off_row a shifts aod) target)
      ];
    }
