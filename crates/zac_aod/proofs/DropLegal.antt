-- Unloading a row that stands at its target is legal.
use Rattle.std.proofs.Common.{◌≡◌, ◌≢◌, ℕ, ◌<◌, ◌≤◌, ◌⊎◌, inl, inr, Bool, true, false, not, List, Some, map, refl, sym, ap, ◌∙◌, subst, arith}
use Rattle.std.specs.List.{AllPairs, Any, Contains}
use Rattle.std.specs.Prelude.{◌==◌, ◌&&◌, ◌||◌, nat_lt, nat_le}
use Rattle.std.proofs.lemmas.Bool.{cases_eq, cases_lt, and_parts, and_from, or_cases, or_left, or_right, eqb-true, eq-eqb, ltb-true, lt-ltb, le-ltb, leb-true, le-leb, lt-leb, not-true, not_from_false, ne_eqb, false_from_ne_true, both_ways}
use Rattle.std.proofs.lemmas.List.Kept.{AllPairs-filter}
use Rattle.zac_arch.specs.Architecture.{Architecture, StandsAt}
use Rattle.zac_group.specs.Moves.{source_x, source_y, target_x, target_y}
use Rattle.zac_group.specs.declared.shift.Shift.{Shift}
use Rattle.zair_form.specs.declared.step.Dropped.{Dropped}
use Rattle.zair_state.specs.Legal.{IsLegal, Drops}
use Rattle.zair_state.specs.Result.{after, without_beams}
use Rattle.zair_state.specs.State.{State, Beams, IsAt, HasId, beams_of}
use Rattle.zair_state.specs.declared.place.Place.TheVariants.{Held}
use Rattle.zair_state.proofs.Changing.{changes_of}
use Rattle.zair_state.proofs.Membership.{all_from_contains, contains_map, contained_in_map, contains_filter, contained_in_filter, any_contained, any_from_contained}
use Rattle.zair_state.proofs.Placing.{IsDropped, not_dropped_stays, after_dropping_at}
use Rattle.zac_aod.specs.Lines.{rows_of, columns_of, number_of, has_atom}
use Rattle.zac_aod.specs.Lowering.{drop_row, dropped, moves_of_row, is_used_after}
use Rattle.zac_aod.specs.Soundness.{IsUndisturbed, IsAtStage}
use Rattle.zac_aod.specs.Stages.{is_column_active, place_at, row_at, column_at, rows_at, columns_at, beams_over}
use Rattle.zac_aod.specs.declared.line.Line.{Line}
use Rattle.zac_aod.specs.declared.stage.Stage.TheVariants as stage
use Rattle.zac_aod.proofs.BeamFacts.{beam_of, has_beam, left_over, one_line}
use Rattle.zac_aod.specs.CardLaws.{CardLaws, Grouped}
use Rattle.zac_aod.proofs.CatchLegal.{atom_in_row}
use Rattle.zac_aod.proofs.DroppedPlaces.{dropped_rests}
use Rattle.zac_aod.proofs.GridFacts.{target_stands}
use Rattle.zac_aod.proofs.LineFacts.{rows_rise, columns_rise, row_of, column_of, has_row, has_column}
use Rattle.zac_aod.proofs.MoveLegal.{Leads}
use Rattle.zac_aod.proofs.OverTraps.{same_qubit, held_at, rests_at, atom_at, holding, one_place, held_is_no_trap}
use Rattle.zac_aod.proofs.StageBeams.{once_over, same_over, line_of_id, id_of_line}
use Rattle.zac_aod.proofs.Tests.{passes_at, any_either, old_alone, pairs_map, in_its_place, beyond_its_place}

-- the ids of the row's beam and of the columns that are switched off with it
abbrev pub rows_gone : Architecture → List Shift → ℕ → List ℕ
rows_gone a shifts y = map (λ b. b.id) (beams_over (λ l. l.from == y) (λ l. l.to) 0 (rows_of a shifts))

abbrev pub is_last_of_column : Architecture → List Shift → ℕ → Line → Bool
is_last_of_column a shifts y l = has_atom a shifts y l.from && not (is_used_after a shifts y l)

abbrev pub columns_gone : Architecture → List Shift → ℕ → List ℕ
columns_gone a shifts y = map (λ b. b.id) (beams_over (is_last_of_column a shifts y) (λ l. l.to) 0 (columns_of a shifts))

abbrev pub drops_of_row : Architecture → List Shift → ℕ → List Dropped
drops_of_row a shifts y = map dropped (moves_of_row a shifts y)

either_row : (n y : ℕ) → nat_le y n ≡ ((n == y) || nat_lt y n)
either_row n y = elim (cases_eq n y) [
  | inl same ↦ le-leb y n (omega arith) ∙ sym (or_left (n == y) (nat_lt y n) (eq-eqb n y same))
  | inr ne ↦ elim (cases_lt y n) [
    | inl lt ↦ le-leb y n (omega arith) ∙ sym (or_right (n == y) (nat_lt y n) (lt-ltb y n lt))
    | inr le ↦ lt-leb y n (below n y le ne) ∙ sym (ap (λ (t : Bool). t || nat_lt y n) (ne_eqb n y ne) ∙ le-ltb y n le)
  ]
]
  where
    below : (n y : ℕ) → n ≤ y → n ≢ y → n < y
    below n y le ne = omega arith

loaded_there : (n y : ℕ) → n ≡ y → nat_le y n ≡ true
loaded_there n y e = le-leb y n (omega arith)

rest_of_rows : (n y : ℕ) → nat_lt y n ≡ (nat_le y n && not (n == y))
rest_of_rows n y = elim (cases_lt y n) [
  | inl lt ↦ lt-ltb y n lt ∙ sym (and_from (nat_le y n) (not (n == y)) (le-leb y n (omega arith)) (not_from_false (n == y) (ne_eqb n y (λ e. absurd (omega arith)))))
  | inr le ↦ le-ltb y n le ∙ sym (false_from_ne_true (nat_le y n && not (n == y)) (λ both.
      let parts = and_parts (nat_le y n) (not (n == y)) both in
      let up : y ≤ n = leb-true y n parts.0 in
      both_ways (n == y) (not-true (n == y) parts.1) (eq-eqb n y (omega arith))))
]

-- a column is active while the row stands at its target exactly where it has an atom in it, or is used after it
active_landed : (a : Architecture) (shifts : List Shift) (y : ℕ) (l : Line) → is_column_active a shifts (stage.Landed y) l ≡ (has_atom a shifts y l.from || is_used_after a shifts y l)
active_landed a shifts y l =
    any_either (λ (s : Shift). nat_le y (source_y a s) && source_x a s == l.from) (λ (s : Shift). source_y a s == y && source_x a s == l.from) (λ (s : Shift). nat_lt y (source_y a s) && source_x a s == l.from) shifts
    (λ s c e.
    let parts = and_parts (nat_le y (source_y a s)) (source_x a s == l.from) e in
    elim (or_cases (source_y a s == y) (nat_lt y (source_y a s)) (sym (either_row (source_y a s) y) ∙ parts.0)) [
      | inl t ↦ inl (and_from (source_y a s == y) (source_x a s == l.from) t parts.1)
      | inr t ↦ inr (and_from (nat_lt y (source_y a s)) (source_x a s == l.from) t parts.1)
    ])
    (λ s c e.
    let parts = and_parts (source_y a s == y) (source_x a s == l.from) e in
    and_from (nat_le y (source_y a s)) (source_x a s == l.from) (either_row (source_y a s) y ∙ or_left (source_y a s == y) (nat_lt y (source_y a s)) parts.0) parts.1)
    (λ s c e.
    let parts = and_parts (nat_lt y (source_y a s)) (source_x a s == l.from) e in
    and_from (nat_le y (source_y a s)) (source_x a s == l.from) (either_row (source_y a s) y ∙ or_right (source_y a s == y) (nat_lt y (source_y a s)) parts.0) parts.1)

rows_left : (a : Architecture) (shifts : List Shift) (y : ℕ) → without_beams (rows_gone a shifts y) (rows_at a shifts (stage.Landed y)) ≡ rows_at a shifts (stage.Dropped y)
rows_left a shifts y =
    left_over (λ (l : Line). l.from == y) (λ (l : Line). nat_le y l.from) (λ (l : Line). nat_lt y l.from) (λ (l : Line). l.to) (row_at a (stage.Landed y)) (row_at a (stage.Landed y)) (rows_of a shifts) (rows_rise a shifts)
    (λ l c. rest_of_rows l.from y)
    (λ l c e. refl)
    ∙ same_over (λ (l : Line). nat_lt y l.from) (λ (l : Line). nat_lt y l.from) (row_at a (stage.Landed y)) (row_at a (stage.Dropped y)) 0 (rows_of a shifts)
    (λ l c. refl)
    (λ l c e. beyond_its_place l.to a.figures.park (l.from == y) (above l.from y (ltb-true y l.from e)))
  where
    above : (n y : ℕ) → y < n → (n == y) ≡ false
    above n y lt = ne_eqb n y (λ e. absurd (omega arith))

columns_left : (a : Architecture) (shifts : List Shift) (y : ℕ) → without_beams (columns_gone a shifts y) (columns_at a shifts (stage.Landed y)) ≡ columns_at a shifts (stage.Dropped y)
columns_left a shifts y =
    left_over (is_last_of_column a shifts y) (is_column_active a shifts (stage.Landed y)) (is_column_active a shifts (stage.Dropped y)) (λ (l : Line). l.to) (column_at a shifts (stage.Landed y)) (column_at a shifts (stage.Dropped y)) (columns_of a shifts) (columns_rise a shifts)
    (λ l c.
    old_alone (has_atom a shifts y l.from) (is_used_after a shifts y l)
    ∙ ap (λ (t : Bool). t && not (is_last_of_column a shifts y l)) (sym (active_landed a shifts y l)))
    (λ l c e. refl)

-- a move of the row, behind an atom that is listed
pub record DropOfRow (a : Architecture) (shifts : List Shift) (y : ℕ) (d : Dropped) : Type 0 where
  pub move : Shift
  pub among : Contains shifts move
  pub starts : source_y a move ≡ y
  pub is : dropped move ≡ d

drop_of_row : (a : Architecture) (shifts : List Shift) (y : ℕ) (d : Dropped) → Contains (drops_of_row a shifts y) d → DropOfRow a shifts y d
drop_of_row a shifts y d h =
    let m = contained_in_map dropped (moves_of_row a shifts y) d h in
    let kept = contained_in_filter (λ (s : Shift). source_y a s == y) shifts m.0 m.1 in
    record { move = m.0; among = kept.0; starts = eqb-true (source_y a m.0) y kept.1; is = m.2 }

in_drops : (a : Architecture) (shifts : List Shift) (y : ℕ) (m : Shift) → Contains shifts m → source_y a m ≡ y → Contains (drops_of_row a shifts y) (dropped m)
in_drops a shifts y m c e = contains_map dropped (moves_of_row a shifts y) m (contains_filter (λ (s : Shift). source_y a s == y) shifts m c (eq-eqb (source_y a m) y e))

drops_once : (a : Architecture) (shifts : List Shift) → Grouped a shifts → (y : ℕ) → AllPairs (λ (c d : Dropped). c.q ≢ d.q) (drops_of_row a shifts y)
drops_once a shifts g y =
    pairs_map Shift Dropped (λ (c d : Dropped). c.q ≢ d.q) dropped (moves_of_row a shifts y)
    (AllPairs-filter (λ (s t : Shift). s.q ≢ t.q) (λ (m : Shift). source_y a m == y) shifts g.phase.qubits)

active_column : (a : Architecture) (shifts : List Shift) (y : ℕ) (m : Shift) → Contains shifts m → source_y a m ≡ y → is_column_active a shifts (stage.Landed y) (column_of a m) ≡ true
active_column a shifts y m c e =
    passes_at (λ (s : Shift). nat_le y (source_y a s) && source_x a s == source_x a m) shifts m c
    (and_from (nat_le y (source_y a m)) (source_x a m == source_x a m) (loaded_there (source_y a m) y e) (eq-eqb (source_x a m) (source_x a m) refl))

drops_it : (a : Architecture) → CardLaws a → (shifts : List Shift) → Grouped a shifts → (aod y : ℕ) (s : State) → IsAtStage a shifts aod (stage.Landed y) s → (m : Shift) → Contains shifts m → source_y a m ≡ y
    → Drops a s aod (rows_gone a shifts y) (columns_gone a shifts y) (dropped m)
drops_it a laws shifts g aod y s at m c e =
    let row = beam_of (rows_of a shifts) (row_at a (stage.Landed y)) (row_of a m) in
    let column = beam_of (columns_of a shifts) (column_at a shifts (stage.Landed y)) (column_of a m) in
    let at_y = in_its_place (target_y a m) a.figures.park (source_y a m == y) (eq-eqb (source_y a m) y e) in
    let at_x = in_its_place (target_x a m) a.figures.park (has_atom a shifts y (source_x a m)) (atom_in_row a shifts y m c e) in
    record {
      row = row;
      column = column;
      row_active = subst (λ (b : Beams). Contains b.rows row) (sym at.beams)
          (has_beam (λ (l : Line). nat_le y l.from) (row_at a (stage.Landed y)) (rows_of a shifts) (rows_rise a shifts) (row_of a m) (has_row a shifts g m c) (loaded_there (source_y a m) y e));
      column_active = subst (λ (b : Beams). Contains b.columns column) (sym at.beams)
          (has_beam (is_column_active a shifts (stage.Landed y)) (column_at a shifts (stage.Landed y)) (columns_of a shifts) (columns_rise a shifts) (column_of a m) (has_column a shifts g m c) (active_column a shifts y m c e));
      held = atom_at a shifts aod (stage.Landed y) s at m c ∙ ap Some (held_at a shifts aod (stage.Landed y) m (loaded_there (source_y a m) y e));
      vanishes = inl (id_of_line (λ (l : Line). l.from == y) (λ (l : Line). l.to) (rows_of a shifts) (rows_rise a shifts) (row_of a m) (has_row a shifts g m c) (eq-eqb (source_y a m) y e));
      exact = subst (λ (x : ℕ). StandsAt a m.to.0 (record { x = x; y = row_at a (stage.Landed y) (row_of a m) })) (sym at_x)
          (subst (λ (z : ℕ). StandsAt a m.to.0 (record { x = target_x a m; y = z })) (sym at_y) (target_stands a shifts laws g m c));
    }

rows_gone_active : (a : Architecture) (shifts : List Shift) (y id : ℕ) → Contains (rows_gone a shifts y) id → HasId (rows_at a shifts (stage.Landed y)) id
rows_gone_active a shifts y id c =
    let l = line_of_id (λ (l : Line). l.from == y) (λ (l : Line). l.to) (rows_of a shifts) (rows_rise a shifts) id c in
    subst (HasId (rows_at a shifts (stage.Landed y))) l.named
    (id_of_line (λ (l : Line). nat_le y l.from) (row_at a (stage.Landed y)) (rows_of a shifts) (rows_rise a shifts) l.line l.among (loaded_there l.line.from y (eqb-true l.line.from y l.is_active)))

columns_gone_active : (a : Architecture) (shifts : List Shift) (y id : ℕ) → Contains (columns_gone a shifts y) id → HasId (columns_at a shifts (stage.Landed y)) id
columns_gone_active a shifts y id c =
    let l = line_of_id (is_last_of_column a shifts y) (λ (l : Line). l.to) (columns_of a shifts) (columns_rise a shifts) id c in
    let atom = (and_parts (has_atom a shifts y l.line.from) (not (is_used_after a shifts y l.line)) l.is_active).0 in
    subst (HasId (columns_at a shifts (stage.Landed y))) l.named
    (id_of_line (is_column_active a shifts (stage.Landed y)) (column_at a shifts (stage.Landed y)) (columns_of a shifts) (columns_rise a shifts) l.line l.among
    (active_landed a shifts y l.line ∙ or_left (has_atom a shifts y l.line.from) (is_used_after a shifts y l.line) atom))

-- a loaded move whose row is switched off is of the row
of_row_by_row : (a : Architecture) (shifts : List Shift) → Grouped a shifts → (y : ℕ) (m : Shift) → Contains shifts m → Contains (rows_gone a shifts y) (number_of (rows_of a shifts) (source_y a m)) → source_y a m ≡ y
of_row_by_row a shifts g y m c gone =
    let l = line_of_id (λ (l : Line). l.from == y) (λ (l : Line). l.to) (rows_of a shifts) (rows_rise a shifts) (number_of (rows_of a shifts) (source_y a m)) gone in
    let same : l.line ≡ row_of a m = one_line (rows_of a shifts) (rows_rise a shifts) l.line (row_of a m) l.among (has_row a shifts g m c) l.named in
    eqb-true (source_y a m) y (subst (λ (x : Line). (x.from == y) ≡ true) same l.is_active)

-- and so is one whose column is switched off
of_row_by_column : (a : Architecture) (shifts : List Shift) → Grouped a shifts → (y : ℕ) (m : Shift) → Contains shifts m → nat_le y (source_y a m) ≡ true
    → Contains (columns_gone a shifts y) (number_of (columns_of a shifts) (source_x a m)) → source_y a m ≡ y
of_row_by_column a shifts g y m c loaded gone =
    let l = line_of_id (is_last_of_column a shifts y) (λ (l : Line). l.to) (columns_of a shifts) (columns_rise a shifts) (number_of (columns_of a shifts) (source_x a m)) gone in
    let same : l.line ≡ column_of a m = one_line (columns_of a shifts) (columns_rise a shifts) l.line (column_of a m) l.among (has_column a shifts g m c) l.named in
    let last : is_last_of_column a shifts y (column_of a m) ≡ true = subst (λ (x : Line). is_last_of_column a shifts y x ≡ true) same l.is_active in
    let unused : is_used_after a shifts y (column_of a m) ≡ false = not-true (is_used_after a shifts y (column_of a m)) (and_parts (has_atom a shifts y (source_x a m)) (not (is_used_after a shifts y (column_of a m))) last).1 in
    elim (cases_lt y (source_y a m)) [
      | inl lt ↦ absurd (both_ways (is_used_after a shifts y (column_of a m)) unused
          (passes_at (λ (s : Shift). nat_lt y (source_y a s) && source_x a s == source_x a m) shifts m c
          (and_from (nat_lt y (source_y a m)) (source_x a m == source_x a m) (lt-ltb y (source_y a m) lt) (eq-eqb (source_x a m) (source_x a m) refl))))
      | inr le ↦ let up : y ≤ source_y a m = leb-true y (source_y a m) loaded in omega arith
    ]

all_listed : (a : Architecture) (shifts : List Shift) → Grouped a shifts → (aod y : ℕ) (s : State) → IsAtStage a shifts aod (stage.Landed y) s
    → (q row column : ℕ) → IsAt s q (Held aod row column) → Contains (rows_gone a shifts y) row ⊎ Contains (columns_gone a shifts y) column → Any (λ d. d.q ≡ q) (drops_of_row a shifts y)
all_listed a shifts g aod y s at q row column held gone =
    let m = any_contained (λ (n : Shift). n.q ≡ q) shifts (at.own q row column held) in
    let there : IsAt s m.0.q (Held aod row column) = subst (λ (k : ℕ). IsAt s k (Held aod row column)) (sym m.2) held in
    let holds = holding a shifts aod (stage.Landed y) m.0 row column (one_place s m.0.q (place_at a shifts aod (stage.Landed y) m.0) (Held aod row column) (atom_at a shifts aod (stage.Landed y) s at m.0 m.1) there) in
    let starts : source_y a m.0 ≡ y = elim gone [
      | inl by_row ↦ of_row_by_row a shifts g y m.0 m.1 (subst (Contains (rows_gone a shifts y)) (sym holds.row_is) by_row)
      | inr by_column ↦ of_row_by_column a shifts g y m.0 m.1 holds.loaded (subst (Contains (columns_gone a shifts y)) (sym holds.column_is) by_column)
    ] in
    any_from_contained (λ (d : Dropped). d.q ≡ q) (drops_of_row a shifts y) (dropped m.0) (in_drops a shifts y m.0 m.1 starts) m.2

drop_legal : (a : Architecture) → CardLaws a → (shifts : List Shift) → Grouped a shifts → (aod y : ℕ) (s : State) → IsUndisturbed a shifts aod s → IsAtStage a shifts aod (stage.Landed y) s → IsLegal a s (drop_row a shifts aod y)
drop_legal a laws shifts g aod y s u at = record {
  known = u.known;
  rows_once = once_over (λ (l : Line). l.from == y) (λ (l : Line). l.to) 0 (rows_of a shifts);
  columns_once = once_over (is_last_of_column a shifts y) (λ (l : Line). l.to) 0 (columns_of a shifts);
  rows_active = all_from_contains (HasId (beams_of s aod).rows) (rows_gone a shifts y) (λ id c. subst (λ (b : Beams). HasId b.rows id) (sym at.beams) (rows_gone_active a shifts y id c));
  columns_active = all_from_contains (HasId (beams_of s aod).columns) (columns_gone a shifts y) (λ id c. subst (λ (b : Beams). HasId b.columns id) (sym at.beams) (columns_gone_active a shifts y id c));
  drops = all_from_contains (Drops a s aod (rows_gone a shifts y) (columns_gone a shifts y)) (drops_of_row a shifts y) (λ d in_list.
      let f = drop_of_row a shifts y d in_list in
      subst (Drops a s aod (rows_gone a shifts y) (columns_gone a shifts y)) f.is (drops_it a laws shifts g aod y s at f.move f.among f.starts));
  once = pairs_map Dropped ℕ (λ (i j : ℕ). i ≢ j) (λ (d : Dropped). d.q) (drops_of_row a shifts y) (drops_once a shifts g y);
  all = all_listed a shifts g aod y s at;
}

-- a move of another row isn't listed
not_listed : (a : Architecture) (shifts : List Shift) → Grouped a shifts → (y : ℕ) (m : Shift) → Contains shifts m → source_y a m ≢ y → ¬ IsDropped (drops_of_row a shifts y) m.q
not_listed a shifts g y m c ne listed =
    let f = drop_of_row a shifts y listed.0 listed.1 in
    let same : f.move ≡ m = same_qubit a shifts g f.move m f.among c (ap (λ (x : Dropped). x.q) f.is ∙ listed.2) in
    ne (subst (λ (x : Shift). source_y a x ≡ y) same f.starts)

stays_put : (a : Architecture) (shifts : List Shift) (aod y : ℕ) (m : Shift) → source_y a m ≢ y → place_at a shifts aod (stage.Landed y) m ≡ place_at a shifts aod (stage.Dropped y) m
stays_put a shifts aod y m ne = elim (cases_lt y (source_y a m)) [
  | inl lt ↦
      held_at a shifts aod (stage.Landed y) m (le-leb y (source_y a m) (omega arith))
      ∙ sym (held_at a shifts aod (stage.Dropped y) m (lt-ltb y (source_y a m) lt))
  | inr le ↦
      rests_at a shifts aod (stage.Landed y) m (lt-leb y (source_y a m) (below (source_y a m) y le ne))
      ∙ sym (rests_at a shifts aod (stage.Dropped y) m (le-ltb y (source_y a m) le))
]
  where
    below : (n y : ℕ) → n ≤ y → n ≢ y → n < y
    below n y le ne = omega arith

atom_after : (a : Architecture) (shifts : List Shift) → Grouped a shifts → (aod y : ℕ) (s : State) → IsAtStage a shifts aod (stage.Landed y) s → (m : Shift) → Contains shifts m
    → IsAt (after s (drop_row a shifts aod y)) m.q (place_at a shifts aod (stage.Dropped y) m)
atom_after a shifts g aod y s at m c = elim (cases_eq (source_y a m) y) [
  | inl e ↦
      dropped_rests (drops_of_row a shifts y) s.places (dropped m) (place_at a shifts aod (stage.Landed y) m) (drops_once a shifts g y) (in_drops a shifts y m c e)
      (atom_at a shifts aod (stage.Landed y) s at m c)
      ∙ ap Some (sym (rests_at a shifts aod (stage.Dropped y) m (le-ltb y (source_y a m) (omega arith))))
  | inr ne ↦
      not_dropped_stays (drops_of_row a shifts y) s.places m.q (not_listed a shifts g y m c ne)
      ∙ atom_at a shifts aod (stage.Landed y) s at m c
      ∙ ap Some (stays_put a shifts aod y m ne)
]

drop_result : (a : Architecture) (shifts : List Shift) → Grouped a shifts → (aod y : ℕ) (s : State) → IsUndisturbed a shifts aod s → IsAtStage a shifts aod (stage.Landed y) s → IsAtStage a shifts aod (stage.Dropped y) (after s (drop_row a shifts aod y))
drop_result a shifts g aod y s u at = record {
  beams = (changes_of s (after s (drop_row a shifts aod y)) aod (record { rows = without_beams (rows_gone a shifts y) (beams_of s aod).rows; columns = without_beams (columns_gone a shifts y) (beams_of s aod).columns }) u.known refl).there
      ∙ (ap (λ (b : Beams). record { rows = without_beams (rows_gone a shifts y) b.rows; columns = without_beams (columns_gone a shifts y) b.columns }) at.beams
      ∙ (λ i. record { rows = rows_left a shifts y i; columns = columns_left a shifts y i }));
  atoms = all_from_contains (λ (m : Shift). IsAt (after s (drop_row a shifts aod y)) m.q (place_at a shifts aod (stage.Dropped y) m)) shifts (atom_after a shifts g aod y s at);
  own = λ q row column held. elim (after_dropping_at (drops_of_row a shifts y) s.places q (Held aod row column) held) [
    | inl r ↦ absurd (held_is_no_trap aod row column r.0.trap (sym r.3))
    | inr r ↦ at.own q row column r.1
  ];
}

pub drop_leads : (a : Architecture) → CardLaws a → (shifts : List Shift) → Grouped a shifts → (aod y : ℕ) → Leads a shifts aod (stage.Landed y) (record { step = drop_row a shifts aod y; stage = stage.Dropped y })
drop_leads a laws shifts g aod y s u at = (drop_legal a laws shifts g aod y s u at, drop_result a shifts g aod y s u at)
