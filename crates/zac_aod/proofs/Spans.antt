-- The rows in which columns have atoms.
use Rattle.std.proofs.Common.{◌≡◌, ℕ, ◌+◌, ◌<◌, ◌≤◌, ◌⊎◌, inl, inr, min, max, true, ◌==◌, ◌&&◌, ◌||◌, nat_lt, nat_le, List, [], ◌∷◌, ◌++◌, length, map, get_or, set, refl, sym, ap, ◌∙◌, subst, arith, length-set, get_or-set_same, get_or-set_other}
use Rattle.std.specs.List.{All, AllPairs, Any, Contains}
use Rattle.std.proofs.lemmas.Bool.{and_from, and_parts, cases_eq, cases_lt, eq-eqb, eqb-true, le-leb, leb-true, lt-ltb, ltb-true, or_cases, or_left, or_right}
use Rattle.std.proofs.lemmas.List.Elements.{All-contains, All-nil, All-push, Contains-append_left, Contains-append_right, Contains-get_or}
use Rattle.zac_arch.specs.Architecture.{Architecture}
use Rattle.zac_group.specs.Groups.{StartsBefore}
use Rattle.zac_group.specs.Moves.{source_x, source_y}
use Rattle.zac_group.specs.declared.shift.Shift.{Shift}
use Rattle.zair_state.proofs.Membership.{all_from_contains, any_contained, any_from_contained, contained_in_map, contains_here, contains_map}
use Rattle.zac_aod.specs.CardLaws.{Grouped}
use Rattle.zac_aod.specs.Layout.{AreCovered, AreSpans, ComesBefore, Covers, IsSpan, atom_of}
use Rattle.zac_aod.specs.Lines.{columns_of, has_atom, number_of, rows_of}
use Rattle.zac_aod.specs.Lowering.{is_used_after, is_used_before}
use Rattle.zac_aod.specs.Stages.{is_column_active, is_loaded}
use Rattle.zac_aod.specs.declared.atom.Atom.{Atom}
use Rattle.zac_aod.specs.declared.line.Line.{Line}
use Rattle.zac_aod.specs.declared.span.Span.{Span}
use Rattle.zac_aod.specs.declared.stage.Stage.{Stage}
use Rattle.zac_aod.specs.declared.stage.Stage.TheVariants.{Waiting, Caught, Parked, Landed, Dropped}
use Rattle.zac_aod.proofs.LineFacts.{atom_of_column, row_of}
use Rattle.zac_aod.proofs.LineLists.{sources_stay}
use Rattle.zac_aod.proofs.Lookups.{atom_column, column_from, column_number}
use Rattle.zac_aod.proofs.Numbers.{number_less}
use Rattle.zac_aod.proofs.Tests.{pairs_among, pairs_map, passes_at, passing, same_tests}

any_stays : (P : Atom → Type 0) (atoms : List Atom) (atom : Atom) → Any P atoms → Any P (atoms ++ atom ∷ [])
any_stays P atoms atom h =
    let found = any_contained P atoms h in
    any_from_contained P (atoms ++ atom ∷ []) found.0 (Contains-append_left atoms (atom ∷ []) found.0 found.1) found.2

any_last : (P : Atom → Type 0) (atoms : List Atom) (atom : Atom) → P atom → Any P (atoms ++ atom ∷ [])
any_last P atoms atom p =
    any_from_contained P (atoms ++ atom ∷ []) atom (Contains-append_right atoms (atom ∷ []) atom (contains_here atom [])) p

-- no atom widens no row
pub covers_none : (k : ℕ) → Covers [] k (record { first = 4294967295; last = 0 })
covers_none k = record {
  within = All-nil (λ (t : Atom). t.column ≡ k → (4294967295 ≤ t.row) × (t.row ≤ 0));
  first = inl refl;
  last = inl refl;
}

-- an atom of another column leaves the span
covers_other : (atoms : List Atom) (k : ℕ) (span : Span) (atom : Atom) → ¬ (atom.column ≡ k) → Covers atoms k span → Covers (atoms ++ atom ∷ []) k span
covers_other atoms k span atom ne h = record {
  within = All-push (λ (t : Atom). t.column ≡ k → (span.first ≤ t.row) × (t.row ≤ span.last)) atoms atom h.within (λ e. absurd (ne e));
  first = elim h.first [ inl e ↦ inl e | inr some ↦ inr (any_stays (λ (t : Atom). (t.column ≡ k) × (t.row ≡ span.first)) atoms atom some) ];
  last = elim h.last [ inl e ↦ inl e | inr some ↦ inr (any_stays (λ (t : Atom). (t.column ≡ k) × (t.row ≡ span.last)) atoms atom some) ];
}

-- an atom of the column widens it
covers_more : (atoms : List Atom) (k : ℕ) (span : Span) (atom : Atom) → atom.column ≡ k → Covers atoms k span
    → Covers (atoms ++ atom ∷ []) k (record { first = min span.first atom.row; last = max span.last atom.row })
covers_more atoms k span atom e h = record {
  within = All-push (λ (t : Atom). t.column ≡ k → (min span.first atom.row ≤ t.row) × (t.row ≤ max span.last atom.row)) atoms atom
      (all_from_contains (λ (t : Atom). t.column ≡ k → (min span.first atom.row ≤ t.row) × (t.row ≤ max span.last atom.row)) atoms
      (λ t c same. let old = All-contains (λ (u : Atom). u.column ≡ k → (span.first ≤ u.row) × (u.row ≤ span.last)) atoms t h.within c same in let low = old.0 in let high = old.1 in (omega arith, omega arith)))
      (λ same. (omega arith, omega arith));
  first = elim (cases_lt atom.row span.first) [
    | inl lt ↦ inr (any_last (λ (t : Atom). (t.column ≡ k) × (t.row ≡ min span.first atom.row)) atoms atom (e, omega arith))
    | inr le ↦
        let same : span.first ≡ min span.first atom.row = omega arith in
        subst (λ n. (n ≡ 4294967295) ⊎ Any (λ (t : Atom). (t.column ≡ k) × (t.row ≡ n)) (atoms ++ atom ∷ [])) same
        (elim h.first [ inl top ↦ inl top | inr some ↦ inr (any_stays (λ (t : Atom). (t.column ≡ k) × (t.row ≡ span.first)) atoms atom some) ])
  ];
  last = elim (cases_lt span.last atom.row) [
    | inl lt ↦ inr (any_last (λ (t : Atom). (t.column ≡ k) × (t.row ≡ max span.last atom.row)) atoms atom (e, omega arith))
    | inr le ↦
        let same : span.last ≡ max span.last atom.row = omega arith in
        subst (λ n. (n ≡ 0) ⊎ Any (λ (t : Atom). (t.column ≡ k) × (t.row ≡ n)) (atoms ++ atom ∷ [])) same
        (elim h.last [ inl top ↦ inl top | inr some ↦ inr (any_stays (λ (t : Atom). (t.column ≡ k) × (t.row ≡ span.last)) atoms atom some) ])
  ];
}

-- one more atom
pub covered_more : (atoms : List Atom) (columns : ℕ) (spans : List Span) (atom : Atom) (z : Span) → atom.column < columns → AreCovered atoms columns spans
    → AreCovered (atoms ++ atom ∷ []) columns (set spans atom.column (record { first = min (get_or spans atom.column z).first atom.row; last = max (get_or spans atom.column z).last atom.row }))
covered_more atoms columns spans atom z lt h =
    let k = atom.column in
    let wider : Span = record { first = min (get_or spans k z).first atom.row; last = max (get_or spans k z).last atom.row } in
    let many = h.as_many in
    record {
      as_many = length-set spans k wider ∙ h.as_many;
      each = λ j d within. elim (cases_eq j k) [
        | inl e ↦
            let here : get_or (set spans k wider) j d ≡ wider = ap (λ n. get_or (set spans k wider) n d) e ∙ get_or-set_same spans k wider d (omega arith) in
            subst (λ (s : Span). Covers (atoms ++ atom ∷ []) j s) (sym here)
            (subst (λ n. Covers (atoms ++ atom ∷ []) n wider) (sym e) (covers_more atoms k (get_or spans k z) atom refl (h.each k z lt)))
        | inr ne ↦
            subst (λ (s : Span). Covers (atoms ++ atom ∷ []) j s) (sym (get_or-set_other spans k j wider d ne))
            (covers_other atoms j (get_or spans j d) atom (λ e. ne (sym e)) (h.each j d within))
      ];
    }

-- the span of a column tells whether it is used before a row, after it, and at a stage
pub used_before : (a : Architecture) (shifts : List Shift) (l : Line) (span : Span) (row : ℕ) → IsSpan a shifts l span → nat_lt span.first row ≡ is_used_before a shifts row l
used_before a shifts l span row h =
    same_tests (nat_lt span.first row) (is_used_before a shifts row l)
    (λ e.
    let found = passing (λ (s : Shift). source_y a s == span.first && source_x a s == l.from) shifts h.first in
    let parts = and_parts (source_y a found.0 == span.first) (source_x a found.0 == l.from) found.2 in
    let y = eqb-true (source_y a found.0) span.first parts.0 in
    let lt = ltb-true span.first row e in
    passes_at (λ (s : Shift). nat_lt (source_y a s) row && source_x a s == l.from) shifts found.0 found.1
    (and_from (nat_lt (source_y a found.0) row) (source_x a found.0 == l.from) (lt-ltb (source_y a found.0) row (omega arith)) parts.1))
    (λ e.
    let found = passing (λ (s : Shift). nat_lt (source_y a s) row && source_x a s == l.from) shifts e in
    let parts = and_parts (nat_lt (source_y a found.0) row) (source_x a found.0 == l.from) found.2 in
    let lt = ltb-true (source_y a found.0) row parts.0 in
    let low = (All-contains (λ (s : Shift). source_x a s ≡ l.from → (span.first ≤ source_y a s) × (source_y a s ≤ span.last)) shifts found.0 h.within found.1 (eqb-true (source_x a found.0) l.from parts.1)).0 in
    lt-ltb span.first row (omega arith))

pub used_after : (a : Architecture) (shifts : List Shift) (l : Line) (span : Span) (row : ℕ) → IsSpan a shifts l span → nat_lt row span.last ≡ is_used_after a shifts row l
used_after a shifts l span row h =
    same_tests (nat_lt row span.last) (is_used_after a shifts row l)
    (λ e.
    let found = passing (λ (s : Shift). source_y a s == span.last && source_x a s == l.from) shifts h.last in
    let parts = and_parts (source_y a found.0 == span.last) (source_x a found.0 == l.from) found.2 in
    let y = eqb-true (source_y a found.0) span.last parts.0 in
    let lt = ltb-true row span.last e in
    passes_at (λ (s : Shift). nat_lt row (source_y a s) && source_x a s == l.from) shifts found.0 found.1
    (and_from (nat_lt row (source_y a found.0)) (source_x a found.0 == l.from) (lt-ltb row (source_y a found.0) (omega arith)) parts.1))
    (λ e.
    let found = passing (λ (s : Shift). nat_lt row (source_y a s) && source_x a s == l.from) shifts e in
    let parts = and_parts (nat_lt row (source_y a found.0)) (source_x a found.0 == l.from) found.2 in
    let lt = ltb-true row (source_y a found.0) parts.0 in
    let high = (All-contains (λ (s : Shift). source_x a s ≡ l.from → (span.first ≤ source_y a s) × (source_y a s ≤ span.last)) shifts found.0 h.within found.1 (eqb-true (source_x a found.0) l.from parts.1)).1 in
    lt-ltb row span.last (omega arith))

-- loaded rows are all up to one, or all from one on
ends_loaded : (stage : Stage) (first y last : ℕ) → first ≤ y → y ≤ last → is_loaded stage y ≡ true → (is_loaded stage first || is_loaded stage last) ≡ true
ends_loaded Waiting first y last low high e = e
ends_loaded (Caught turn) first y last low high e = let le = leb-true y turn e in or_left (nat_le first turn) (nat_le last turn) (le-leb first turn (omega arith))
ends_loaded (Parked turn next) first y last low high e = let le = leb-true y turn e in or_left (nat_le first turn) (nat_le last turn) (le-leb first turn (omega arith))
ends_loaded (Landed turn) first y last low high e = let le = leb-true turn y e in or_right (nat_le turn first) (nat_le turn last) (le-leb turn last (omega arith))
ends_loaded (Dropped turn) first y last low high e = let lt = ltb-true turn y e in or_right (nat_lt turn first) (nat_lt turn last) (lt-ltb turn last (omega arith))

active_at : (a : Architecture) (shifts : List Shift) (l : Line) (stage : Stage) (row : ℕ) → has_atom a shifts row l.from ≡ true → is_loaded stage row ≡ true → is_column_active a shifts stage l ≡ true
active_at a shifts l stage row atom loaded =
    let found = passing (λ (s : Shift). source_y a s == row && source_x a s == l.from) shifts atom in
    let parts = and_parts (source_y a found.0 == row) (source_x a found.0 == l.from) found.2 in
    let y : source_y a found.0 ≡ row = eqb-true (source_y a found.0) row parts.0 in
    passes_at (λ (s : Shift). is_loaded stage (source_y a s) && source_x a s == l.from) shifts found.0 found.1
    (and_from (is_loaded stage (source_y a found.0)) (source_x a found.0 == l.from) (ap (is_loaded stage) y ∙ loaded) parts.1)

pub active_by_span : (a : Architecture) (shifts : List Shift) (l : Line) (span : Span) (stage : Stage) → IsSpan a shifts l span
    → (is_loaded stage span.first || is_loaded stage span.last) ≡ is_column_active a shifts stage l
active_by_span a shifts l span stage h =
    same_tests (is_loaded stage span.first || is_loaded stage span.last) (is_column_active a shifts stage l)
    (λ e. elim (or_cases (is_loaded stage span.first) (is_loaded stage span.last) e) [
      | inl loaded ↦ active_at a shifts l stage span.first h.first loaded
      | inr loaded ↦ active_at a shifts l stage span.last h.last loaded
    ])
    (λ e.
    let found = passing (λ (s : Shift). is_loaded stage (source_y a s) && source_x a s == l.from) shifts e in
    let parts = and_parts (is_loaded stage (source_y a found.0)) (source_x a found.0 == l.from) found.2 in
    let ends = All-contains (λ (s : Shift). source_x a s ≡ l.from → (span.first ≤ source_y a s) × (source_y a s ≤ span.last)) shifts found.0 h.within found.1 (eqb-true (source_x a found.0) l.from parts.1) in
    ends_loaded stage span.first (source_y a found.0) span.last ends.0 ends.1 parts.0)

-- the atoms of a group stand by rising row, and in a row by rising column
pub atoms_in_order : (a : Architecture) (shifts : List Shift) → Grouped a shifts → AllPairs ComesBefore (map (atom_of a shifts) shifts)
atoms_in_order a shifts g =
    pairs_map Shift Atom ComesBefore (atom_of a shifts) shifts
    (pairs_among Shift (StartsBefore a) (λ s t. ComesBefore (atom_of a shifts s) (atom_of a shifts t)) shifts
    (λ s t in_s in_t before. elim before [
      | inl lt ↦ (omega arith, λ e. absurd (omega arith))
      | inr h ↦
          let same = h.0 in
          let m = atom_column a shifts s in_s in
          let lt = h.1 in
          let x = m.2 in
          (omega arith, λ e. subst (λ n. number_of (columns_of a shifts) n < number_of (columns_of a shifts) (source_x a t)) x (number_less (columns_of a shifts) m.0 (source_x a t) m.1 (omega arith)))
    ])
    g.in_order)

-- no row stands beyond the field
pub row_inside : (a : Architecture) (shifts : List Shift) (park : ℕ) → All (λ (l : Line). l.from + park ≤ 1000000) (rows_of a shifts) → (s : Shift) → Contains shifts s → source_y a s ≤ 1000000
row_inside a shifts park inside s c =
    let m = sources_stay (map (row_of a) shifts) (row_of a s) (contains_map (row_of a) shifts s c) in
    let le = All-contains (λ (l : Line). l.from + park ≤ 1000000) (rows_of a shifts) m.0 inside m.1 in
    let same : m.0.from ≡ source_y a s = m.2 in
    omega arith

atom_at : (a : Architecture) (shifts : List Shift) (k row : ℕ) (d : Line) → k < length (columns_of a shifts) → Any (λ (t : Atom). (t.column ≡ k) × (t.row ≡ row)) (map (atom_of a shifts) shifts)
    → has_atom a shifts row (get_or (columns_of a shifts) k d).from ≡ true
atom_at a shifts k row d lt some =
    let l = get_or (columns_of a shifts) k d in
    let found = any_contained (λ (t : Atom). (t.column ≡ k) × (t.row ≡ row)) (map (atom_of a shifts) shifts) some in
    let move = contained_in_map (atom_of a shifts) shifts found.0 found.1 in
    let number : (atom_of a shifts move.0).column ≡ k = ap (λ (t : Atom). t.column) move.2 ∙ found.2.0 in
    let y : source_y a move.0 ≡ row = ap (λ (t : Atom). t.row) move.2 ∙ found.2.1 in
    let x : source_x a move.0 ≡ l.from = sym (column_from a shifts move.0 move.1 d) ∙ ap (λ n. (get_or (columns_of a shifts) n d).from) number in
    passes_at (λ (s : Shift). source_y a s == row && source_x a s == l.from) shifts move.0 move.1
    (and_from (source_y a move.0 == row) (source_x a move.0 == l.from) (eq-eqb (source_y a move.0) row y) (eq-eqb (source_x a move.0) l.from x))

-- what has the rows of the atoms of each column has those of its moves
pub are_spans : (a : Architecture) (shifts : List Shift) → ((s : Shift) → Contains shifts s → source_y a s ≤ 1000000) → (spans : List Span)
    → AreCovered (map (atom_of a shifts) shifts) (length (columns_of a shifts)) spans → AreSpans a shifts (columns_of a shifts) spans
are_spans a shifts inside spans h = record {
  as_many = h.as_many;
  each = λ k d z lt.
      let columns = columns_of a shifts in
      let atoms = map (atom_of a shifts) shifts in
      let l = get_or columns k d in
      let span = get_or spans k z in
      let cover = h.each k z lt in
      let own = atom_of_column a shifts l (Contains-get_or columns k d lt) in
      let number = column_number a shifts own.0 k d lt (ap (λ (m : Line). m.from) own.2) in
      let ends : (s : Shift) → Contains shifts s → (atom_of a shifts s).column ≡ k → (span.first ≤ source_y a s) × (source_y a s ≤ span.last) =
      λ s c e. All-contains (λ (t : Atom). t.column ≡ k → (span.first ≤ t.row) × (t.row ≤ span.last)) atoms (atom_of a shifts s) cover.within (contains_map (atom_of a shifts) shifts s c) e in
      let mine = ends own.0 own.1 number in
      let low = mine.0 in
      let high = mine.1 in
      let top = inside own.0 own.1 in
      record {
        first = atom_at a shifts k span.first d lt (elim cover.first [ inl e ↦ absurd (omega arith) | inr some ↦ some ]);
        last = atom_at a shifts k span.last d lt (elim cover.last [
          | inl e ↦ any_from_contained (λ (t : Atom). (t.column ≡ k) × (t.row ≡ span.last)) atoms (atom_of a shifts own.0) (contains_map (atom_of a shifts) shifts own.0 own.1) (number, omega arith)
          | inr some ↦ some
        ]);
        within = all_from_contains (λ (s : Shift). source_x a s ≡ l.from → (span.first ≤ source_y a s) × (source_y a s ≤ span.last)) shifts
            (λ s c e. ends s c (column_number a shifts s k d lt e));
      };
}
