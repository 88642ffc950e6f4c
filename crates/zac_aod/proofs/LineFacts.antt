-- Rows and columns of groups: by rising source and rising target, each with an atom.
use Rattle.std.proofs.Common.{◌≡◌, ℕ, ◌<◌, ◌≤◌, ◌⊎◌, inl, inr, List, [], ◌∷◌, length, get_or, map, refl, sym, ap, ◌∙◌, subst, arith}
use Rattle.std.specs.List.{AllPairs, Contains}
use Rattle.std.proofs.lemmas.List.Elements.{Contains-get_or}
use Rattle.zac_arch.specs.Architecture.{Architecture}
use Rattle.zac_group.specs.Groups.{count_distinct, StartsBefore}
use Rattle.zac_group.specs.Moves.{IsCompatible, source_x, source_y, target_x, target_y}
use Rattle.zac_group.specs.declared.shift.Shift.{Shift}
use Rattle.zair_state.proofs.Membership.{contains_map, contained_in_map, one_or_related}
use Rattle.zac_aod.specs.Lines.{rows_of, columns_of}
use Rattle.zac_aod.specs.declared.line.Line.{Line}
use Rattle.zac_aod.specs.CardLaws.{Grouped}
use Rattle.zac_aod.proofs.Comparing.{equal_as, less_as, greater_as}
pub use Rattle.zac_aod.proofs.LineLists.{Rise, rise_by_source, contained_in_by_source, sources_stay, length_by_source}

-- the row and the column of a move
abbrev pub row_of : Architecture → Shift → Line
row_of a s = record { from = source_y a s; to = target_y a s }

abbrev pub column_of : Architecture → Shift → Line
column_of a s = record { from = source_x a s; to = target_x a s }

-- any two moves of a group are one or compatible
pub one_or_compatible : (a : Architecture) (shifts : List Shift) → Grouped a shifts → (s t : Shift) → Contains shifts s → Contains shifts t
    → (s ≡ t) ⊎ (IsCompatible a s t ⊎ IsCompatible a t s)
one_or_compatible a shifts g s t c d = one_or_related (IsCompatible a) shifts s t g.compatible c d

-- moves from one row go to one row
to_one_row : (a : Architecture) (shifts : List Shift) → Grouped a shifts → (s t : Shift) → Contains shifts s → Contains shifts t
    → source_y a s ≡ source_y a t → target_y a s ≡ target_y a t
to_one_row a shifts g s t c d e = elim (one_or_compatible a shifts g s t c d) [
  | inl same ↦ ap (target_y a) same
  | inr w ↦ elim w [
    | inl h ↦ equal_as (source_y a s) (source_y a t) (target_y a s) (target_y a t) h.rows e
    | inr h ↦ sym (equal_as (source_y a t) (source_y a s) (target_y a t) (target_y a s) h.rows (sym e))
  ]
]

to_one_column : (a : Architecture) (shifts : List Shift) → Grouped a shifts → (s t : Shift) → Contains shifts s → Contains shifts t
    → source_x a s ≡ source_x a t → target_x a s ≡ target_x a t
to_one_column a shifts g s t c d e = elim (one_or_compatible a shifts g s t c d) [
  | inl same ↦ ap (target_x a) same
  | inr w ↦ elim w [
    | inl h ↦ equal_as (source_x a s) (source_x a t) (target_x a s) (target_x a t) h.columns e
    | inr h ↦ sym (equal_as (source_x a t) (source_x a s) (target_x a t) (target_x a s) h.columns (sym e))
  ]
]

-- moves from rising rows go to rising rows
pub to_rising_rows : (a : Architecture) (shifts : List Shift) → Grouped a shifts → (s t : Shift) → Contains shifts s → Contains shifts t
    → source_y a s < source_y a t → target_y a s < target_y a t
to_rising_rows a shifts g s t c d lt = elim (one_or_compatible a shifts g s t c d) [
  | inl same ↦ let e : source_y a s ≡ source_y a t = ap (source_y a) same in absurd (omega arith)
  | inr w ↦ elim w [
    | inl h ↦ less_as (source_y a s) (source_y a t) (target_y a s) (target_y a t) h.rows lt
    | inr h ↦ greater_as (source_y a t) (source_y a s) (target_y a t) (target_y a s) h.rows lt
  ]
]

pub to_rising_columns : (a : Architecture) (shifts : List Shift) → Grouped a shifts → (s t : Shift) → Contains shifts s → Contains shifts t
    → source_x a s < source_x a t → target_x a s < target_x a t
to_rising_columns a shifts g s t c d lt = elim (one_or_compatible a shifts g s t c d) [
  | inl same ↦ let e : source_x a s ≡ source_x a t = ap (source_x a) same in absurd (omega arith)
  | inr w ↦ elim w [
    | inl h ↦ less_as (source_x a s) (source_x a t) (target_x a s) (target_x a t) h.columns lt
    | inr h ↦ greater_as (source_x a t) (source_x a s) (target_x a t) (target_x a s) h.columns lt
  ]
]

pub has_row : (a : Architecture) (shifts : List Shift) → Grouped a shifts → (s : Shift) → Contains shifts s → Contains (rows_of a shifts) (row_of a s)
has_row a shifts g s c =
    let r = sources_stay (map (row_of a) shifts) (row_of a s) (contains_map (row_of a) shifts s c) in
    let t = contained_in_map (row_of a) shifts r.0 (contained_in_by_source (map (row_of a) shifts) r.0 r.1) in
    let e : source_y a t.0 ≡ source_y a s = ap (λ (l : Line). l.from) t.2 ∙ r.2 in
    let f : target_y a t.0 ≡ target_y a s = to_one_row a shifts g t.0 s t.1 c e in
    let same : row_of a t.0 ≡ row_of a s = λ i. record { from = e i; to = f i } in
    subst (λ (l : Line). Contains (rows_of a shifts) l) (sym t.2 ∙ same) r.1

pub has_column : (a : Architecture) (shifts : List Shift) → Grouped a shifts → (s : Shift) → Contains shifts s → Contains (columns_of a shifts) (column_of a s)
has_column a shifts g s c =
    let r = sources_stay (map (column_of a) shifts) (column_of a s) (contains_map (column_of a) shifts s c) in
    let t = contained_in_map (column_of a) shifts r.0 (contained_in_by_source (map (column_of a) shifts) r.0 r.1) in
    let e : source_x a t.0 ≡ source_x a s = ap (λ (l : Line). l.from) t.2 ∙ r.2 in
    let f : target_x a t.0 ≡ target_x a s = to_one_column a shifts g t.0 s t.1 c e in
    let same : column_of a t.0 ≡ column_of a s = λ i. record { from = e i; to = f i } in
    subst (λ (l : Line). Contains (columns_of a shifts) l) (sym t.2 ∙ same) r.1

pub atom_of_row : (a : Architecture) (shifts : List Shift) (l : Line) → Contains (rows_of a shifts) l → (s : Shift) × Contains shifts s × (row_of a s ≡ l)
atom_of_row a shifts l c = contained_in_map (row_of a) shifts l (contained_in_by_source (map (row_of a) shifts) l c)

pub atom_of_column : (a : Architecture) (shifts : List Shift) (l : Line) → Contains (columns_of a shifts) l → (s : Shift) × Contains shifts s × (column_of a s ≡ l)
atom_of_column a shifts l c = contained_in_map (column_of a) shifts l (contained_in_by_source (map (column_of a) shifts) l c)

pub rows_rise : (a : Architecture) (shifts : List Shift) → Rise (rows_of a shifts)
rows_rise a shifts = rise_by_source (map (row_of a) shifts)

pub columns_rise : (a : Architecture) (shifts : List Shift) → Rise (columns_of a shifts)
columns_rise a shifts = rise_by_source (map (column_of a) shifts)

-- of two rows the one with the lower source has the lower target
pub row_lands_below : (a : Architecture) (shifts : List Shift) → Grouped a shifts → (l m : Line) → Contains (rows_of a shifts) l
    → Contains (rows_of a shifts) m → l.from < m.from → l.to < m.to
row_lands_below a shifts g l m c d lt =
    let s = atom_of_row a shifts l c in
    let t = atom_of_row a shifts m d in
    let sf : source_y a s.0 ≡ l.from = ap (λ (l : Line). l.from) s.2 in
    let st : target_y a s.0 ≡ l.to = ap (λ (l : Line). l.to) s.2 in
    let tf : source_y a t.0 ≡ m.from = ap (λ (l : Line). l.from) t.2 in
    let to : target_y a t.0 ≡ m.to = ap (λ (l : Line). l.to) t.2 in
    let below = to_rising_rows a shifts g s.0 t.0 s.1 t.1 (omega arith) in
    omega arith

pub column_lands_below : (a : Architecture) (shifts : List Shift) → Grouped a shifts → (l m : Line) → Contains (columns_of a shifts) l
    → Contains (columns_of a shifts) m → l.from < m.from → l.to < m.to
column_lands_below a shifts g l m c d lt =
    let s = atom_of_column a shifts l c in
    let t = atom_of_column a shifts m d in
    let sf : source_x a s.0 ≡ l.from = ap (λ (l : Line). l.from) s.2 in
    let st : target_x a s.0 ≡ l.to = ap (λ (l : Line). l.to) s.2 in
    let tf : source_x a t.0 ≡ m.from = ap (λ (l : Line). l.from) t.2 in
    let to : target_x a t.0 ≡ m.to = ap (λ (l : Line). l.to) t.2 in
    let below = to_rising_columns a shifts g s.0 t.0 s.1 t.1 (omega arith) in
    omega arith

pub rows_land_rising : (a : Architecture) (shifts : List Shift) → Grouped a shifts → AllPairs (λ (l m : Line). l.to < m.to) (rows_of a shifts)
rows_land_rising a shifts g i j d before within =
    let rows = rows_of a shifts in
    row_lands_below a shifts g (get_or rows i d) (get_or rows j d) (Contains-get_or rows i d (omega arith)) (Contains-get_or rows j d within)
    (rows_rise a shifts i j d before within)

pub columns_land_rising : (a : Architecture) (shifts : List Shift) → Grouped a shifts → AllPairs (λ (l m : Line). l.to < m.to) (columns_of a shifts)
columns_land_rising a shifts g i j d before within =
    let columns = columns_of a shifts in
    column_lands_below a shifts g (get_or columns i d) (get_or columns j d) (Contains-get_or columns i d (omega arith)) (Contains-get_or columns j d within)
    (columns_rise a shifts i j d before within)

sources_of_rows : (a : Architecture) (shifts : List Shift) → map (λ (l : Line). l.from) (map (row_of a) shifts) ≡ map (source_y a) shifts
sources_of_rows a [] = refl
sources_of_rows a (s ∷ ss) = ap (λ (ns : List ℕ). source_y a s ∷ ns) (sources_of_rows a ss)

sources_of_columns : (a : Architecture) (shifts : List Shift) → map (λ (l : Line). l.from) (map (column_of a) shifts) ≡ map (source_x a) shifts
sources_of_columns a [] = refl
sources_of_columns a (s ∷ ss) = ap (λ (ns : List ℕ). source_x a s ∷ ns) (sources_of_columns a ss)

pub few_rows : (a : Architecture) (shifts : List Shift) → Grouped a shifts → length (rows_of a shifts) ≤ a.figures.rows
few_rows a shifts g =
    let counted : length (rows_of a shifts) ≡ count_distinct (map (source_y a) shifts) =
    length_by_source (map (row_of a) shifts) ∙ ap count_distinct (sources_of_rows a shifts) in
    let within = g.within.rows in
    omega arith

pub few_columns : (a : Architecture) (shifts : List Shift) → Grouped a shifts → length (columns_of a shifts) ≤ a.figures.columns
few_columns a shifts g =
    let counted : length (columns_of a shifts) ≡ count_distinct (map (source_x a) shifts) =
    length_by_source (map (column_of a) shifts) ∙ ap count_distinct (sources_of_columns a shifts) in
    let within = g.within.columns in
    omega arith

-- two moves that start in one row and one column are one
pub one_move : (a : Architecture) (shifts : List Shift) → Grouped a shifts → (s t : Shift) → Contains shifts s → Contains shifts t → source_y a s ≡ source_y a t → source_x a s ≡ source_x a t → s ≡ t
one_move a shifts g s t c d ey ex = elim (one_or_related (StartsBefore a) shifts s t g.in_order c d) [
  | inl same ↦ same
  | inr w ↦ elim w [
    | inl before ↦ elim before [ inl lt ↦ absurd (omega arith) | inr h ↦ let lt = h.1 in absurd (omega arith) ]
    | inr after ↦ elim after [ inl lt ↦ absurd (omega arith) | inr h ↦ let lt = h.1 in absurd (omega arith) ]
  ]
]
