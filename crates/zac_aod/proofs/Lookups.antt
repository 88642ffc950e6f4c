-- What is looked up of the atoms of a group: those of a row, and whether they stand in a column.
use Rattle.std.proofs.Common.{◌≡◌, ℕ, suc, ◌+◌, ◌-◌, ◌<◌, ◌≤◌, inl, inr, Bool, true, false, cond, ◌==◌, ◌&&◌, Some, None, List, [], ◌∷◌, ◌++◌, length, map, filter, take, drop, get_or, refl, sym, ap, ◌∙◌, subst, arith, length-drop}
use Rattle.std.specs.List.{All, AllPairs, AllWithin, Contains, list_any, slice_range}
use Rattle.std.specs.List.Sorted.{IsNonDecreasingBy}
use Rattle.std.proofs.lemmas.Bool.{and_from, and_parts, cases_Bool, cases_lt, eq-eqb, eqb-true, false_from_ne_true, ne_eqb}
use Rattle.std.proofs.lemmas.Option.{cond_some, none-some}
use Rattle.std.proofs.lemmas.List.{get_or-drop, get_or-take, length-take-le, take-append-drop}
use Rattle.std.proofs.lemmas.List.Elements.{filter-append}
use Rattle.std.proofs.lemmas.List.Folds.{drop_split}
use Rattle.std.proofs.lemmas.List.Kept.{AllPairs-filter}
use Rattle.zac_arch.specs.Architecture.{Architecture}
use Rattle.zac_group.specs.Moves.{source_x, source_y}
use Rattle.zac_group.specs.declared.shift.Shift.{Shift}
use Rattle.zair_form.specs.declared.step.Beam.{Beam}
use Rattle.zair_state.proofs.Membership.{all_from_contains, contained_in_filter, contained_in_map, contains_filter, contains_map}
use Rattle.zac_aod.specs.Layout.{ComesBefore, atom_of, place_over}
use Rattle.zac_aod.specs.Lines.{columns_of, has_atom, number_of}
use Rattle.zac_aod.specs.Lowering.{moves_of_row}
use Rattle.zac_aod.specs.Stages.{beams_over}
use Rattle.zac_aod.specs.declared.atom.Atom.{Atom}
use Rattle.zac_aod.specs.declared.line.Line.{Line}
use Rattle.zac_aod.proofs.BeamFacts.{beam_of, from_line, has_beam, rising_over, same_beams}
use Rattle.zac_aod.proofs.Gathering.{append_none, taken_off, taken_on}
use Rattle.zac_aod.proofs.LineFacts.{column_of, columns_rise}
use Rattle.zac_aod.proofs.LineLists.{sources_stay}
use Rattle.zac_aod.proofs.Numbers.{at_number, number_at}
use Rattle.zac_aod.proofs.Tests.{pairs_among, pairs_map, passes_at, passing, same_tests}

-- a test picks nothing where it fails of each element, and all where it passes
filter_none : {X : Type 0} (p : X → Bool) (xs : List X) → All (λ x. p x ≡ false) xs → filter p xs ≡ []
filter_none p [] h = refl
filter_none p (x ∷ xs) h =
    ap (λ t. cond t (x ∷ filter p xs) (filter p xs)) (h 0 x (omega arith)) ∙ filter_none p xs (λ k d lt. h (suc k) d (omega arith))

filter_all : {X : Type 0} (p : X → Bool) (xs : List X) → All (λ x. p x ≡ true) xs → filter p xs ≡ xs
filter_all p [] h = refl
filter_all p (x ∷ xs) h =
    ap (λ t. cond t (x ∷ filter p xs) (filter p xs)) (h 0 x (omega arith)) ∙ ap (λ ys. x ∷ ys) (filter_all p xs (λ k d lt. h (suc k) d (omega arith)))

-- a test that passes between two places alone picks what is between them
pub filter_between : {X : Type 0} (p : X → Bool) (xs : List X) (i j : ℕ) → i ≤ j → j ≤ length xs
    → AllWithin (λ x. p x ≡ false) xs 0 i → AllWithin (λ x. p x ≡ true) xs i j → AllWithin (λ x. p x ≡ false) xs j (length xs)
    → filter p xs ≡ slice_range xs i j
filter_between {X} p xs i j le within before between after =
    let first : length (take i xs) ≡ i = length-take-le i xs (omega arith) in
    let rest : length (drop i xs) ≡ length xs - i = length-drop i xs in
    let size : length (slice_range xs i j) ≡ j - i = length-take-le (j - i) (drop i xs) (omega arith) in
    let left : length (drop j xs) ≡ length xs - j = length-drop j xs in
    let front : filter p (take i xs) ≡ [] =
    filter_none p (take i xs) (λ k d lt. subst (λ x. p x ≡ false) (sym (get_or-take i xs k d (omega arith))) (before k d (omega arith) (omega arith))) in
    let middle : filter p (slice_range xs i j) ≡ slice_range xs i j =
    filter_all p (slice_range xs i j) (λ k d lt.
    subst (λ x. p x ≡ true) (sym (get_or-take (j - i) (drop i xs) k d (omega arith) ∙ get_or-drop i xs k d)) (between (i + k) d (omega arith) (omega arith))) in
    let back : filter p (drop j xs) ≡ [] =
    filter_none p (drop j xs) (λ k d lt. subst (λ x. p x ≡ false) (sym (get_or-drop j xs k d)) (after (j + k) d (omega arith) (omega arith))) in
    ap (filter p) (sym (take-append-drop i xs) ∙ ap (λ ys. take i xs ++ ys) (drop_split xs i j le))
    ∙ filter-append p (take i xs) (slice_range xs i j ++ drop j xs)
    ∙ ap (λ ys. ys ++ filter p (slice_range xs i j ++ drop j xs)) front
    ∙ filter-append p (slice_range xs i j) (drop j xs)
    ∙ ap (λ ys. ys ++ filter p (drop j xs)) middle
    ∙ ap (λ ys. slice_range xs i j ++ ys) back
    ∙ append_none (slice_range xs i j)

kept_of_map : {X Y : Type 0} (f : X → Y) (t : Bool) (x : X) (ys : List Y) (xs : List X) → ys ≡ map f xs → cond t (f x ∷ ys) ys ≡ map f (cond t (x ∷ xs) xs)
kept_of_map f true x ys xs e = ap (λ zs. f x ∷ zs) e
kept_of_map f false x ys xs e = e

-- what a test picks of values is what it picks of what they come from
pub filter_of_map : {X Y : Type 0} (p : Y → Bool) (f : X → Y) (xs : List X) → filter p (map f xs) ≡ map f (filter (λ (x : X). p (f x)) xs)
filter_of_map p f [] = refl
filter_of_map {X} p f (x ∷ xs) = kept_of_map f (p (f x)) x (filter p (map f xs)) (filter (λ (z : X). p (f z)) xs) (filter_of_map p f xs)

-- values of values
pub map_of_map : {X Y Z : Type 0} (g : Y → Z) (f : X → Y) (xs : List X) → map g (map f xs) ≡ map (λ (x : X). g (f x)) xs
map_of_map g f [] = refl
map_of_map g f (x ∷ xs) = ap (λ zs. g (f x) ∷ zs) (map_of_map g f xs)

-- two values that agree where a test passes agree on what it picks
pub map_picked : {X Y : Type 0} (f g : X → Y) (p : X → Bool) (xs : List X) → ((x : X) → p x ≡ true → f x ≡ g x) → map f (filter p xs) ≡ map g (filter p xs)
map_picked f g p [] h = refl
map_picked {X} {Y} f g p (x ∷ xs) h = elim (cases_Bool (p x)) [
  | inl t ↦
      ap (λ b. map f (cond b (x ∷ filter p xs) (filter p xs))) t
      ∙ (λ i. h x t i ∷ map_picked f g p xs h i)
      ∙ ap (λ b. map g (cond b (x ∷ filter p xs) (filter p xs))) (sym t)
  | inr t ↦
      ap (λ b. map f (cond b (x ∷ filter p xs) (filter p xs))) t
      ∙ map_picked f g p xs h
      ∙ ap (λ b. map g (cond b (x ∷ filter p xs) (filter p xs))) (sym t)
]

-- atoms by rising row
pub rows_sorted : (atoms : List Atom) → AllPairs ComesBefore atoms → IsNonDecreasingBy (λ (a : Atom). a.row) atoms
rows_sorted atoms order i j d le within = elim (cases_lt i j) [
  | inl before ↦ (order i j d before within).0
  | inr far ↦ let same : i ≡ j = omega arith in let e : (get_or atoms i d).row ≡ (get_or atoms j d).row = ap (λ n. (get_or atoms n d).row) same in omega arith
]

-- those of a row stand between those below it and those above it
pub row_between : (atoms : List Atom) (row start end : ℕ) → start ≤ end → end ≤ length atoms
    → AllWithin (λ (a : Atom). a.row < row) atoms 0 start → AllWithin (λ (a : Atom). row ≤ a.row) atoms start (length atoms)
    → AllWithin (λ (a : Atom). a.row ≤ row) atoms 0 end → AllWithin (λ (a : Atom). row < a.row) atoms end (length atoms)
    → filter (λ (a : Atom). a.row == row) atoms ≡ slice_range atoms start end
row_between atoms row start end le within below from upto above =
    filter_between (λ (a : Atom). a.row == row) atoms start end le within
    (λ k d far lt. let less = below k d far lt in ne_eqb (get_or atoms k d).row row (λ e. omega arith))
    (λ k d far lt. let most = upto k d (omega arith) lt in let least = from k d far (omega arith) in eq-eqb (get_or atoms k d).row row (omega arith))
    (λ k d far lt. let more = above k d far lt in ne_eqb (get_or atoms k d).row row (λ e. omega arith))

pub no_later : (atoms : List Atom) (row start end : ℕ) → start ≤ length atoms
    → AllWithin (λ (a : Atom). a.row < row) atoms 0 start → AllWithin (λ (a : Atom). row < a.row) atoms end (length atoms) → start ≤ end
no_later atoms row start end within below above = elim (cases_lt end start) [
  | inl lt ↦
      let z : Atom = record { q = 0; to = record { 0 = 0 }; row = 0; column = 0 } in
      let less = below end z (omega arith) lt in
      let more = above end z (omega arith) (omega arith) in
      absurd (omega arith)
  | inr le ↦ le
]

-- the column of an atom
pub atom_column : (a : Architecture) (shifts : List Shift) (s : Shift) → Contains shifts s → (m : Line) × Contains (columns_of a shifts) m × (m.from ≡ source_x a s)
atom_column a shifts s c = sources_stay (map (column_of a) shifts) (column_of a s) (contains_map (column_of a) shifts s c)

pub column_within : (a : Architecture) (shifts : List Shift) (s : Shift) → Contains shifts s → (atom_of a shifts s).column < length (columns_of a shifts)
column_within a shifts s c =
    let m = atom_column a shifts s c in
    subst (λ n. number_of (columns_of a shifts) n < length (columns_of a shifts)) m.2 (at_number (columns_of a shifts) (columns_rise a shifts) m.0 m.1).within

pub columns_within : (a : Architecture) (shifts : List Shift) → All (λ (t : Atom). t.column < length (columns_of a shifts)) (map (atom_of a shifts) shifts)
columns_within a shifts =
    all_from_contains (λ (t : Atom). t.column < length (columns_of a shifts)) (map (atom_of a shifts) shifts) (λ t c.
    let move = contained_in_map (atom_of a shifts) shifts t c in
    subst (λ (u : Atom). u.column < length (columns_of a shifts)) move.2 (column_within a shifts move.0 move.1))

pub row_within : (a : Architecture) (shifts : List Shift) (row : ℕ) (atoms : List Atom) → atoms ≡ map (atom_of a shifts) (moves_of_row a shifts row) → All (λ (t : Atom). t.column < length (columns_of a shifts)) atoms
row_within a shifts row atoms is =
    all_from_contains (λ (t : Atom). t.column < length (columns_of a shifts)) atoms (λ t c.
    let move = contained_in_map (atom_of a shifts) (moves_of_row a shifts row) t (subst (λ (ts : List Atom). Contains ts t) is c) in
    subst (λ (u : Atom). u.column < length (columns_of a shifts)) move.2
    (column_within a shifts move.0 (contained_in_filter (λ (s : Shift). source_y a s == row) shifts move.0 move.1).0))

-- the line of an atom's column has the source of its move
pub column_from : (a : Architecture) (shifts : List Shift) (s : Shift) → Contains shifts s → (d : Line) → (get_or (columns_of a shifts) (atom_of a shifts s).column d).from ≡ source_x a s
column_from a shifts s c d =
    let m = atom_column a shifts s c in
    ap (λ n. (get_or (columns_of a shifts) (number_of (columns_of a shifts) n) d).from) (sym m.2)
    ∙ ap (λ (l : Line). l.from) ((at_number (columns_of a shifts) (columns_rise a shifts) m.0 m.1).is d)
    ∙ m.2

pub column_number : (a : Architecture) (shifts : List Shift) (s : Shift) (k : ℕ) (d : Line) → k < length (columns_of a shifts) → source_x a s ≡ (get_or (columns_of a shifts) k d).from → (atom_of a shifts s).column ≡ k
column_number a shifts s k d lt e = ap (number_of (columns_of a shifts)) e ∙ number_at (columns_of a shifts) (columns_rise a shifts) k d lt

-- an atom of the row stands in the column of this number
pub marked : (a : Architecture) (shifts : List Shift) (row k : ℕ) (d : Line) → k < length (columns_of a shifts)
    → list_any (λ (t : Atom). t.column == k) (map (atom_of a shifts) (moves_of_row a shifts row)) ≡ has_atom a shifts row (get_or (columns_of a shifts) k d).from
marked a shifts row k d lt =
    let l = get_or (columns_of a shifts) k d in
    let atoms = map (atom_of a shifts) (moves_of_row a shifts row) in
    same_tests (list_any (λ (t : Atom). t.column == k) atoms) (has_atom a shifts row l.from)
    (λ e.
    let found = passing (λ (t : Atom). t.column == k) atoms e in
    let move = contained_in_map (atom_of a shifts) (moves_of_row a shifts row) found.0 found.1 in
    let among = contained_in_filter (λ (s : Shift). source_y a s == row) shifts move.0 move.1 in
    let number : (atom_of a shifts move.0).column ≡ k = ap (λ (t : Atom). t.column) move.2 ∙ eqb-true found.0.column k found.2 in
    let x : source_x a move.0 ≡ l.from = sym (column_from a shifts move.0 among.0 d) ∙ ap (λ n. (get_or (columns_of a shifts) n d).from) number in
    passes_at (λ (s : Shift). source_y a s == row && source_x a s == l.from) shifts move.0 among.0
    (and_from (source_y a move.0 == row) (source_x a move.0 == l.from) among.1 (eq-eqb (source_x a move.0) l.from x)))
    (λ e.
    let found = passing (λ (s : Shift). source_y a s == row && source_x a s == l.from) shifts e in
    let parts = and_parts (source_y a found.0 == row) (source_x a found.0 == l.from) found.2 in
    let number = column_number a shifts found.0 k d lt (eqb-true (source_x a found.0) l.from parts.1) in
    passes_at (λ (t : Atom). t.column == k) atoms (atom_of a shifts found.0)
    (contains_map (atom_of a shifts) (moves_of_row a shifts row) found.0 (contains_filter (λ (s : Shift). source_y a s == row) shifts found.0 found.1 parts.0))
    (eq-eqb (atom_of a shifts found.0).column k number))

-- atoms of one row stand by rising column
columns_in_row : (a : Architecture) (shifts : List Shift) (row : ℕ) → AllPairs ComesBefore (map (atom_of a shifts) shifts)
    → AllPairs (λ (s t : Atom). s.column < t.column) (map (atom_of a shifts) (moves_of_row a shifts row))
columns_in_row a shifts row order =
    let atoms = map (atom_of a shifts) (moves_of_row a shifts row) in
    let kept : AllPairs ComesBefore atoms =
    subst (λ (ts : List Atom). AllPairs ComesBefore ts) (filter_of_map (λ (t : Atom). t.row == row) (atom_of a shifts) shifts)
    (AllPairs-filter ComesBefore (λ (t : Atom). t.row == row) (map (atom_of a shifts) shifts) order) in
    let of_row : (t : Atom) → Contains atoms t → t.row ≡ row = λ t c.
    let move = contained_in_map (atom_of a shifts) (moves_of_row a shifts row) t c in
    let among = contained_in_filter (λ (s : Shift). source_y a s == row) shifts move.0 move.1 in
    ap (λ (u : Atom). u.row) (sym move.2) ∙ eqb-true (source_y a move.0) row among.1 in
    pairs_among Atom ComesBefore (λ (s t : Atom). s.column < t.column) atoms (λ s t cs ct before. before.1 (of_row s cs ∙ sym (of_row t ct))) kept

-- the beam of the column in which an atom stands
abbrev pub beam_of_atom : List Line → (Line → ℕ) → Atom → Beam
beam_of_atom columns at atom = record { id = atom.column; at = at (get_or columns atom.column (record { from = 0; to = 0 })) }

-- the atom's column passes a test
abbrev pub in_column : List Line → (Line → Bool) → Atom → Bool
in_column columns test atom = test (get_or columns atom.column (record { from = 0; to = 0 }))

pub column_of_row : (a : Architecture) (shifts : List Shift) (row : ℕ) (atoms : List Atom) → atoms ≡ map (atom_of a shifts) (moves_of_row a shifts row) → (columns : List Line) → columns ≡ columns_of a shifts
    → (k : ℕ) (d : Atom) → k < length atoms → (get_or atoms k d).column < length columns
column_of_row a shifts row atoms is columns are k d lt =
    let within = row_within a shifts row atoms is k d lt in
    let size : length columns ≡ length (columns_of a shifts) = ap (λ (ls : List Line). length ls) are in
    omega arith

-- one more atom's column is given a place, or none
pub picked_on : (columns : List Line) (test : Line → Bool) (at : Line → ℕ) (atoms : List Atom) (k : ℕ) (d : Atom) → k < length atoms → (place : ℕ)
    → Some place ≡ place_over test at (get_or columns (get_or atoms k d).column (record { from = 0; to = 0 }))
    → (beams : List Beam) → beams ≡ map (beam_of_atom columns at) (filter (in_column columns test) (take k atoms))
    → beams ++ record { id = (get_or atoms k d).column; at = place } ∷ [] ≡ map (beam_of_atom columns at) (filter (in_column columns test) (take (k + 1) atoms))
picked_on columns test at atoms k d lt place given beams so_far =
    let l : Line = get_or columns (get_or atoms k d).column (record { from = 0; to = 0 }) in
    let on = cond_some (test l) (at l) place (sym given) in
    ap (λ (n : ℕ). beams ++ record { id = (get_or atoms k d).column; at = n } ∷ []) (sym on.1)
    ∙ taken_on (beam_of_atom columns at) (in_column columns test) atoms k d lt on.0 beams so_far

pub picked_off : (columns : List Line) (test : Line → Bool) (at : Line → ℕ) (atoms : List Atom) (k : ℕ) (d : Atom) → k < length atoms
    → None ≡ place_over test at (get_or columns (get_or atoms k d).column (record { from = 0; to = 0 }))
    → (beams : List Beam) → beams ≡ map (beam_of_atom columns at) (filter (in_column columns test) (take k atoms))
    → beams ≡ map (beam_of_atom columns at) (filter (in_column columns test) (take (k + 1) atoms))
picked_off columns test at atoms k d lt given beams so_far =
    let l : Line = get_or columns (get_or atoms k d).column (record { from = 0; to = 0 }) in
    taken_off (beam_of_atom columns at) (in_column columns test) atoms k d lt
    (false_from_ne_true (test l) (λ on. none-some (at l) (given ∙ ap (λ b. cond b (Some (at l)) None) on)))
    beams so_far

-- the columns of a row that pass a test are those of its atoms
pub beams_of_row : (a : Architecture) (shifts : List Shift) (row : ℕ) (test : Line → Bool) (at : Line → ℕ) → AllPairs ComesBefore (map (atom_of a shifts) shifts)
    → map (beam_of_atom (columns_of a shifts) at) (filter (in_column (columns_of a shifts) test) (map (atom_of a shifts) (moves_of_row a shifts row)))
    ≡ beams_over (λ l. has_atom a shifts row l.from && test l) at 0 (columns_of a shifts)
beams_of_row a shifts row test at order =
    let z : Line = record { from = 0; to = 0 } in
    let columns = columns_of a shifts in
    let rise = columns_rise a shifts in
    let atoms = map (atom_of a shifts) (moves_of_row a shifts row) in
    let picked = filter (in_column columns test) atoms in
    let active : Line → Bool = λ l. has_atom a shifts row l.from && test l in
    same_beams (map (beam_of_atom columns at) picked) (beams_over active at 0 columns)
    (pairs_map Atom Beam (λ (b c : Beam). b.id < c.id) (beam_of_atom columns at) picked
    (AllPairs-filter (λ (s t : Atom). s.column < t.column) (in_column columns test) atoms (columns_in_row a shifts row order)))
    (rising_over active at 0 columns)
    (λ b c.
    let atom = contained_in_map (beam_of_atom columns at) picked b c in
    let passes = contained_in_filter (in_column columns test) atoms atom.0 atom.1 in
    let move = contained_in_map (atom_of a shifts) (moves_of_row a shifts row) atom.0 passes.0 in
    let among = contained_in_filter (λ (s : Shift). source_y a s == row) shifts move.0 move.1 in
    let line = atom_column a shifts move.0 among.0 in
    let place = at_number columns rise line.0 line.1 in
    let number : number_of columns line.0.from ≡ atom.0.column = ap (number_of columns) line.2 ∙ ap (λ (t : Atom). t.column) move.2 in
    let here : get_or columns atom.0.column z ≡ line.0 = ap (λ n. get_or columns n z) (sym number) ∙ place.is z in
    let on : active line.0 ≡ true =
    and_from (has_atom a shifts row line.0.from) (test line.0)
    (passes_at (λ (s : Shift). source_y a s == row && source_x a s == line.0.from) shifts move.0 among.0
    (and_from (source_y a move.0 == row) (source_x a move.0 == line.0.from) among.1 (eq-eqb (source_x a move.0) line.0.from (sym line.2))))
    (ap test (sym here) ∙ passes.1) in
    let back = sym here in
    let same : beam_of columns at line.0 ≡ b = (λ i. record { id = number i; at = at (back i) }) ∙ atom.2 in
    subst (λ (x : Beam). Contains (beams_over active at 0 columns) x) same (has_beam active at columns rise line.0 line.1 on))
    (λ b c.
    let l = from_line active at columns rise b c in
    let parts = and_parts (has_atom a shifts row l.line.from) (test l.line) l.is_active in
    let found = passing (λ (s : Shift). source_y a s == row && source_x a s == l.line.from) shifts parts.0 in
    let at_row = and_parts (source_y a found.0 == row) (source_x a found.0 == l.line.from) found.2 in
    let x : source_x a found.0 ≡ l.line.from = eqb-true (source_x a found.0) l.line.from at_row.1 in
    let atom = atom_of a shifts found.0 in
    let number : atom.column ≡ number_of columns l.line.from = ap (number_of columns) x in
    let here : get_or columns atom.column z ≡ l.line = ap (λ n. get_or columns n z) number ∙ (at_number columns rise l.line l.among).is z in
    let same : beam_of_atom columns at atom ≡ b = (λ i. record { id = number i; at = at (here i) }) ∙ sym l.is in
    subst (λ (x : Beam). Contains (map (beam_of_atom columns at) picked) x) same
    (contains_map (beam_of_atom columns at) picked atom
    (contains_filter (in_column columns test) atoms atom
    (contains_map (atom_of a shifts) (moves_of_row a shifts row) found.0 (contains_filter (λ (s : Shift). source_y a s == row) shifts found.0 found.1 at_row.0))
    (ap test here ∙ parts.1))))
