-- In each move of a job some beam goes somewhere.
use Rattle.std.proofs.Common.{◌≡◌, ◌≢◌, ℕ, ◌+◌, ◌<◌, ◌≤◌, min, max, inl, inr, Bool, true, false, not, eqb, ltb, if◌then◌else◌, Option, None, Some, List, [], ◌∷◌, ◌++◌, map, fold, refl, sym, ap, ◌∙◌, subst, arith, eq-eqb}
use Rattle.std.specs.List.{Contains, flat_map}
use Rattle.std.specs.Option.{option_map_or}
use Rattle.std.specs.Prelude.{◌==◌, ◌&&◌, ◌⊎◌, nat_le}
use Rattle.std.proofs.lemmas.Bool.{and_from, and_parts, cases_Bool, cases_eq, cases_order, false≢true, le-leb, ltb-true, ne_eqb}
use Rattle.std.proofs.lemmas.List.{append-nil, append_assoc}
use Rattle.std.proofs.lemmas.List.Concat.{flat_map-append}
use Rattle.std.proofs.lemmas.List.Elements.{All-contains}
use Rattle.zac_arch.specs.Architecture.{Architecture}
use Rattle.zac_arch.specs.Distances.{difference}
use Rattle.zac_arch.specs.Parking.{IsCorner}
use Rattle.zac_arch.specs.declared.place.Point.{Point}
use Rattle.zac_group.specs.Moves.{source_x, source_y}
use Rattle.zac_group.specs.declared.shift.Shift.{Shift}
use Rattle.zair_form.specs.Times.{rows_set, columns_set, last_at, change, greatest_change}
use Rattle.zair_form.specs.declared.step.Beam.{Beam}
use Rattle.zair_form.specs.declared.step.Step.{Step}
use Rattle.zair_state.specs.Moves.{GoesSomewhere, EachGoesSomewhere}
use Rattle.zair_state.proofs.Changing.{not_farther_there}
use Rattle.zair_state.proofs.Membership.{contains_none, contains_here, contains_cases, contains_map, pairs_head}
use Rattle.zac_aod.specs.Lines.{rows_of, columns_of, number_of, has_atom}
use Rattle.zac_aod.specs.Lowering.{Leg, is_used_before, catch_row, move_to, drop_row, loading, flight, unloading, job_steps}
use Rattle.zac_aod.specs.Stages.{is_loaded, is_column_active, row_at, column_at, rows_at, columns_at, beams_over}
use Rattle.zac_aod.specs.declared.line.Line.{Line}
use Rattle.zac_aod.specs.declared.stage.Stage.TheVariants as stage
use Rattle.zac_aod.proofs.Advancing.{AreAhead, next_ahead, first_ahead, neighbours, rises, last_row}
use Rattle.zac_aod.proofs.BeamFacts.{beam_of, from_line, has_beam, one_line, rising_over}
use Rattle.zac_aod.specs.CardLaws.{CardLaws, Grouped}
use Rattle.zac_aod.proofs.GridFacts.{source_stands, target_stands, source_is_no_target}
use Rattle.zac_aod.proofs.JobSteps.{steps_in}
use Rattle.zac_aod.proofs.LastPlaces.{given_once, set_last, not_given}
use Rattle.zac_aod.proofs.LineFacts.{Rise, rows_rise, columns_rise, row_of, column_of, has_row, has_column, atom_of_row}
use Rattle.zac_aod.proofs.Tests.{passing, passes_at}

-- the greatest change is at least each of them
fold_from : (acc : ℕ) (xs : List ℕ) → acc ≤ fold max acc xs
fold_from acc [] = omega arith
fold_from acc (x ∷ xs) = let more = fold_from (max acc x) xs in let first : acc ≤ max acc x = omega arith in omega arith

fold_has : (acc : ℕ) (xs : List ℕ) (x : ℕ) → Contains xs x → x ≤ fold max acc xs
fold_has acc [] x c = absurd (contains_none x c)
fold_has acc (y ∷ ys) x c = elim (contains_cases y x ys c) [
  | inl e ↦ let more = fold_from (max acc y) ys in let first : y ≤ max acc y = omega arith in omega arith
  | inr later ↦ fold_has (max acc y) ys x later
]

apart : (m n : ℕ) → m ≢ n → 1 ≤ min 1000000 (difference m n)
apart m n ne = elim (cases_order m n) [
  | inl e ↦ absurd (ne e)
  | inr x ↦ elim x [ inl lt ↦ omega arith | inr lt ↦ omega arith ]
]

goes : (given beams : List Beam) (b : Beam) (n : ℕ) → Contains beams b → last_at b.id given ≡ Some n → n ≢ b.at → 1 ≤ greatest_change given beams
goes given beams b n c e ne =
    let own : change given b ≡ min 1000000 (difference n b.at) = ap (λ (o : Option ℕ). option_map_or (λ at. min 1000000 (difference at b.at)) o 0) e in
    let most = fold_has 0 (map (change given) beams) (change given b) (contains_map (change given) beams b c) in
    omega (arith, apart n b.at ne)

-- a step that sets no position leaves the last one
last_kept : (id : ℕ) (xs ys : List Beam) → last_at id ys ≡ None → last_at id (xs ++ ys) ≡ last_at id xs
last_kept id [] ys e = e
last_kept id (x ∷ xs) ys e = ap (λ (o : Option ℕ). option_map_or Some o (if eqb x.id id then Some x.at else None)) (last_kept id xs ys e)

kept_after : (set : Step → List Beam) (before : List Step) (step : Step) (id : ℕ) → last_at id (set step) ≡ None → last_at id (flat_map set (before ++ step ∷ [])) ≡ last_at id (flat_map set before)
kept_after set before step id e =
    ap (last_at id) (flat_map-append set before (step ∷ []) ∙ ap (λ (bs : List Beam). flat_map set before ++ bs) (append-nil (set step)))
    ∙ last_kept id (flat_map set before) (set step) e

-- the position of an active line
given_over : (active : Line → Bool) (at : Line → ℕ) (lines : List Line) → Rise lines → (l : Line) → Contains lines l → active l ≡ true → last_at (number_of lines l.from) (beams_over active at 0 lines) ≡ Some (at l)
given_over active at lines rise l c e = given_once (beams_over active at 0 lines) (beam_of lines at l) (rising_over active at 0 lines) (has_beam active at lines rise l c e)

-- and none of another
none_over : (active : Line → Bool) (at : Line → ℕ) (lines : List Line) → Rise lines → (l : Line) → Contains lines l → active l ≡ false → last_at (number_of lines l.from) (beams_over active at 0 lines) ≡ None
none_over active at lines rise l c e =
    not_given (number_of lines l.from) (beams_over active at 0 lines) (λ b d same.
    let f = from_line active at lines rise b d in
    let one : f.line ≡ l = one_line lines rise f.line l f.among c (ap (λ (x : Beam). x.id) (sym f.is) ∙ same) in
    false≢true (sym e ∙ ap active (sym one) ∙ f.is_active))

unequal : (base park : ℕ) (t u : Bool) → t ≡ false → u ≡ true → 1 ≤ park → base + (if t then 0 else park) ≢ base + (if u then 0 else park)
unequal base park false true e f least same = omega arith
unequal base park false false e f least same = cc
unequal base park true u e f least same = cc

unparked : (base park : ℕ) (t : Bool) → t ≡ true → base + (if t then 0 else park) ≡ base
unparked base park true e = omega arith
unparked base park false e = cc

-- parking: the row that was caught goes beside its source
park_goes : (a : Architecture) (shifts : List Shift) (aod : ℕ) → 1 ≤ a.figures.park → (before : List Step) (r s : Line) → Contains (rows_of a shifts) r
    → GoesSomewhere (before ++ catch_row a shifts aod r.from ∷ []) (move_to a shifts aod (stage.Parked r.from s.from))
park_goes a shifts aod least before r s c =
    let rows = rows_of a shifts in
    let there = stage.Parked r.from s.from in
    let given = flat_map rows_set (before ++ catch_row a shifts aod r.from ∷ []) in
    let last = set_last rows_set before (catch_row a shifts aod r.from) (number_of rows r.from) r.from (given_over (λ l. l.from == r.from) (λ l. l.from) rows (rows_rise a shifts) r c (eq-eqb r.from r.from refl)) in
    let beam = has_beam (λ l. is_loaded there l.from) (row_at a there) rows (rows_rise a shifts) r c (le-leb r.from r.from (omega arith)) in
    let far : r.from ≢ r.from + a.figures.park = λ e. omega arith in
    let up = goes given (rows_at a shifts there) (beam_of rows (row_at a there) r) r.from beam last far in
    omega arith

-- the next row goes onto its target
land_goes : (a : Architecture) (shifts : List Shift) (aod : ℕ) → 1 ≤ a.figures.park → (before : List Step) (r s : Line) → Contains (rows_of a shifts) s → r.from < s.from
    → GoesSomewhere ((before ++ move_to a shifts aod (stage.Landed r.from) ∷ []) ++ drop_row a shifts aod r.from ∷ []) (move_to a shifts aod (stage.Landed s.from))
land_goes a shifts aod least before r s c up =
    let rows = rows_of a shifts in
    let here = stage.Landed r.from in
    let there = stage.Landed s.from in
    let now = before ++ move_to a shifts aod here ∷ [] in
    let given = flat_map rows_set (now ++ drop_row a shifts aod r.from ∷ []) in
    let parked = set_last rows_set before (move_to a shifts aod here) (number_of rows s.from) (row_at a here s) (given_over (λ l. is_loaded here l.from) (row_at a here) rows (rows_rise a shifts) s c (le-leb r.from s.from (omega arith))) in
    let last = kept_after rows_set now (drop_row a shifts aod r.from) (number_of rows s.from) refl ∙ parked in
    let beam = has_beam (λ l. is_loaded there l.from) (row_at a there) rows (rows_rise a shifts) s c (le-leb s.from s.from (omega arith)) in
    let far = unequal s.to a.figures.park (s.from == r.from) (s.from == s.from) (ne_eqb s.from r.from (λ e. omega arith)) (eq-eqb s.from s.from refl) least in
    let on = goes given (rows_at a shifts there) (beam_of rows (row_at a there) s) (row_at a here s) beam last far in
    omega arith

-- where the beams of a row's atoms stood last: exactly at their sources
pub record StandsLoaded (a : Architecture) (shifts : List Shift) (earlier : List Step) (s : Shift) : Type 0 where
  pub row : last_at (number_of (rows_of a shifts) (source_y a s)) (flat_map rows_set earlier) ≡ Some (source_y a s)
  pub column : last_at (number_of (columns_of a shifts) (source_x a s)) (flat_map columns_set earlier) ≡ Some (source_x a s)

-- a parked column stands at most the park distance beyond its place, so its crossing is at a corner of the target
corner_if : (park n m : ℕ) (t : Bool) → m ≡ n + (if t then 0 else park) → (m ≡ n) ⊎ (m ≡ n + park)
corner_if park n m true e = inl (e ∙ omega arith)
corner_if park n m false e = inr e

-- the flight: the crossing of an atom that stood at its source doesn't stay there
flight_goes : (a : Architecture) (shifts : List Shift) → CardLaws a → Grouped a shifts → (aod : ℕ) (earlier : List Step) (r : Line) (s : Shift) → Contains shifts s → r.from ≤ source_y a s
    → StandsLoaded a shifts earlier s → GoesSomewhere earlier (move_to a shifts aod (stage.Landed r.from))
flight_goes a shifts laws g aod earlier r s c first stood =
    let rows = rows_of a shifts in
    let columns = columns_of a shifts in
    let there = stage.Landed r.from in
    let l = row_of a s in
    let m = column_of a s in
    let has = has_row a shifts g s c in
    let across = has_column a shifts g s c in
    let loaded : is_loaded there l.from ≡ true = le-leb r.from l.from first in
    let active : is_column_active a shifts there m ≡ true = passes_at (λ (t : Shift). is_loaded there (source_y a t) && source_x a t == m.from) shifts s c (and_from (is_loaded there l.from) (source_x a s == m.from) loaded (eq-eqb m.from m.from refl)) in
    elim (cases_eq l.from (row_at a there l)) [
      | inr ne ↦
          let up = goes (flat_map rows_set earlier) (rows_at a shifts there) (beam_of rows (row_at a there) l) l.from (has_beam (λ x. is_loaded there x.from) (row_at a there) rows (rows_rise a shifts) l has loaded) stood.row ne in
          omega arith
      | inl ey ↦ elim (cases_eq m.from (column_at a shifts there m)) [
        | inr ne ↦
            let up = goes (flat_map columns_set earlier) (columns_at a shifts there) (beam_of columns (column_at a shifts there) m) m.from
            (has_beam (is_column_active a shifts there) (column_at a shifts there) columns (columns_rise a shifts) m across active) stood.column ne in
            omega arith
        | inl ex ↦
            let p : Point = record { x = m.from; y = l.from } in
            let q : Point = record { x = m.to; y = l.to } in
            let own : IsCorner a.figures.park p p = record { along_x = inl refl; along_y = inl refl } in
            let other : IsCorner a.figures.park q p = record {
              along_x = corner_if a.figures.park m.to m.from (has_atom a shifts r.from m.from) ex;
              along_y = corner_if a.figures.park l.to l.from (l.from == r.from) ey;
            } in
            let two : s.from.0 ≢ s.to.0 = λ e. source_is_no_target a shifts laws g s s c c (λ i. record { 0 = e i }) in
            absurd (not_farther_there a.figures.reach p p refl
            (laws.corners_apart s.from.0 s.to.0 p q p p two (source_stands a shifts laws g s c) (target_stands a shifts laws g s c) own other))
      ]
    ]

-- before a row is caught, its columns that are active stand ready
abbrev Ready : Architecture → List Shift → List Step → Line → Type 0
Ready a shifts before r = (s : Shift) → Contains shifts s → row_of a s ≡ r → is_used_before a shifts r.from (column_of a s) ≡ true
    → last_at (number_of (columns_of a shifts) (source_x a s)) (flat_map columns_set before) ≡ Some (source_x a s)

-- once it is caught, its atoms stand at their sources
caught_stands : (a : Architecture) (shifts : List Shift) → Grouped a shifts → (aod : ℕ) (before : List Step) (r : Line) → Ready a shifts before r → (s : Shift) → Contains shifts s → row_of a s ≡ r
    → StandsLoaded a shifts (before ++ catch_row a shifts aod r.from ∷ []) s
caught_stands a shifts g aod before r ready s c e =
    let rows = rows_of a shifts in
    let columns = columns_of a shifts in
    let step = catch_row a shifts aod r.from in
    let m = column_of a s in
    let here : source_y a s ≡ r.from = ap (λ (l : Line). l.from) e in
    let test : Line → Bool = λ l. has_atom a shifts r.from l.from && not (is_used_before a shifts r.from l) in
    let atom : has_atom a shifts r.from m.from ≡ true = passes_at (λ (t : Shift). source_y a t == r.from && source_x a t == m.from) shifts s c (and_from (source_y a s == r.from) (source_x a s == m.from) (eq-eqb (source_y a s) r.from here) (eq-eqb m.from m.from refl)) in
    record {
      row = set_last rows_set before step (number_of rows (source_y a s)) (source_y a s)
          (given_over (λ l. l.from == r.from) (λ l. l.from) rows (rows_rise a shifts) (row_of a s) (has_row a shifts g s c) (eq-eqb (source_y a s) r.from here));
      column = elim (cases_Bool (is_used_before a shifts r.from m)) [
        | inl used ↦
            let off : test m ≡ false = ap (λ (u : Bool). has_atom a shifts r.from m.from && not u) used ∙ ap (λ (t : Bool). t && false) atom in
            kept_after columns_set before step (number_of columns m.from) (none_over test (λ l. l.from) columns (columns_rise a shifts) m (has_column a shifts g s c) off) ∙ ready s c e used
        | inr new ↦
            let on : test m ≡ true = and_from (has_atom a shifts r.from m.from) (not (is_used_before a shifts r.from m)) atom (ap not new) in
            set_last columns_set before step (number_of columns m.from) m.from (given_over test (λ l. l.from) columns (columns_rise a shifts) m (has_column a shifts g s c) on)
      ];
    }

-- the columns of the next row stand ready once the loaded rows are parked
parked_ready : (a : Architecture) (shifts : List Shift) → Grouped a shifts → (aod : ℕ) (before : List Step) (r s : Line) → ((l : Line) → Contains (rows_of a shifts) l → (l.from ≤ r.from) ⊎ (s.from ≤ l.from))
    → Ready a shifts (before ++ move_to a shifts aod (stage.Parked r.from s.from) ∷ []) s
parked_ready a shifts g aod before r s between t c e used =
    let columns = columns_of a shifts in
    let there = stage.Parked r.from s.from in
    let m = column_of a t in
    let found = passing (λ (u : Shift). ltb (source_y a u) s.from && source_x a u == m.from) shifts used in
    let parts = and_parts (ltb (source_y a found.0) s.from) (source_x a found.0 == m.from) found.2 in
    let low : source_y a found.0 < s.from = ltb-true (source_y a found.0) s.from parts.0 in
    let loaded : source_y a found.0 ≤ r.from = under (source_y a found.0) r.from s.from low (between (row_of a found.0) (has_row a shifts g found.0 found.1)) in
    let active : is_column_active a shifts there m ≡ true = passes_at (λ (u : Shift). is_loaded there (source_y a u) && source_x a u == m.from) shifts found.0 found.1
    (and_from (nat_le (source_y a found.0) r.from) (source_x a found.0 == m.from) (le-leb (source_y a found.0) r.from loaded) parts.1) in
    let here : source_y a t ≡ s.from = ap (λ (l : Line). l.from) e in
    let atom : has_atom a shifts s.from m.from ≡ true = passes_at (λ (u : Shift). source_y a u == s.from && source_x a u == m.from) shifts t c (and_from (source_y a t == s.from) (source_x a t == m.from) (eq-eqb (source_y a t) s.from here) (eq-eqb m.from m.from refl)) in
    set_last columns_set before (move_to a shifts aod there) (number_of columns m.from) (column_at a shifts there m) (given_over (is_column_active a shifts there) (column_at a shifts there) columns (columns_rise a shifts) m (has_column a shifts g t c) active)
    ∙ ap Some (unparked m.from a.figures.park (has_atom a shifts s.from m.from) atom)
  where
    under : (n x y : ℕ) → n < y → (n ≤ x) ⊎ (y ≤ n) → n ≤ x
    under n x y low which = elim which [ inl le ↦ le | inr le ↦ absurd (omega arith) ]

two_more : (xs : List Step) (x y : Step) (zs : List Step) → ((xs ++ x ∷ []) ++ y ∷ []) ++ zs ≡ xs ++ x ∷ y ∷ zs
two_more xs x y zs = append_assoc (xs ++ x ∷ []) (y ∷ []) zs ∙ append_assoc xs (x ∷ []) (y ∷ zs)

-- loading: each move goes somewhere, and at the end the last row's atoms stand at their sources
loading_goes : (a : Architecture) (shifts : List Shift) → Grouped a shifts → (aod : ℕ) → 1 ≤ a.figures.park → (before : List Step) (r : Line) (later : List Line) → AreAhead (rows_of a shifts) r later → Ready a shifts before r
    → EachGoesSomewhere before (steps_in (loading a shifts aod (r ∷ later)))
    × ((s : Shift) → Contains shifts s → row_of a s ≡ last_row r later → StandsLoaded a shifts (before ++ steps_in (loading a shifts aod (r ∷ later))) s)
loading_goes a shifts g aod least before r [] ahead ready = ((tt, tt), caught_stands a shifts g aod before r ready)
loading_goes a shifts g aod least before r (s ∷ later) ahead ready =
    let catch = catch_row a shifts aod r.from in
    let move = move_to a shifts aod (stage.Parked r.from s.from) in
    let now = (before ++ catch ∷ []) ++ move ∷ [] in
    let rest = loading_goes a shifts g aod least now s later (next_ahead (rows_of a shifts) r s later ahead)
    (parked_ready a shifts g aod (before ++ catch ∷ []) r s (neighbours (rows_of a shifts) r s later ahead)) in (
      (tt, (park_goes a shifts aod least before r s ahead.among, rest.0)),
      λ t c e. subst (λ (l : List Step). StandsLoaded a shifts l t) (two_more before catch move (steps_in (loading a shifts aod (s ∷ later)))) (rest.1 t c e),
    )

unloading_goes : (a : Architecture) (shifts : List Shift) (aod : ℕ) → 1 ≤ a.figures.park → (before : List Step) (r : Line) (later : List Line) → AreAhead (rows_of a shifts) r later
    → EachGoesSomewhere (before ++ move_to a shifts aod (stage.Landed r.from) ∷ []) (steps_in (unloading a shifts aod (r ∷ later)))
unloading_goes a shifts aod least before r [] ahead = (tt, tt)
unloading_goes a shifts aod least before r (s ∷ later) ahead = (
  tt,
  (
    land_goes a shifts aod least before r s (ahead.inside s (contains_here s later)) (rises (rows_of a shifts) r s later ahead),
    unloading_goes a shifts aod least ((before ++ move_to a shifts aod (stage.Landed r.from) ∷ []) ++ drop_row a shifts aod r.from ∷ []) s later (next_ahead (rows_of a shifts) r s later ahead),
  ),
)

-- steps one after another
goes_append : (earlier : List Step) (xs ys : List Leg) → EachGoesSomewhere earlier (steps_in xs) → EachGoesSomewhere (earlier ++ steps_in xs) (steps_in ys) → EachGoesSomewhere earlier (steps_in (xs ++ ys))
goes_append earlier [] ys h k = subst (λ (l : List Step). EachGoesSomewhere l (steps_in ys)) (append-nil earlier) k
goes_append earlier (x ∷ xs) ys h k =
    (h.0, goes_append (earlier ++ x.step ∷ []) xs ys h.1 (subst (λ (l : List Step). EachGoesSomewhere l (steps_in ys)) (sym (append_assoc earlier (x.step ∷ []) (steps_in xs))) k))

steps_append : (xs ys : List Leg) → steps_in (xs ++ ys) ≡ steps_in xs ++ steps_in ys
steps_append [] ys = refl
steps_append (x ∷ xs) ys = ap (λ (ss : List Step). x.step ∷ ss) (steps_append xs ys)

last_among : (lines : List Line) (r : Line) (later : List Line) → AreAhead lines r later → Contains lines (last_row r later) × (r.from ≤ (last_row r later).from)
last_among lines r [] h = (h.among, omega arith)
last_among lines r (s ∷ later) h =
    let rest = last_among lines s later (next_ahead lines r s later h) in
    (rest.0, omega (arith, rest.1, rises lines r s later h))

of_rows : (a : Architecture) (shifts : List Shift) → CardLaws a → Grouped a shifts → (aod : ℕ) (rows : List Line) → rows_of a shifts ≡ rows
    → EachGoesSomewhere [] (steps_in ((loading a shifts aod rows ++ flight a shifts aod rows) ++ unloading a shifts aod rows))
of_rows a shifts laws g aod [] e = tt
of_rows a shifts laws g aod (r ∷ later) e =
    let lines = rows_of a shifts in
    let ahead : AreAhead lines r later = subst (λ (ls : List Line). AreAhead ls r later) (sym e) (first_ahead r later (subst Rise e (rows_rise a shifts))) in
    let up = loading a shifts aod (r ∷ later) in
    let fly = flight a shifts aod (r ∷ later) in
    let ready : Ready a shifts [] r = λ s c here used.
    let found = passing (λ (u : Shift). ltb (source_y a u) r.from && source_x a u == source_x a s) shifts used in
    let parts = and_parts (ltb (source_y a found.0) r.from) (source_x a found.0 == source_x a s) found.2 in
    let low : source_y a found.0 < r.from = ltb-true (source_y a found.0) r.from parts.0 in
    absurd (none_below (row_of a found.0) (has_row a shifts g found.0 found.1) low) in
    let loaded = loading_goes a shifts g aod laws.park_least [] r later ahead ready in
    let end = last_among lines r later ahead in
    let atom = atom_of_row a shifts (last_row r later) end.0 in
    let first : r.from ≤ source_y a atom.0 = let same : source_y a atom.0 ≡ (last_row r later).from = ap (λ (l : Line). l.from) atom.2 in omega (arith, end.1) in
    let flown : EachGoesSomewhere (steps_in up) (steps_in fly) = (flight_goes a shifts laws g aod (steps_in up) r atom.0 atom.1 first (loaded.1 atom.0 atom.1 atom.2), tt) in
    goes_append [] (up ++ fly) (unloading a shifts aod (r ∷ later)) (goes_append [] up fly loaded.0 flown)
    (subst (λ (l : List Step). EachGoesSomewhere l (steps_in (unloading a shifts aod (r ∷ later)))) (sym (steps_append up fly)) (unloading_goes a shifts aod laws.park_least (steps_in up) r later ahead))
  where
    none_below : (l : Line) → Contains (rows_of a shifts) l → l.from < r.from → ⊥
    none_below l c low = elim (contains_cases r l later (subst (λ (ls : List Line). Contains ls l) e c)) [
      | inl same ↦ let eq : r.from ≡ l.from = ap (λ (x : Line). x.from) same in omega arith
      | inr there ↦ let lt = All-contains (λ (m : Line). r.from < m.from) later l (pairs_head (λ (l m : Line). l.from < m.from) r later (subst Rise e (rows_rise a shifts))) there in omega arith
    ]

pub job_goes : (a : Architecture) (shifts : List Shift) → CardLaws a → Grouped a shifts → (aod : ℕ) → EachGoesSomewhere [] (job_steps a shifts aod)
job_goes a shifts laws g aod = of_rows a shifts laws g aod (rows_of a shifts) refl
