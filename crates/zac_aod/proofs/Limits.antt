-- What the steps of a job carry is in range.
use Rattle.std.proofs.Common.{◌≡◌, ℕ, ◌+◌, ◌<◌, ◌≤◌, ◌^◌, Bool, true, false, not, ◌&&◌, eqb, ltb, if◌then◌else◌, List, [], ◌∷◌, ◌++◌, length, map, refl, arith}
use Rattle.std.proofs.lemmas.List.Sums.{count_by-le-length}
use Rattle.std.specs.List.{AllByRecursion, Contains}
use Rattle.zac_arch.specs.Architecture.{Architecture}
use Rattle.zac_group.specs.Moves.{source_x, source_y}
use Rattle.zac_group.specs.declared.shift.Shift.{Shift}
use Rattle.zair_form.specs.Ranges.{BeamFits, CaughtFits, DroppedFits, IsId, StepFits}
use Rattle.zair_form.specs.declared.step.Beam.{Beam}
use Rattle.zair_state.proofs.Membership.{contains_here, contains_later, contained_in_filter}
use Rattle.zac_aod.specs.Lines.{rows_of, columns_of, number_of, has_atom}
use Rattle.zac_aod.specs.Lowering.{Leg, caught, dropped, moves_of_row, is_used_before, is_used_after, catch_row, move_to, drop_row, loading, flight, unloading, legs, job_steps}
use Rattle.zac_aod.specs.Stages.{beams_over, is_loaded, is_in_place, is_column_active, row_in_turn, row_at, column_at}
use Rattle.zac_aod.specs.declared.line.Line.{Line}
use Rattle.zac_aod.specs.declared.stage.Stage.{Stage}
use Rattle.zac_aod.specs.declared.stage.Stage.TheVariants as stage
use Rattle.zac_aod.specs.CardLaws.{CardLaws, Grouped}
use Rattle.zac_aod.proofs.GridFacts.{rows_on_field, columns_on_field}
use Rattle.zac_aod.proofs.LineFacts.{few_rows, few_columns}
use Rattle.zac_aod.proofs.StageBeams.{field_at}

-- the ranges that the steps rest on: an AOD has few beams, and the moves' qubits and targets are numbers of the text form
pub record InRanges (a : Architecture) (shifts : List Shift) : Type 0 where
  pub rows : a.figures.rows ≤ 64
  pub columns : a.figures.columns ≤ 64
  pub qubits : (s : Shift) → Contains shifts s → s.q < 2 ^ 32
  pub targets : (s : Shift) → Contains shifts s → s.to.0 < 2 ^ 32

one_beam_fits : (t : Bool) (b : Beam) (bs : List Beam) → (t ≡ true → BeamFits b) → AllByRecursion BeamFits bs → AllByRecursion BeamFits (if t then b ∷ bs else bs)
one_beam_fits true b bs h rest = (h refl, rest)
one_beam_fits false b bs h rest = rest

pub beams_fit : (active : Line → Bool) (at : Line → ℕ) (id : ℕ) (lines : List Line) → id + length lines ≤ 256
    → ((l : Line) → Contains lines l → at l ≤ 1000000) → AllByRecursion BeamFits (beams_over active at id lines)
beams_fit active at id [] few inside = tt
beams_fit active at id (l ∷ ls) few inside =
    let here : at l ≤ 1000000 = inside l (contains_here l ls) in
    one_beam_fits (active l) (record { id = id; at = at l }) (beams_over active at (id + 1) ls) (λ _. (omega arith, here))
    (beams_fit active at (id + 1) ls (omega arith) (λ m c. inside m (contains_later l m ls c)))

one_id_fits : (t : Bool) (b : Beam) (bs : List Beam) → (t ≡ true → IsId b.id) → AllByRecursion IsId (map (λ (x : Beam). x.id) bs) → AllByRecursion IsId (map (λ (x : Beam). x.id) (if t then b ∷ bs else bs))
one_id_fits true b bs h rest = (h refl, rest)
one_id_fits false b bs h rest = rest

pub ids_fit : (active : Line → Bool) (at : Line → ℕ) (id : ℕ) (lines : List Line) → id + length lines ≤ 256
    → AllByRecursion IsId (map (λ (x : Beam). x.id) (beams_over active at id lines))
ids_fit active at id [] few = tt
ids_fit active at id (l ∷ ls) few =
    one_id_fits (active l) (record { id = id; at = at l }) (beams_over active at (id + 1) ls) (λ _. omega arith) (ids_fit active at (id + 1) ls (omega arith))

-- the number of a line is at most how many lines there are
pub number_most : (lines : List Line) (source : ℕ) → number_of lines source ≤ length lines
number_most lines source = count_by-le-length (λ (l : Line). ltb l.from source) lines

-- all of a list, from each that it contains
pub each_contained : {X : Type 0} (P : X → Type 0) (xs : List X) → ((x : X) → Contains xs x → P x) → AllByRecursion P xs
each_contained P [] h = tt
each_contained P (x ∷ xs) h = (h x (contains_here x xs), each_contained P xs (λ y c. h y (contains_later x y xs c)))

pub mapped : {X Y : Type 0} (P : Y → Type 0) (f : X → Y) (xs : List X) → AllByRecursion (λ x. P (f x)) xs → AllByRecursion P (map f xs)
mapped P f [] h = tt
mapped P f (x ∷ xs) h = (h.0, mapped P f xs h.1)

-- the beams of a stage
pub rows_fit : (a : Architecture) (shifts : List Shift) → CardLaws a → Grouped a shifts → InRanges a shifts → (active : Line → Bool) (stage : Stage) → AllByRecursion BeamFits (beams_over active (row_at a stage) 0 (rows_of a shifts))
rows_fit a shifts laws g r active stage =
    beams_fit active (row_at a stage) 0 (rows_of a shifts) (omega (arith, few_rows a shifts g, r.rows))
    (λ l c. field_at a stage l (is_in_place stage l.from) (rows_on_field a shifts laws g l c))

pub columns_fit : (a : Architecture) (shifts : List Shift) → CardLaws a → Grouped a shifts → InRanges a shifts → (active : Line → Bool) (stage : Stage) → AllByRecursion BeamFits (beams_over active (column_at a shifts stage) 0 (columns_of a shifts))
columns_fit a shifts laws g r active stage =
    beams_fit active (column_at a shifts stage) 0 (columns_of a shifts) (omega (arith, few_columns a shifts g, r.columns))
    (λ l c. field_at a stage l (has_atom a shifts (row_in_turn stage) l.from) (columns_on_field a shifts laws g l c))

-- each move of a row is one of the moves
row_moves : (a : Architecture) (shifts : List Shift) (row : ℕ) (s : Shift) → Contains (moves_of_row a shifts row) s → Contains shifts s
row_moves a shifts row s c = (contained_in_filter (λ (t : Shift). eqb (source_y a t) row) shifts s c).0

pub move_fits : (a : Architecture) (shifts : List Shift) → CardLaws a → Grouped a shifts → InRanges a shifts → (aod : ℕ) → aod ≤ 255 → (stage : Stage) → StepFits (move_to a shifts aod stage)
move_fits a shifts laws g r aod le stage =
    (le, rows_fit a shifts laws g r (λ (l : Line). is_loaded stage l.from) stage, columns_fit a shifts laws g r (is_column_active a shifts stage) stage)

pub catch_fits : (a : Architecture) (shifts : List Shift) → CardLaws a → Grouped a shifts → InRanges a shifts → (aod : ℕ) → aod ≤ 255 → (row : ℕ) → StepFits (catch_row a shifts aod row)
catch_fits a shifts laws g r aod le row =
    let few : 0 + length (rows_of a shifts) ≤ 256 = omega (arith, few_rows a shifts g, r.rows) in
    let narrow : 0 + length (columns_of a shifts) ≤ 256 = omega (arith, few_columns a shifts g, r.columns) in (
      le,
      beams_fit (λ (l : Line). eqb l.from row) (λ (l : Line). l.from) 0 (rows_of a shifts) few (λ l c. let on = (rows_on_field a shifts laws g l c).at_source in omega arith),
      beams_fit (λ (l : Line). has_atom a shifts row l.from && not (is_used_before a shifts row l)) (λ (l : Line). l.from) 0 (columns_of a shifts) narrow (λ l c. let on = (columns_on_field a shifts laws g l c).at_source in omega arith),
      mapped CaughtFits (caught a shifts) (moves_of_row a shifts row) (each_contained (λ (s : Shift). CaughtFits (caught a shifts s)) (moves_of_row a shifts row)
          (λ s c.
          let number : number_of (rows_of a shifts) (source_y a s) ≤ 64 = omega (arith, number_most (rows_of a shifts) (source_y a s), few_rows a shifts g, r.rows) in
          let across : number_of (columns_of a shifts) (source_x a s) ≤ 64 = omega (arith, number_most (columns_of a shifts) (source_x a s), few_columns a shifts g, r.columns) in
          (r.qubits s (row_moves a shifts row s c), omega arith, omega arith))),
    )

pub drop_fits : (a : Architecture) (shifts : List Shift) → Grouped a shifts → InRanges a shifts → (aod : ℕ) → aod ≤ 255 → (row : ℕ) → StepFits (drop_row a shifts aod row)
drop_fits a shifts g r aod le row =
    let few : 0 + length (rows_of a shifts) ≤ 256 = omega (arith, few_rows a shifts g, r.rows) in
    let narrow : 0 + length (columns_of a shifts) ≤ 256 = omega (arith, few_columns a shifts g, r.columns) in (
      le,
      ids_fit (λ (l : Line). eqb l.from row) (λ (l : Line). l.to) 0 (rows_of a shifts) few,
      ids_fit (λ (l : Line). has_atom a shifts row l.from && not (is_used_after a shifts row l)) (λ (l : Line). l.to) 0 (columns_of a shifts) narrow,
      mapped DroppedFits dropped (moves_of_row a shifts row) (each_contained (λ (s : Shift). DroppedFits (dropped s)) (moves_of_row a shifts row)
          (λ s c. (r.qubits s (row_moves a shifts row s c), r.targets s (row_moves a shifts row s c)))),
    )

-- the steps of legs are in range
abbrev pub LegFits : Leg → Type 0
LegFits leg = StepFits leg.step

loading_fits : (a : Architecture) (shifts : List Shift) → CardLaws a → Grouped a shifts → InRanges a shifts → (aod : ℕ) → aod ≤ 255 → (rows : List Line) → AllByRecursion LegFits (loading a shifts aod rows)
loading_fits a shifts laws g r aod le [] = tt
loading_fits a shifts laws g r aod le (l ∷ []) = (catch_fits a shifts laws g r aod le l.from, tt)
loading_fits a shifts laws g r aod le (l ∷ m ∷ ms) =
    (catch_fits a shifts laws g r aod le l.from, (move_fits a shifts laws g r aod le (stage.Parked l.from m.from), loading_fits a shifts laws g r aod le (m ∷ ms)))

flight_fits : (a : Architecture) (shifts : List Shift) → CardLaws a → Grouped a shifts → InRanges a shifts → (aod : ℕ) → aod ≤ 255 → (rows : List Line) → AllByRecursion LegFits (flight a shifts aod rows)
flight_fits a shifts laws g r aod le [] = tt
flight_fits a shifts laws g r aod le (l ∷ ls) = (move_fits a shifts laws g r aod le (stage.Landed l.from), tt)

unloading_fits : (a : Architecture) (shifts : List Shift) → CardLaws a → Grouped a shifts → InRanges a shifts → (aod : ℕ) → aod ≤ 255 → (rows : List Line) → AllByRecursion LegFits (unloading a shifts aod rows)
unloading_fits a shifts laws g r aod le [] = tt
unloading_fits a shifts laws g r aod le (l ∷ []) = (drop_fits a shifts g r aod le l.from, tt)
unloading_fits a shifts laws g r aod le (l ∷ m ∷ ms) =
    (drop_fits a shifts g r aod le l.from, (move_fits a shifts laws g r aod le (stage.Landed m.from), unloading_fits a shifts laws g r aod le (m ∷ ms)))

joined : {X : Type 0} (P : X → Type 0) (xs ys : List X) → AllByRecursion P xs → AllByRecursion P ys → AllByRecursion P (xs ++ ys)
joined P [] ys h k = k
joined P (x ∷ xs) ys h k = (h.0, joined P xs ys h.1 k)

pub job_fits : (a : Architecture) (shifts : List Shift) → CardLaws a → Grouped a shifts → InRanges a shifts → (aod : ℕ) → aod ≤ 255 → AllByRecursion StepFits (job_steps a shifts aod)
job_fits a shifts laws g r aod le =
    let lines = rows_of a shifts in
    mapped StepFits (λ (leg : Leg). leg.step) (legs a shifts aod)
    (joined LegFits (loading a shifts aod lines ++ flight a shifts aod lines) (unloading a shifts aod lines)
    (joined LegFits (loading a shifts aod lines) (flight a shifts aod lines) (loading_fits a shifts laws g r aod le lines) (flight_fits a shifts laws g r aod le lines))
    (unloading_fits a shifts laws g r aod le lines))
