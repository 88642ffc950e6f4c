-- The beams of a stage: their ids, and that they are placed and few.
use Rattle.std.proofs.Common.{◌≡◌, ℕ, ◌+◌, ◌<◌, ◌≤◌, Bool, true, false, if◌then◌else◌, List, [], ◌∷◌, length, map, refl, sym, ap, ◌∙◌, subst, arith}
use Rattle.std.specs.List.{Contains}
use Rattle.std.proofs.lemmas.Bool.{false≢true}
use Rattle.zac_arch.specs.Architecture.{Architecture}
use Rattle.zac_group.specs.declared.shift.Shift.{Shift}
use Rattle.zair_form.specs.declared.step.Beam.{Beam}
use Rattle.zair_state.specs.Legal.{AreOnce, AreFresh, ListsActive}
use Rattle.zair_state.specs.State.{HasId, ArePlaced}
use Rattle.zair_state.proofs.BeamLists.{rising_ids, has_id, beam_of_id}
use Rattle.zair_state.proofs.Membership.{contains_here, contains_later, all_from_contains}
use Rattle.zac_aod.specs.Lines.{rows_of, columns_of, number_of}
use Rattle.zac_aod.specs.Stages.{is_loaded, is_in_place, is_column_active, place_of, row_at, column_at, rows_at, columns_at, row_in_turn, beams_over}
use Rattle.zac_aod.specs.declared.stage.Stage.TheVariants.{Waiting, Caught, Parked, Landed, Dropped}
use Rattle.zac_aod.specs.Lines.{has_atom}
use Rattle.zac_aod.proofs.BeamFacts.{beam_of, from_line, has_beam, one_line, rising_over, placed_over, few_over}
use Rattle.zac_aod.specs.CardLaws.{CardLaws, Grouped}
use Rattle.zac_aod.proofs.GridFacts.{HasRoom, IsOnField, rows_have_room, columns_have_room, rows_on_field, columns_on_field}
use Rattle.zac_aod.proofs.LineFacts.{Rise, rows_rise, columns_rise, few_rows, few_columns}
use Rattle.zac_aod.proofs.Tests.{at_most_parked, at_least_there, pairs_among}
use Rattle.zac_aod.specs.declared.line.Line.{Line}
use Rattle.zac_aod.specs.declared.stage.Stage.{Stage}

ids_step : (t u : Bool) (b c : Beam) (xs ys : List Beam) → t ≡ u → b.id ≡ c.id → map (λ (x : Beam). x.id) xs ≡ map (λ (x : Beam). x.id) ys
    → map (λ (x : Beam). x.id) (if t then b ∷ xs else xs) ≡ map (λ (x : Beam). x.id) (if u then c ∷ ys else ys)
ids_step true true b c xs ys e same rest = λ i. same i ∷ rest i
ids_step true false b c xs ys e same rest = cc
ids_step false true b c xs ys e same rest = cc
ids_step false false b c xs ys e same rest = rest

-- the ids of beams are told by which lines are active
pub same_ids : (active active' : Line → Bool) (at at' : Line → ℕ) (id : ℕ) (lines : List Line) → ((l : Line) → Contains lines l → active l ≡ active' l)
    → map (λ (b : Beam). b.id) (beams_over active at id lines) ≡ map (λ (b : Beam). b.id) (beams_over active' at' id lines)
same_ids active active' at at' id [] same = refl
same_ids active active' at at' id (l ∷ ls) same =
    ids_step (active l) (active' l) (record { id = id; at = at l }) (record { id = id; at = at' l }) (beams_over active at (id + 1) ls) (beams_over active' at' (id + 1) ls)
    (same l (contains_here l ls)) refl
    (same_ids active active' at at' (id + 1) ls (λ m c. same m (contains_later l m ls c)))

over_step : (t u : Bool) (b c : Beam) (xs ys : List Beam) → t ≡ u → (u ≡ true → b ≡ c) → xs ≡ ys → (if t then b ∷ xs else xs) ≡ (if u then c ∷ ys else ys)
over_step true true b c xs ys e same rest = λ i. same refl i ∷ rest i
over_step true false b c xs ys e same rest = cc
over_step false true b c xs ys e same rest = cc
over_step false false b c xs ys e same rest = rest

-- the beams are told by which lines are active, and where these stand
pub same_over : (active active' : Line → Bool) (at at' : Line → ℕ) (id : ℕ) (lines : List Line) → ((l : Line) → Contains lines l → active l ≡ active' l)
    → ((l : Line) → Contains lines l → active' l ≡ true → at l ≡ at' l) → beams_over active at id lines ≡ beams_over active' at' id lines
same_over active active' at at' id [] same places = refl
same_over active active' at at' id (l ∷ ls) same places =
    over_step (active l) (active' l) (record { id = id; at = at l }) (record { id = id; at = at' l }) (beams_over active at (id + 1) ls) (beams_over active' at' (id + 1) ls)
    (same l (contains_here l ls))
    (λ on i. record { id = id; at = places l (contains_here l ls) on i })
    (same_over active active' at at' (id + 1) ls (λ m c. same m (contains_later l m ls c)) (λ m c. places m (contains_later l m ls c)))

pub once_over : (active : Line → Bool) (at : Line → ℕ) (id : ℕ) (lines : List Line) → AreOnce (map (λ (b : Beam). b.id) (beams_over active at id lines))
once_over active at id lines i j d before within e =
    let lt = rising_ids (beams_over active at id lines) (rising_over active at id lines) i j d before within in
    absurd (omega arith)

-- beams that stand elsewhere list the active ones
pub lists_over : (active active' : Line → Bool) (at at' : Line → ℕ) (lines : List Line) → ((l : Line) → Contains lines l → active l ≡ active' l)
    → ListsActive (beams_over active at 0 lines) (beams_over active' at' 0 lines)
lists_over active active' at at' lines same = record {
  once = once_over active at 0 lines;
  only = all_from_contains (λ (b : Beam). HasId (beams_over active' at' 0 lines) b.id) (beams_over active at 0 lines)
      (λ b c. subst (λ (ids : List ℕ). Contains ids b.id) (same_ids active active' at at' 0 lines same) (has_id (beams_over active at 0 lines) b c));
  all = all_from_contains (λ (b : Beam). HasId (beams_over active at 0 lines) b.id) (beams_over active' at' 0 lines)
      (λ b c. subst (λ (ids : List ℕ). Contains ids b.id) (sym (same_ids active active' at at' 0 lines same)) (has_id (beams_over active' at' 0 lines) b c));
}

-- the line of an id
pub record HasLine (active : Line → Bool) (lines : List Line) (id : ℕ) : Type 0 where
  pub line : Line
  pub among : Contains lines line
  pub is_active : active line ≡ true
  pub named : number_of lines line.from ≡ id

pub line_of_id : (active : Line → Bool) (at : Line → ℕ) (lines : List Line) → Rise lines → (id : ℕ) → HasId (beams_over active at 0 lines) id → HasLine active lines id
line_of_id active at lines rise id h =
    let b = beam_of_id (beams_over active at 0 lines) id h in
    let f = from_line active at lines rise b.0 b.1 in
    record { line = f.line; among = f.among; is_active = f.is_active; named = sym (ap (λ (x : Beam). x.id) f.is) ∙ b.2 }

pub id_of_line : (active : Line → Bool) (at : Line → ℕ) (lines : List Line) → Rise lines → (l : Line) → Contains lines l → active l ≡ true → HasId (beams_over active at 0 lines) (number_of lines l.from)
id_of_line active at lines rise l c e = has_id (beams_over active at 0 lines) (beam_of lines at l) (has_beam active at lines rise l c e)

pub fresh_over : (new old : Line → Bool) (at_new at_old : Line → ℕ) (lines : List Line) → Rise lines → ((l : Line) → Contains lines l → new l ≡ true → old l ≡ false)
    → AreFresh (beams_over new at_new 0 lines) (beams_over old at_old 0 lines)
fresh_over new old at_new at_old lines rise apart = record {
  once = once_over new at_new 0 lines;
  inactive = all_from_contains (λ (b : Beam). ¬ HasId (beams_over old at_old 0 lines) b.id) (beams_over new at_new 0 lines) (λ b c h.
      let f = from_line new at_new lines rise b c in
      let o = line_of_id old at_old lines rise b.id h in
      let same : o.line ≡ f.line = one_line lines rise o.line f.line o.among f.among (o.named ∙ ap (λ (x : Beam). x.id) f.is) in
      false≢true (sym (apart f.line f.among f.is_active) ∙ subst (λ (l : Line). old l ≡ true) same o.is_active));
}

pub rows_are_few : (a : Architecture) (shifts : List Shift) → Grouped a shifts → (stage : Stage) → length (rows_at a shifts stage) ≤ a.figures.rows
rows_are_few a shifts g stage =
    let over : length (rows_at a shifts stage) ≤ length (rows_of a shifts) = few_over (λ (l : Line). is_loaded stage l.from) (row_at a stage) 0 (rows_of a shifts) in
    let few : length (rows_of a shifts) ≤ a.figures.rows = few_rows a shifts g in
    below (length (rows_at a shifts stage)) (length (rows_of a shifts)) a.figures.rows over few
  where
    below : (k m n : ℕ) → k ≤ m → m ≤ n → k ≤ n
    below k m n e f = omega arith

pub columns_are_few : (a : Architecture) (shifts : List Shift) → Grouped a shifts → (stage : Stage) → length (columns_at a shifts stage) ≤ a.figures.columns
columns_are_few a shifts g stage =
    let over : length (columns_at a shifts stage) ≤ length (columns_of a shifts) = few_over (is_column_active a shifts stage) (column_at a shifts stage) 0 (columns_of a shifts) in
    let few : length (columns_of a shifts) ≤ a.figures.columns = few_columns a shifts g in
    below (length (columns_at a shifts stage)) (length (columns_of a shifts)) a.figures.columns over few
  where
    below : (k m n : ℕ) → k ≤ m → m ≤ n → k ≤ n
    below k m n e f = omega arith

pub field_at : (a : Architecture) (stage : Stage) (l : Line) (t : Bool) → IsOnField a l → place_of stage l + (if t then 0 else a.figures.park) ≤ 1000000
field_at a stage l t on =
    let most = at_most_parked (place_of stage l) a.figures.park t in
    let there : place_of stage l + a.figures.park ≤ 1000000 = at_stage a stage l on in
    below (place_of stage l + (if t then 0 else a.figures.park)) (place_of stage l + a.figures.park) 1000000 most there
  where
    below : (k m n : ℕ) → k ≤ m → m ≤ n → k ≤ n
    below k m n e f = omega arith

    at_stage : (a : Architecture) (stage : Stage) (l : Line) → IsOnField a l → place_of stage l + a.figures.park ≤ 1000000
    at_stage a Waiting l on = on.at_source
    at_stage a (Caught turn) l on = on.at_source
    at_stage a (Parked turn next) l on = on.at_source
    at_stage a (Landed turn) l on = on.at_target
    at_stage a (Dropped turn) l on = on.at_target

room_at : (a : Architecture) (stage : Stage) (l m : Line) (t u : Bool) → HasRoom a l m → place_of stage l + (if t then 0 else a.figures.park) + a.figures.gap ≤ place_of stage m + (if u then 0 else a.figures.park)
room_at a stage l m t u room =
    let most = at_most_parked (place_of stage l) a.figures.park t in
    let least = at_least_there (place_of stage m) a.figures.park u in
    let there : place_of stage l + a.figures.park + a.figures.gap ≤ place_of stage m = at_stage a stage l m room in
    below (place_of stage l + (if t then 0 else a.figures.park)) (place_of stage l + a.figures.park) a.figures.gap (place_of stage m) (place_of stage m + (if u then 0 else a.figures.park)) most there least
  where
    below : (k m gap n p : ℕ) → k ≤ m → m + gap ≤ n → n ≤ p → k + gap ≤ p
    below k m gap n p e f g = omega arith

    at_stage : (a : Architecture) (stage : Stage) (l m : Line) → HasRoom a l m → place_of stage l + a.figures.park + a.figures.gap ≤ place_of stage m
    at_stage a Waiting l m on = on.at_sources
    at_stage a (Caught turn) l m on = on.at_sources
    at_stage a (Parked turn next) l m on = on.at_sources
    at_stage a (Landed turn) l m on = on.at_targets
    at_stage a (Dropped turn) l m on = on.at_targets

pub rows_are_placed : (a : Architecture) (shifts : List Shift) → CardLaws a → Grouped a shifts → (stage : Stage) → ArePlaced a.figures.gap (rows_at a shifts stage)
rows_are_placed a shifts laws g stage =
    placed_over a.figures.gap (λ (l : Line). is_loaded stage l.from) (row_at a stage) 0 (rows_of a shifts)
    (λ l c on. field_at a stage l (is_in_place stage l.from) (rows_on_field a shifts laws g l c))
    (pairs_among Line (λ (l m : Line). l.from < m.from) (λ (l m : Line). is_loaded stage l.from ≡ true → is_loaded stage m.from ≡ true → row_at a stage l + a.figures.gap ≤ row_at a stage m)
    (rows_of a shifts)
    (λ l m c d lt on on'. room_at a stage l m (is_in_place stage l.from) (is_in_place stage m.from) (rows_have_room a shifts laws g l m c d lt))
    (rows_rise a shifts))

pub columns_are_placed : (a : Architecture) (shifts : List Shift) → CardLaws a → Grouped a shifts → (stage : Stage) → ArePlaced a.figures.gap (columns_at a shifts stage)
columns_are_placed a shifts laws g stage =
    placed_over a.figures.gap (is_column_active a shifts stage) (column_at a shifts stage) 0 (columns_of a shifts)
    (λ l c on. field_at a stage l (has_atom a shifts (row_in_turn stage) l.from) (columns_on_field a shifts laws g l c))
    (pairs_among Line (λ (l m : Line). l.from < m.from) (λ (l m : Line). is_column_active a shifts stage l ≡ true → is_column_active a shifts stage m ≡ true → column_at a shifts stage l + a.figures.gap ≤ column_at a shifts stage m)
    (columns_of a shifts)
    (λ l m c d lt on on'. room_at a stage l m (has_atom a shifts (row_in_turn stage) l.from) (has_atom a shifts (row_in_turn stage) m.from) (columns_have_room a shifts laws g l m c d lt))
    (columns_rise a shifts))
