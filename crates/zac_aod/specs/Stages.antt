-- How far a job is: which of its beams are active, where they stand, and where its atoms are.
use Rattle.std.specs.Prelude.{ℕ, ◌+◌, Bool, true, false, ◌==◌, ◌&&◌, nat_lt, nat_le, List, [], ◌∷◌, if◌then◌else◌}
use Rattle.std.specs.List.{list_any}
use Rattle.zac_arch.specs.Architecture.{Architecture}
use Rattle.zac_group.specs.Moves.{source_x, source_y}
use Rattle.zac_group.specs.declared.shift.Shift.{Shift}
use Rattle.zair_form.specs.declared.step.Beam.{Beam}
use Rattle.zair_state.specs.State.{Beams}
use Rattle.zair_state.specs.declared.place.Place.{Place}
use Rattle.zair_state.specs.declared.place.Place.TheVariants.{Trap, Held}
use Rattle.zac_aod.specs.Lines.{rows_of, columns_of, number_of, has_atom}
use Rattle.zac_aod.specs.declared.line.Line.{Line}
use Rattle.zac_aod.specs.declared.stage.Stage.{Stage}
use Rattle.zac_aod.specs.declared.stage.Stage.TheVariants.{Waiting, Caught, Parked, Landed, Dropped}

-- The atoms of this row are held.
abbrev pub is_loaded : Stage → ℕ → Bool
is_loaded Waiting row = false
is_loaded (Caught turn) row = nat_le row turn
is_loaded (Parked turn next) row = nat_le row turn
is_loaded (Landed turn) row = nat_le turn row
is_loaded (Dropped turn) row = nat_lt turn row

-- The beams are at the targets.
abbrev pub is_over_targets : Stage → Bool
is_over_targets Waiting = false
is_over_targets (Caught turn) = false
is_over_targets (Parked turn next) = false
is_over_targets (Landed turn) = true
is_over_targets (Dropped turn) = true

-- This row stands exactly at its place.
abbrev pub is_in_place : Stage → ℕ → Bool
is_in_place Waiting row = false
is_in_place (Caught turn) row = row == turn
is_in_place (Parked turn next) row = false
is_in_place (Landed turn) row = row == turn
is_in_place (Dropped turn) row = false

-- The row for which the columns stand ready.
abbrev pub row_in_turn : Stage → ℕ
row_in_turn Waiting = 0
row_in_turn (Caught turn) = turn
row_in_turn (Parked turn next) = next
row_in_turn (Landed turn) = turn
row_in_turn (Dropped turn) = turn

-- The place of a row or a column at this stage.
abbrev pub place_of : Stage → Line → ℕ
place_of stage l = if is_over_targets stage then l.to else l.from

-- Where a row stands: at its place if its turn has come, else parked beyond it.
abbrev pub row_at : Architecture → Stage → Line → ℕ
row_at a stage l = place_of stage l + (if is_in_place stage l.from then 0 else a.figures.park)

-- Where a column stands: at its place if it has an atom in the row in turn, else parked beyond it.
abbrev pub column_at : Architecture → List Shift → Stage → Line → ℕ
column_at a shifts stage l =
    place_of stage l + (if has_atom a shifts (row_in_turn stage) l.from then 0 else a.figures.park)

-- A column is active while an atom of it is held.
abbrev pub is_column_active : Architecture → List Shift → Stage → Line → Bool
is_column_active a shifts stage l =
    list_any (λ s. is_loaded stage (source_y a s) && source_x a s == l.from) shifts

-- Beams of those lines that are active, from the first line on, which has this id, the next one the next id and so on.
abbrev pub beams_over : (Line → Bool) → (Line → ℕ) → ℕ → List Line → List Beam
beams_over active at id [] = []
beams_over active at id (l ∷ ls) =
    if active l then record { id = id; at = at l } ∷ beams_over active at (id + 1) ls
    else beams_over active at (id + 1) ls

-- The rows at a stage.
abbrev pub rows_at : Architecture → List Shift → Stage → List Beam
rows_at a shifts stage = beams_over (λ l. is_loaded stage l.from) (row_at a stage) 0 (rows_of a shifts)

-- The columns at a stage.
abbrev pub columns_at : Architecture → List Shift → Stage → List Beam
columns_at a shifts stage =
    beams_over (is_column_active a shifts stage) (column_at a shifts stage) 0 (columns_of a shifts)

-- The beams at a stage.
abbrev pub beams_at : Architecture → List Shift → Stage → Beams
beams_at a shifts stage = record { rows = rows_at a shifts stage; columns = columns_at a shifts stage }

-- Where the atom of a move is: held at the crossing of its row and its column while its row is loaded, else in its
-- source or in its target.
abbrev pub place_at : Architecture → List Shift → ℕ → Stage → Shift → Place
place_at a shifts aod stage s =
    if is_loaded stage (source_y a s) then
    Held aod (number_of (rows_of a shifts) (source_y a s)) (number_of (columns_of a shifts) (source_x a s))
    else Trap (if is_over_targets stage then s.to else s.from)
