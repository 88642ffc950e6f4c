-- The steps of a job.
use Rattle.std.specs.Prelude.{ℕ, Bool, not, ◌==◌, ◌&&◌, nat_lt, List, [], ◌∷◌, ◌++◌, map, filter}
use Rattle.std.specs.List.{list_any}
use Rattle.zac_arch.specs.Architecture.{Architecture}
use Rattle.zac_group.specs.Moves.{source_x, source_y}
use Rattle.zac_group.specs.declared.shift.Shift.{Shift}
use Rattle.zair_form.specs.declared.step.Caught.{Caught}
use Rattle.zair_form.specs.declared.step.Dropped.{Dropped}
use Rattle.zair_form.specs.declared.step.Step.{Step}
use Rattle.zair_form.specs.declared.step.Step.TheVariants.{Activate, Move, Deactivate}
use Rattle.zac_aod.specs.Lines.{rows_of, columns_of, number_of, has_atom}
use Rattle.zac_aod.specs.Stages.{beams_over, rows_at, columns_at}
use Rattle.zac_aod.specs.declared.line.Line.{Line}
use Rattle.zac_aod.specs.declared.stage.Stage.{Stage}
use Rattle.zac_aod.specs.declared.stage.Stage.TheVariants as stage

-- The moves that start in the row with this source, by rising column.
abbrev pub moves_of_row : Architecture → List Shift → ℕ → List Shift
moves_of_row a shifts row = filter (λ s. source_y a s == row) shifts

-- The column has an atom in a row before this one.
abbrev pub is_used_before : Architecture → List Shift → ℕ → Line → Bool
is_used_before a shifts row l = list_any (λ s. nat_lt (source_y a s) row && source_x a s == l.from) shifts

-- The column has an atom in a row after this one.
abbrev pub is_used_after : Architecture → List Shift → ℕ → Line → Bool
is_used_after a shifts row l = list_any (λ s. nat_lt row (source_y a s) && source_x a s == l.from) shifts

-- The atom of a move as an activate lists it: with the ids of its row and its column.
abbrev pub caught : Architecture → List Shift → Shift → Caught
caught a shifts s = record {
  q = s.q;
  row = number_of (rows_of a shifts) (source_y a s);
  column = number_of (columns_of a shifts) (source_x a s);
}

-- The atom of a move as a deactivate lists it: with its target.
abbrev pub dropped : Shift → Dropped
dropped s = record { q = s.q; trap = s.to }

-- Loading a row: it is activated at its source, and so is each column that has an atom in it and in no row before; the
-- atoms of the row are caught.
abbrev pub catch_row : Architecture → List Shift → ℕ → ℕ → Step
catch_row a shifts aod row =
    Activate aod
    (beams_over (λ l. l.from == row) (λ l. l.from) 0 (rows_of a shifts))
    (beams_over (λ l. has_atom a shifts row l.from && not (is_used_before a shifts row l)) (λ l. l.from) 0 (columns_of a shifts))
    (map (caught a shifts) (moves_of_row a shifts row))

-- All active beams go to their places at a stage.
abbrev pub move_to : Architecture → List Shift → ℕ → Stage → Step
move_to a shifts aod stage = Move aod (rows_at a shifts stage) (columns_at a shifts stage)

-- Unloading a row: it is deactivated, and so is each column that has an atom in it and in no row after; the atoms of the
-- row are dropped into their targets.
abbrev pub drop_row : Architecture → List Shift → ℕ → ℕ → Step
drop_row a shifts aod row =
    Deactivate aod
    (map (λ b. b.id) (beams_over (λ l. l.from == row) (λ l. l.to) 0 (rows_of a shifts)))
    (map (λ b. b.id) (beams_over (λ l. has_atom a shifts row l.from && not (is_used_after a shifts row l)) (λ l. l.to) 0 (columns_of a shifts)))
    (map dropped (moves_of_row a shifts row))

-- A step of a job, and the stage to which it leads.
pub record Leg : Type 0 where
  pub step : Step
  pub stage : Stage

-- The loading of rows: each is loaded, and before the next one all loaded rows are parked, with the columns ready for it.
abbrev pub loading : Architecture → List Shift → ℕ → List Line → List Leg
loading a shifts aod [] = []
loading a shifts aod (r ∷ []) = record { step = catch_row a shifts aod r.from; stage = stage.Caught r.from } ∷ []
loading a shifts aod (r ∷ s ∷ rs) =
    record { step = catch_row a shifts aod r.from; stage = stage.Caught r.from }
    ∷ record { step = move_to a shifts aod (stage.Parked r.from s.from); stage = stage.Parked r.from s.from }
    ∷ loading a shifts aod (s ∷ rs)

-- The flight to the targets: the first row goes to its target, the others are parked beside theirs.
abbrev pub flight : Architecture → List Shift → ℕ → List Line → List Leg
flight a shifts aod [] = []
flight a shifts aod (r ∷ rs) =
    record { step = move_to a shifts aod (stage.Landed r.from); stage = stage.Landed r.from } ∷ []

-- The unloading of rows: each is unloaded, and then the next one goes to its target.
abbrev pub unloading : Architecture → List Shift → ℕ → List Line → List Leg
unloading a shifts aod [] = []
unloading a shifts aod (r ∷ []) = record { step = drop_row a shifts aod r.from; stage = stage.Dropped r.from } ∷ []
unloading a shifts aod (r ∷ s ∷ rs) =
    record { step = drop_row a shifts aod r.from; stage = stage.Dropped r.from }
    ∷ record { step = move_to a shifts aod (stage.Landed s.from); stage = stage.Landed s.from }
    ∷ unloading a shifts aod (s ∷ rs)

-- All legs of a job, in order.
abbrev pub legs : Architecture → List Shift → ℕ → List Leg
legs a shifts aod =
    loading a shifts aod (rows_of a shifts)
    ++ flight a shifts aod (rows_of a shifts)
    ++ unloading a shifts aod (rows_of a shifts)

-- The steps of a job: a group of moves, lowered for this AOD.
abbrev pub job_steps : Architecture → List Shift → ℕ → List Step
job_steps a shifts aod = map (λ leg. leg.step) (legs a shifts aod)
