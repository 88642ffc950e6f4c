-- What a timer of steps remembers.
use Rattle.std.specs.Prelude.{◌≡◌, ℕ, ◌<◌, Option, Some, List}
use Rattle.std.specs.List.{slice_get, flat_map}
use Rattle.zair_form.specs.Times.{rows_set, columns_set, last_at}
use Rattle.zair_form.specs.declared.step.Beam.{Beam}
use Rattle.zair_form.specs.declared.step.Step.{Step}

-- For each id of a row, and for each id of a column, a position or none. It is the model of a `StepTimer`.
pub record LastPositions : Type 0 where
  pub rows : List (Option ℕ)
  pub columns : List (Option ℕ)

-- At each id stands the last position that these beams give it.
abbrev pub AreLast : List (Option ℕ) → List Beam → Type 0
AreLast last given = (id : ℕ) → id < 256 → slice_get last id ≡ Some (last_at id given)

-- The positions are those that these steps gave last.
pub record AreLastOf (positions : LastPositions) (steps : List Step) : Type 0 where
  pub rows : AreLast positions.rows (flat_map rows_set steps)
  pub columns : AreLast positions.columns (flat_map columns_set steps)
