-- Jobs as values, and what a `Job` keeps.
use Rattle.std.specs.Prelude.{◌≡◌, ℕ, ◌*◌, ◌≤◌, List, [], ◌∷◌, ◌++◌, length}
use Rattle.std.specs.List.{AllByRecursion}
use Rattle.zac_arch.specs.Architecture.{Architecture, StandsAt}
use Rattle.zac_arch.specs.declared.place.Point.{Point}
use Rattle.zac_arch.specs.declared.place.TrapId.{TrapId}
use Rattle.zac_group.specs.Groups.{IsGroup}
use Rattle.zac_group.specs.declared.shift.Shift.{Shift}
use Rattle.zair_form.specs.Ranges.{StepFits}
use Rattle.zair_form.specs.Times.{LastTogether}
use Rattle.zair_form.specs.declared.step.Step.{Step}
use Rattle.zac_aod.specs.Lines.{source_points, target_points}
use Rattle.zac_aod.specs.Lowering.{job_steps}
use Rattle.zac_aod.specs.Soundness.{IsSoundJob}

-- A card, a group of moves on it, and the AOD that is to make them. It is the model of a `Job`.
pub record JobOf : Type 0 where
  pub card : Architecture
  pub shifts : List Shift
  pub aod : ℕ

-- The traps stand at these points, one after another.
abbrev pub StandAt : Architecture → List TrapId → List Point → Type 0
StandAt a [] [] = Unit {0}
StandAt a (t ∷ ts) (p ∷ ps) = StandsAt a t.0 p × StandAt a ts ps
StandAt a [] (p ∷ ps) = ⊥
StandAt a (t ∷ ts) [] = ⊥

-- The moves are a group; the steps are those of the job, and sound; and these are their duration and the traps of the
-- two grids, the source grid first. What the steps carry is in the ranges of the text form, and they take at most four
-- seconds for each move. It is the invariant of a `Job`.
pub record IsJob (j : JobOf) (steps : List Step) (grid : List TrapId) (duration : ℕ) : Type 0 where
  pub group : IsGroup (record { card = j.card; shifts = j.shifts })
  pub steps_are : steps ≡ job_steps j.card j.shifts j.aod
  pub grid_is : StandAt j.card grid (source_points j.card j.shifts ++ target_points j.card j.shifts)
  pub sound : IsSoundJob j.card j.shifts j.aod steps
  pub fits : AllByRecursion StepFits steps
  pub lasts : LastTogether j.card.figures [] steps duration
  pub quick : duration ≤ 4000000000 * length j.shifts
