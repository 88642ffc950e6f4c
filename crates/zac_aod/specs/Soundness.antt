-- What a job does in a state of the machine, whatever other atoms and other AODs do elsewhere.
use Rattle.std.specs.Prelude.{◌≡◌, ◌≢◌, ℕ, ◌<◌, ◌≤◌, ◌⊎◌, List, [], ◌∷◌, length, map, take}
use Rattle.std.specs.List.{All, Any}
use Rattle.zac_arch.specs.Architecture.{Architecture, StandsAt}
use Rattle.zac_arch.specs.Distances.{IsWithin}
use Rattle.zac_arch.specs.Parking.{IsCorner}
use Rattle.zac_arch.specs.declared.place.Point.{Point}
use Rattle.zac_arch.specs.declared.place.TrapId.{TrapId}
use Rattle.zac_group.specs.declared.shift.Shift.{Shift}
use Rattle.zair_form.specs.declared.step.Step.{Step}
use Rattle.zair_state.specs.Invariant.{IsSound}
use Rattle.zair_state.specs.Legal.{IsLegal}
use Rattle.zair_state.specs.Resources.{IsOnGrid}
use Rattle.zair_state.specs.Result.{after, after_dropping}
use Rattle.zair_state.specs.Run.{IsLegalRun, after_all}
use Rattle.zair_state.specs.State.{State, beams_of, idle, IsAt, EachCrossing, crossing}
use Rattle.zair_state.specs.declared.place.Place.TheVariants.{Trap, Held}
use Rattle.zac_aod.specs.Lines.{rows_of, columns_of}
use Rattle.zac_aod.specs.Lowering.{Leg, dropped}
use Rattle.zac_aod.specs.Stages.{beams_at, place_at}
use Rattle.zac_aod.specs.declared.stage.Stage.{Stage}

-- The trap stands on the source grid of the moves, all their rows times all their columns, or on the target grid.
abbrev pub IsOnGrids : Architecture → List Shift → ℕ → Type 0
IsOnGrids a shifts t =
    IsOnGrid a (map (λ l. l.from) (columns_of a shifts)) (map (λ l. l.from) (rows_of a shifts)) t
    ⊎ IsOnGrid a (map (λ l. l.to) (columns_of a shifts)) (map (λ l. l.to) (rows_of a shifts)) t

-- The point is a trap of the two grids, or is parked beside one, in x, in y or in both.
pub record IsAtGrids (a : Architecture) (shifts : List Shift) (p : Point) : Type 0 where
  pub trap : ℕ
  pub stands : Point
  pub on_grids : IsOnGrids a shifts trap
  pub stands_at : StandsAt a trap stands
  pub corner : IsCorner a.figures.park stands p

-- The point is within reach of such a point.
pub record IsNearGrids (a : Architecture) (shifts : List Shift) (p : Point) : Type 0 where
  pub corner : Point
  pub at_grids : IsAtGrids a shifts corner
  pub near : IsWithin a.figures.reach corner p

-- No crossing of another AOD is within reach of a point of the grids.
abbrev pub IsApartFromOthers : Architecture → List Shift → ℕ → State → Type 0
IsApartFromOthers a shifts aod s =
    (other : ℕ) → other ≢ aod → EachCrossing (beams_of s other).rows (beams_of s other).columns
    (λ row column. ¬ IsNearGrids a shifts (crossing row column))

-- A job can begin: the state is sound; the AOD is there and idle; the atoms rest in their sources, and nothing rests in
-- their targets; and no other AOD is near the grids. Other atoms may rest anywhere else.
pub record IsReady (a : Architecture) (shifts : List Shift) (aod : ℕ) (s : State) : Type 0 where
  pub sound : IsSound a s
  pub known : aod < a.figures.aods
  pub idle_aod : beams_of s aod ≡ idle
  pub at_sources : All (λ shift. IsAt s shift.q (Trap shift.from)) shifts
  pub empty_targets : All (λ shift. (q : ℕ) → ¬ IsAt s q (Trap shift.to)) shifts
  pub apart : IsApartFromOthers a shifts aod s

-- The state with the atoms of the moves in their targets, and all else as it is.
abbrev pub arrived : List Shift → State → State
arrived shifts s = record { places = after_dropping (map dropped shifts) s.places; aods = s.aods }

-- The steps do what the moves say, from every state in which they can begin: each is legal; behind them the atoms rest
-- in their targets, and all else is as it was, so the AOD is idle again; and after each of them each crossing of the
-- AOD stands at a point of the grids.
pub record IsSoundJob (a : Architecture) (shifts : List Shift) (aod : ℕ) (steps : List Step) : Type 0 where
  pub legal : (s : State) → IsReady a shifts aod s → IsLegalRun a s steps
  pub ends : (s : State) → IsReady a shifts aod s → after_all s steps ≡ arrived shifts s
  pub at_grids : (s : State) (k : ℕ) → IsReady a shifts aod s → k ≤ length steps →
      EachCrossing (beams_of (after_all s (take k steps)) aod).rows (beams_of (after_all s (take k steps)) aod).columns
      (λ row column. IsAtGrids a shifts (crossing row column))

-- Nothing disturbs a job of this AOD in the state: the AOD is there, no atom but those of the moves rests in one of their
-- sources and targets, and no other AOD is near the grids.
pub record IsUndisturbed (a : Architecture) (shifts : List Shift) (aod : ℕ) (s : State) : Type 0 where
  pub known : aod < length s.aods
  pub strangers : (q : ℕ) (t : TrapId) → IsAt s q (Trap t) → ¬ Any (λ shift. shift.q ≡ q) shifts →
      All (λ shift. (t ≢ shift.from) × (t ≢ shift.to)) shifts
  pub apart : IsApartFromOthers a shifts aod s

-- The job is at this stage in the state: the AOD's beams and the atoms of the moves are as the stage says, and the AOD
-- holds no other atom. Nothing is said of other atoms and other AODs.
pub record IsAtStage (a : Architecture) (shifts : List Shift) (aod : ℕ) (stage : Stage) (s : State) : Type 0 where
  pub beams : beams_of s aod ≡ beams_at a shifts stage
  pub atoms : All (λ shift. IsAt s shift.q (place_at a shifts aod stage shift)) shifts
  pub own : (q row column : ℕ) → IsAt s q (Held aod row column) → Any (λ shift. shift.q ≡ q) shifts

-- Each leg's step is legal wherever the job is at the stage before it and nothing disturbs it, and leads to the leg's
-- stage.
abbrev pub Advances : Architecture → List Shift → ℕ → Stage → List Leg → Type 0
Advances a shifts aod stage [] = Unit {0}
Advances a shifts aod stage (leg ∷ legs) =
    ((s : State) → IsUndisturbed a shifts aod s → IsAtStage a shifts aod stage s →
    IsLegal a s leg.step × IsAtStage a shifts aod leg.stage (after s leg.step))
    × Advances a shifts aod leg.stage legs
