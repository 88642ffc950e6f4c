-- What allows two steps of different instructions to change places, and a program's steps to come in every order that its
-- times allow.
use Rattle.std.specs.Prelude.{◌≡◌, ℕ, List, [], ◌∷◌, IsTrue}
use Rattle.std.specs.List.{All, AllByRecursion, Contains}
use Rattle.zac_arch.specs.Architecture.{Architecture, StandsAt}
use Rattle.zac_arch.specs.Parking.{IsCorner}
use Rattle.zac_arch.specs.declared.place.Point.{Point}
use Rattle.zac_gates.specs.Log.{Realises}
use Rattle.zac_gates.specs.Ops.{NativeCircuit}
use Rattle.zair_form.specs.Steps.{has_own_steps, homes, is_program, steps_of}
use Rattle.zair_form.specs.Times.{HasLength, Timed}
use Rattle.zair_form.specs.declared.program.Act.{Act}
use Rattle.zair_form.specs.declared.program.Act.TheVariants.{Init, Gates, Rydberg, Job, Readout}
use Rattle.zair_form.specs.declared.program.Instr.{Instr}
use Rattle.zair_form.specs.declared.step.Step.{Step}
use Rattle.zair_state.specs.Moves.{MovesGoSomewhere}
use Rattle.zair_state.specs.Homes.{AreHomes}
use Rattle.zair_state.specs.Legal.{IsLegal}
use Rattle.zair_state.specs.Orders.{IsAllowed}
use Rattle.zair_state.specs.Performs.{listed_steps, steps_in}
use Rattle.zair_state.specs.Resources.{AreApart, Uses}
use Rattle.zair_state.specs.Resources.{Resource as resource}
use Rattle.zair_state.specs.Result.{after}
use Rattle.zair_state.specs.Run.{after_all, log_of}
use Rattle.zair_state.specs.State.{State, beams_of, crossing, EachCrossing, opening}

-- The point is a trap that the act uses, or is parked beside one, in x, in y or in both.
pub record IsAtTrapsOf (a : Architecture) (act : Act) (p : Point) : Type 0 where
  pub trap : ℕ
  pub used : Uses a act (resource.Trap trap)
  pub stands : Point
  pub stands_at : StandsAt a trap stands
  pub corner : IsCorner a.figures.park stands p

-- If the act is a job, each crossing of its AOD is at the job's traps. An idle AOD has no crossing.
abbrev pub KeepsToItsTraps : Architecture → State → Act → Type 0
KeepsToItsTraps a s (Init homes) = Unit {0}
KeepsToItsTraps a s (Gates ones) = Unit {0}
KeepsToItsTraps a s (Rydberg pairs) = Unit {0}
KeepsToItsTraps a s (Job aod steps) =
    EachCrossing (beams_of s aod).rows (beams_of s aod).columns (λ row column. IsAtTrapsOf a (Job aod steps) (crossing row column))
KeepsToItsTraps a s (Readout reads) = Unit {0}

-- A step of the act is legal in the state, and before it and behind it the act keeps to its traps.
pub record IsTidyStep (a : Architecture) (s : State) (act : Act) (step : Step) : Type 0 where
  pub of_act : Contains (steps_of act) step
  pub own : IsTrue (has_own_steps act)
  pub legal : IsLegal a s step
  pub before : KeepsToItsTraps a s act
  pub behind : KeepsToItsTraps a (after s step) act

-- So it is with each of these steps of the act, one after another.
abbrev pub AreTidySteps : Architecture → State → Act → List Step → Type 0
AreTidySteps a s act [] = Unit {0}
AreTidySteps a s act (step ∷ steps) = IsTidyStep a s act step × AreTidySteps a (after s step) act steps

-- And with the steps of each of these instructions, in the order of the list.
abbrev pub AreTidy : Architecture → State → List Instr → Type 0
AreTidy a s [] = Unit {0}
AreTidy a s (i ∷ is) = AreTidySteps a s i.act (steps_of i.act) × AreTidy a (after_all s (steps_of i.act)) is

-- What a program keeps from which it follows that every order that its times allow is safe. In the order of its list its
-- steps are legal and realise the circuit, and each job keeps to its traps; instructions that conflict are apart; and in
-- each move some beam goes somewhere, so that each step takes time.
pub record IsTidyProgram (a : Architecture) (c : NativeCircuit) (program : List Instr) : Type 0 where
  pub form : IsTrue (is_program program)
  pub lengths : All (HasLength a.figures) program
  pub moves : AllByRecursion (λ i. MovesGoSomewhere i.act) program
  pub apart : AreApart a program
  pub tidy : AreTidy a (opening a (homes program)) program
  pub realises : Realises c.ops (log_of (listed_steps program))
  pub homes : AreHomes a c.qubits (homes program)

-- Every order that the times allow does the same as the order of the list: it performs the same ops in the same order,
-- and ends in the same state.
abbrev pub OrdersAgree : Architecture → List Instr → Type 0
OrdersAgree a program = (order : List Timed) → IsAllowed a.figures program order →
    (log_of (steps_in order) ≡ log_of (listed_steps program))
    × (after_all (opening a (homes program)) (steps_in order) ≡ after_all (opening a (homes program)) (listed_steps program))
