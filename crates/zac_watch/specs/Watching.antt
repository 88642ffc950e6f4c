-- What showing a program's steps to watches comes to.
use Rattle.std.specs.Prelude.{◌≡◌, ℕ, ◌⊎◌, Some, List, [], ◌∷◌, length, take}
use Rattle.std.specs.List.{slice_get}
use Rattle.zac_arch.specs.Architecture.{Architecture}
use Rattle.zair_form.specs.declared.step.Step.{Step}
use Rattle.zair_form.specs.declared.program.Instr.{Instr}
use Rattle.zair_form.specs.Steps.{homes}
use Rattle.zair_form.specs.Times.{Timed}
use Rattle.zair_machine.specs.Machine.{IsWrongHome, Running}
use Rattle.zair_state.specs.declared.fault.MachineFault.{MachineFault}
use Rattle.zair_state.specs.FirstFault.{IsFirstFault}
use Rattle.zair_state.specs.Homes.{AreHomes}
use Rattle.zair_state.specs.Legal.{IsLegal}
use Rattle.zair_state.specs.Result.{after}
use Rattle.zair_state.specs.Least.{IsLeastOf}
use Rattle.zair_state.specs.Orders.{IsNamedOrder}
use Rattle.zair_state.specs.Performs.{steps_in}
use Rattle.zair_state.specs.Run.{IsLegalRun, after_all}
use Rattle.zair_state.specs.State.{State, opening}
use Rattle.zac_watch.specs.declared.fault.WatchFault.{WatchFault}
use Rattle.zac_watch.specs.declared.fault.WatchFault.TheVariants.{Home, Machine, Memory}

-- The step of this number is the first that isn't legal, and the fault is the first thing that is wrong with it.
pub record IsFirstIllegal (a : Architecture) (s : State) (steps : List Step) (number : ℕ) (fault : MachineFault) : Type 0 where
  pub step : Step
  pub here : slice_get steps number ≡ Some step
  pub before : IsLegalRun a s (take number steps)
  pub illegal : ¬ IsLegal a (after_all s (take number steps)) step
  pub wrong : IsFirstFault a (after_all s (take number steps)) step fault

-- The step is legal, was done on the machine, and was shown.
pub record WasStepShown (m m' : Running) (step : Step) (Shown : List Step → Type 0) : Type 0 where
  pub legal : IsLegal m.card m.state step
  pub machine : m' ≡ record { card = m.card; state = after m.state step }
  pub shown : Shown (step ∷ [])

-- Why the step, told as the one of this number, wasn't shown: it isn't legal, or memory was wanting.
abbrev pub IsShowFault : Running → ℕ → Step → (List Step → Type 0) → WatchFault → Type 0
IsShowFault m number step Shown (Home q) = ⊥
IsShowFault m number step Shown (Machine n fault) = (n ≡ number) × IsFirstFault m.card m.state step fault × Shown []
IsShowFault m number step Shown Memory = Shown []

-- The homes of the program are distinct storage traps.
abbrev pub HasHomes : Architecture → List Instr → Type 0
HasHomes a program = AreHomes a (length (homes program)) (homes program)

-- The steps of the program in the named order are legal from its homes on, and the watches were shown all of them.
pub record WasWatched (a : Architecture) (program : List Instr) (Shown : List Step → Type 0) : Type 0 where
  pub homes_are : HasHomes a program
  pub order : List Timed
  pub named : IsNamedOrder a.figures program order
  pub legal : IsLegalRun a (opening a (homes program)) (steps_in order)
  pub shown : Shown (steps_in order)

-- A step of the program in the named order is the first that isn't legal, and the watches were shown those before it.
pub record WasWatchedUpTo (a : Architecture) (program : List Instr) (Shown : List Step → Type 0) (number : ℕ) (fault : MachineFault) : Type 0 where
  pub homes_are : HasHomes a program
  pub order : List Timed
  pub named : IsNamedOrder a.figures program order
  pub illegal : IsFirstIllegal a (opening a (homes program)) (steps_in order) number fault
  pub shown : Shown (take number (steps_in order))

-- Why the watching of the program ended, and what was shown until then: the least qubit whose home is no storage trap or
-- that of a qubit of smaller number, and nothing; the first step that isn't legal, and those before it; want of memory,
-- and either nothing or the steps before some number.
abbrev pub IsWatchFault : Architecture → List Instr → (List Step → Type 0) → WatchFault → Type 0
IsWatchFault a program Shown (Home q) = IsLeastOf (IsWrongHome a (homes program)) (Some q) × Shown []
IsWatchFault a program Shown (Machine step fault) = WasWatchedUpTo a program Shown step fault
IsWatchFault a program Shown Memory =
    Shown [] ⊎ ((order : List Timed) × (number : ℕ) × IsNamedOrder a.figures program order × Shown (take number (steps_in order)))
