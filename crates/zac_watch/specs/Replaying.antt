-- What the replay of a program against a circuit judges.
use Rattle.std.specs.Prelude.{◌≡◌, ◌≢◌, ℕ, Some, List, length, take}
use Rattle.std.specs.List.{slice_get, All}
use Rattle.zac_arch.specs.Architecture.{Architecture}
use Rattle.zac_arch.specs.declared.card.Figures.{Figures}
use Rattle.zac_gates.specs.declared.checklist.CheckFault.{CheckFault}
use Rattle.zac_gates.specs.Checklist.{IsPerformable, IsMissing}
use Rattle.zac_gates.specs.Log.{Realises}
use Rattle.zac_gates.specs.Ops.{NativeCircuit}
use Rattle.zair_form.specs.declared.step.Step.{Step}
use Rattle.zair_form.specs.declared.program.Instr.{Instr}
use Rattle.zair_form.specs.Steps.{homes}
use Rattle.zair_form.specs.Times.{Timed, HasLength}
use Rattle.zair_machine.specs.Machine.{IsWrongHome}
use Rattle.zair_state.specs.Homes.{AreHomes}
use Rattle.zair_state.specs.Least.{IsLeastOf}
use Rattle.zair_state.specs.Legal.{IsLegal}
use Rattle.zair_state.specs.Orders.{IsNamedOrder}
use Rattle.zair_state.specs.Performs.{steps_in}
use Rattle.zair_state.specs.Run.{IsLegalRun, after_all, entries, log_of}
use Rattle.zair_state.specs.State.{State, opening}
use Rattle.zac_watch.specs.declared.fault.ReplayFault.{ReplayFault}
use Rattle.zac_watch.specs.declared.fault.ReplayFault.TheVariants.{Qubits, Home, Length, Machine, Check, Missing, Memory}
use Rattle.zac_watch.specs.Judging.{AreRefused}
use Rattle.zac_watch.specs.Watching.{IsFirstIllegal}

-- The program's homes are homes of the circuit's qubits, each instruction takes as long as its steps, and this is the
-- named order of its steps.
pub record IsTimely (a : Architecture) (c : NativeCircuit) (program : List Instr) (order : List Timed) : Type 0 where
  pub homes_are : AreHomes a c.qubits (homes program)
  pub lengths : All (HasLength a.figures) program
  pub named : IsNamedOrder a.figures program order

-- The program replays the circuit: it is timely, the steps in the named order are legal from its homes on, and their log
-- realises the circuit. There are this many steps.
pub record Replays (a : Architecture) (c : NativeCircuit) (program : List Instr) (number : ℕ) : Type 0 where
  pub order : List Timed
  pub timely : IsTimely a c program order
  pub legal : IsLegalRun a (opening a (homes program)) (steps_in order)
  pub realises : Realises c.ops (log_of (steps_in order))
  pub counted : number ≡ length order

-- The instruction of this number is the first whose end isn't its begin and the time that its steps take together.
pub record IsFirstWrongLength (f : Figures) (program : List Instr) (number : ℕ) : Type 0 where
  pub instr : Instr
  pub here : slice_get program number ≡ Some instr
  pub wrong : ¬ HasLength f instr
  pub before : All (HasLength f) (take number program)

-- Each of the steps is legal after those before it, and each op of each can be performed after those before it.
pub record AreRight (a : Architecture) (c : NativeCircuit) (s : State) (steps : List Step) : Type 0 where
  pub legal : IsLegalRun a s steps
  pub performable : IsPerformable c.ops (log_of steps)

-- The steps before this number are right; the step of this number is legal, and an op of it is refused so.
pub record IsFirstRefused (a : Architecture) (c : NativeCircuit) (s : State) (steps : List Step) (number : ℕ) (fault : CheckFault) : Type 0 where
  pub step : Step
  pub here : slice_get steps number ≡ Some step
  pub before : AreRight a c s (take number steps)
  pub legal : IsLegal a (after_all s (take number steps)) step
  pub refused : AreRefused c.ops (log_of (take number steps)) (entries step) fault

-- Why the program doesn't replay the circuit, the first of these: the numbers of qubits differ; the home of the least
-- such qubit is no storage trap or that of a qubit of smaller number; the first such instruction doesn't end when its
-- steps have; the first wrong step of the named order isn't legal; it is legal, and an op of it is refused; no step is
-- wrong, and the least such op is missing. Want of memory has no cause that could be named.
abbrev pub IsReplayFault : Architecture → NativeCircuit → List Instr → ReplayFault → Type 0
IsReplayFault a c program (Qubits text source) =
    (text ≡ length (homes program)) × (source ≡ c.qubits) × (text ≢ source)
IsReplayFault a c program (Home q) =
    (length (homes program) ≡ c.qubits) × IsLeastOf (IsWrongHome a (homes program)) (Some q)
IsReplayFault a c program (Length instr) =
    AreHomes a c.qubits (homes program) × IsFirstWrongLength a.figures program instr
IsReplayFault a c program (Machine step fault) =
    (order : List Timed) × IsTimely a c program order
    × IsPerformable c.ops (log_of (take step (steps_in order)))
    × IsFirstIllegal a (opening a (homes program)) (steps_in order) step fault
IsReplayFault a c program (Check step fault) =
    (order : List Timed) × IsTimely a c program order
    × IsFirstRefused a c (opening a (homes program)) (steps_in order) step fault
IsReplayFault a c program (Missing op) =
    (order : List Timed) × IsTimely a c program order
    × AreRight a c (opening a (homes program)) (steps_in order)
    × IsMissing c.ops (log_of (steps_in order)) op
IsReplayFault a c program Memory = Unit {0}
