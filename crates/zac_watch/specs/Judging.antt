-- What one step of a replay comes to.
use Rattle.std.specs.Prelude.{◌≡◌, ℕ, Some, List, ◌++◌, take}
use Rattle.std.specs.List.{slice_get}
use Rattle.zac_gates.specs.declared.circuit.Op.{Op}
use Rattle.zac_gates.specs.declared.checklist.CheckFault.{CheckFault}
use Rattle.zac_gates.specs.Checklist.{IsPerformable, IsRefused}
use Rattle.zac_gates.specs.Log.{Entry}
use Rattle.zair_form.specs.declared.step.Step.{Step}
use Rattle.zair_machine.specs.Machine.{Running}
use Rattle.zair_state.specs.FirstFault.{IsFirstFault}
use Rattle.zair_state.specs.Legal.{IsLegal}
use Rattle.zair_state.specs.Result.{after}
use Rattle.zair_state.specs.Run.{entries}
use Rattle.zac_watch.specs.declared.fault.ReplayFault.{ReplayFault}
use Rattle.zac_watch.specs.declared.fault.ReplayFault.TheVariants.{Qubits, Home, Length, Machine, Check, Missing, Memory}

-- The entries were performed, each behind those before it, and stand behind the log.
pub record ArePerformed (ops : List Op) (log wanted new : List Entry) : Type 0 where
  pub log_is : new ≡ log ++ wanted
  pub performable : IsPerformable ops new

-- The first of the entries that can't be performed behind the log and those before it is refused so.
pub record AreRefused (ops : List Op) (log wanted : List Entry) (fault : CheckFault) : Type 0 where
  pub place : ℕ
  pub entry : Entry
  pub here : slice_get wanted place ≡ Some entry
  pub before : IsPerformable ops (log ++ take place wanted)
  pub refused : IsRefused ops (log ++ take place wanted) entry.op entry.what fault

-- The step is legal, and was done; its ops were performed behind the log.
pub record WasDone (ops : List Op) (m : Running) (log : List Entry) (step : Step) (m' : Running) (log' : List Entry) : Type 0 where
  pub legal : IsLegal m.card m.state step
  pub machine : m' ≡ record { card = m.card; state = after m.state step }
  pub performed : ArePerformed ops log (entries step) log'

-- Why the step, told as the one of this number, isn't right: it isn't legal; it is legal, and an op of it is refused. Of
-- a want of memory nothing is said.
abbrev pub IsStepFault : List Op → Running → List Entry → Step → ℕ → ReplayFault → Type 0
IsStepFault ops m log step number (Machine n fault) = (n ≡ number) × IsFirstFault m.card m.state step fault
IsStepFault ops m log step number (Check n fault) = (n ≡ number) × IsLegal m.card m.state step × AreRefused ops log (entries step) fault
IsStepFault ops m log step number Memory = Unit {0}
IsStepFault ops m log step number (Qubits text source) = ⊥
IsStepFault ops m log step number (Home q) = ⊥
IsStepFault ops m log step number (Length instr) = ⊥
IsStepFault ops m log step number (Missing op) = ⊥
