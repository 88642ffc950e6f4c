-- A program performs a circuit: what is promised of it in the order of its list, and in every order that its times
-- allow.
use Rattle.std.specs.Prelude.{◌≡◌, List, ◌∷◌, ◌++◌, map, IsTrue}
use Rattle.std.specs.List.{All, flat_map}
use Rattle.zac_arch.specs.Architecture.{Architecture}
use Rattle.zac_gates.specs.Ops.{NativeCircuit}
use Rattle.zac_gates.specs.Log.{Realises}
use Rattle.zair_form.specs.declared.program.Instr.{Instr}
use Rattle.zair_form.specs.declared.step.PairOf.{PairOf}
use Rattle.zair_form.specs.declared.step.Step.{Step}
use Rattle.zair_form.specs.declared.step.Step.TheVariants.{Pulse}
use Rattle.zair_form.specs.Steps.{steps_of, is_program, homes}
use Rattle.zair_form.specs.Times.{Timed, HasLength}
use Rattle.zair_state.specs.Homes.{AreHomes}
use Rattle.zair_state.specs.State.{State, opening}
use Rattle.zair_state.specs.Legal.{ListsPairsInRange}
use Rattle.zair_state.specs.Run.{IsLegalRun, after_all, log_of}
use Rattle.zair_state.specs.Orders.{IsAllowed, IsNamedOrder}
use Rattle.zair_state.specs.Resources.{AreApart}

-- The steps of a program in the order of its list.
abbrev pub listed_steps : List Instr → List Step
listed_steps program = flat_map (λ i. steps_of i.act) program

-- The steps of an order.
abbrev pub steps_in : List Timed → List Step
steps_in order = map (λ t. t.step) order

-- In the state that the steps before it leave, each pulse finds in range exactly the pairs that it lists.
abbrev pub EachPulseFindsItsPairs : Architecture → State → List Step → Type 0
EachPulseFindsItsPairs a s steps = (before behind : List Step) → (pairs : List PairOf) →
    steps ≡ before ++ Pulse pairs ∷ behind → ListsPairsInRange a (after_all s before) pairs

-- In this order, from the program's homes on: each step is legal, each pulse brings in range exactly the pairs that it
-- lists, and the log realises the circuit's ops.
pub record IsSafeOrder (a : Architecture) (c : NativeCircuit) (program : List Instr) (steps : List Step) : Type 0 where
  -- each step is legal in the state that the steps before it leave
  pub legal : IsLegalRun a (opening a (homes program)) steps
  -- each pulse brings within range exactly its listed pairs
  pub pairs : EachPulseFindsItsPairs a (opening a (homes program)) steps
  -- every qubit meets exactly its gates, in order, and no gate passes a fence
  pub realises : Realises c.ops (log_of steps)

-- A program performs a circuit on a card. It has the form of a program; its homes are homes of the circuit's qubits;
-- each instruction takes as long as its steps; the order of its list is safe, and so is every order of its steps that
-- the times allow; the named order is one of these; and instructions that conflict are apart.
pub record Performs (a : Architecture) (c : NativeCircuit) (program : List Instr) : Type 0 where
  pub form : IsTrue (is_program program)
  pub homes : AreHomes a c.qubits (homes program)
  -- each instruction takes as long as its steps
  pub lengths : All (HasLength a.figures) program
  -- the order of the list is safe, whether the times allow it or not
  pub listed : IsSafeOrder a c program (listed_steps program)
  -- so is every order that the times allow
  pub orders : (order : List Timed) → IsAllowed a.figures program order → IsSafeOrder a c program (steps_in order)
  -- the order by begins is one of these
  pub named : (order : List Timed) × IsAllowed a.figures program order × IsNamedOrder a.figures program order
  -- no resource serves two instructions at once
  pub apart : AreApart a program
