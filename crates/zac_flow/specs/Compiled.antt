-- What a card and a source compile to.
use Rattle.std.specs.Prelude.{◌≡◌, ℕ, ◌≤◌, List, Option, None, Some}
use Rattle.zac_arch.specs.Architecture.{Architecture, storage_count}
use Rattle.zac_gates.specs.Ops.{NativeCircuit}
use Rattle.zac_io.specs.Outside.{NamedFiles}
use Rattle.zair_state.specs.Performs.{Performs}
use Rattle.zair_form.specs.Ranges.{ProgramFits}
use Rattle.zair_form.specs.declared.program.Instr.{Instr}
use Rattle.qasm_expand.specs.Expansion.{IsWithinLimits, IsExpansion}
use Rattle.qasm_expand.specs.Items.{qubit_count}
use Rattle.qasm_names.specs.Accepted.{Program}
use Rattle.zac_watch.specs.Replaying.{Replays}
use Rattle.zair_read.specs.Texts.{IsProgramText}
use Rattle.zac_plan.specs.Plan.{IsPlanned}
use Rattle.zac_sched.specs.Exchange.{OrdersAgree}
use Rattle.zac_flow.specs.Inputs.{Gives, AreShort, IsCardOf}
use Rattle.qasm_source.specs.Source.{IsAccepted}
use Rattle.zac_flow.specs.Words.{FileWords}
use Rattle.zac_flow.specs.declared.inputs.Inputs.{Inputs}

-- Card, source and text are within their limits, the card is of this architecture, and the source is accepted as this program.
pub record AreReadAs (i : Inputs) (a : Architecture) (source : Program) : Type 0 where
  pub short : AreShort i
  pub card : IsCardOf i.card a
  pub accepted : IsAccepted i.source source

-- They are read as a card of this architecture and a program that passes no limit, and the circuit is its expansion.
pub record IsCircuitOf (i : Inputs) (a : Architecture) (circuit : NativeCircuit) : Type 0 where
  pub source : Program
  pub is : AreReadAs i a source
  pub limits : IsWithinLimits source
  pub expansion : IsExpansion source circuit

-- They have a circuit, its qubits are at most the storage traps of the card, and the program performs it there and does a
-- plan of it: between two pulses as many gates as can be stay at their sites, and the other atoms are placed at the least
-- cost. All orders that its times allow do the same. Its numbers and angles are in the ranges of the text form.
pub record CompilesTo (i : Inputs) (program : List Instr) : Type 0 where
  pub card : Architecture
  pub circuit : NativeCircuit
  pub is : IsCircuitOf i card circuit
  pub fits : circuit.qubits ≤ storage_count card
  pub performs : Performs card circuit program
  pub agree : OrdersAgree card program
  pub planned : IsPlanned card circuit program
  pub ranges : ProgramFits program

-- What the words may give compiles to this program.
abbrev pub MayCompileTo : Option NamedFiles → FileWords → List Instr → Type 0
MayCompileTo files words program = (i : Inputs) × Gives files words i × CompilesTo i program

-- They have a circuit, their text is that of a program, and the program replays the circuit on the card in so many steps.
pub record ReplaysIn (i : Inputs) (program : List Instr) (steps : ℕ) : Type 0 where
  pub card : Architecture
  pub circuit : NativeCircuit
  pub is : IsCircuitOf i card circuit
  pub bytes : List ℕ
  pub zair : i.zair ≡ Some bytes
  pub text : IsProgramText bytes program
  pub replays : Replays card circuit program steps

-- What is given is as its command wants it: with no text, a card and a source that pass no limit and fit the storage;
-- with a text, one that replays.
abbrev pub IsServed : Inputs → Option (List ℕ) → Type 0
IsServed i None = (a : Architecture) × (source : Program) × AreReadAs i a source × IsWithinLimits source × (qubit_count source.statements ≤ storage_count a)
IsServed i (Some bytes) = (program : List Instr) × (steps : ℕ) × ReplaysIn i program steps
