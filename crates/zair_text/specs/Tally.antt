-- What is counted in a program for the last line of its text.
use Rattle.std.specs.Prelude.{ℕ, Bool, true, false, not, ◌&&◌, ◌||◌, ◌==◌, ◌+◌, min, max, List, [], ◌∷◌, ◌++◌, map, fold, length}
use Rattle.std.specs.List.{sum_by, count_by, list_any, list_all}
use Rattle.zair_form.specs.Steps.{homes}
use Rattle.zair_form.specs.declared.step.Dropped.{Dropped}
use Rattle.zair_form.specs.declared.step.OneGate.{OneGate}
use Rattle.zair_form.specs.declared.step.PairOf.{PairOf}
use Rattle.zair_form.specs.declared.step.ReadOf.{ReadOf}
use Rattle.zair_form.specs.declared.step.Step.{Step}
use Rattle.zair_form.specs.declared.step.Step.TheVariants.{Activate, Move, Deactivate, One, Pulse}
use Rattle.zair_form.specs.declared.step.Step.TheVariants as step
use Rattle.zair_form.specs.declared.program.Act.{Act}
use Rattle.zair_form.specs.declared.program.Act.TheVariants.{Init, Gates, Rydberg, Job, Readout}
use Rattle.zair_form.specs.declared.program.Instr.{Instr}
use Rattle.zair_text.specs.declared.counts.Totals.{Totals}

-- A count as it is told: one past 2^32 - 1 stands as 2^32 - 1.
abbrev pub told : ℕ → ℕ
told n = min n 4294967295

-- The one-qubit gates of an act.
abbrev pub ones_of : Act → List OneGate
ones_of (Init homes) = []
ones_of (Gates ones) = ones
ones_of (Rydberg pairs) = []
ones_of (Job aod steps) = []
ones_of (Readout reads) = []

-- The pairs of a pulse; an act of another kind has none.
abbrev pub pairs_of : Act → List PairOf
pairs_of (Init homes) = []
pairs_of (Gates ones) = []
pairs_of (Rydberg pairs) = pairs
pairs_of (Job aod steps) = []
pairs_of (Readout reads) = []

-- The reads of a readout; an act of another kind has none.
abbrev pub reads_of : Act → List ReadOf
reads_of (Init homes) = []
reads_of (Gates ones) = []
reads_of (Rydberg pairs) = []
reads_of (Job aod steps) = []
reads_of (Readout reads) = reads

-- The steps of a job; an act of another kind has none.
abbrev pub job_steps : Act → List Step
job_steps (Init homes) = []
job_steps (Gates ones) = []
job_steps (Rydberg pairs) = []
job_steps (Job aod steps) = steps
job_steps (Readout reads) = []

-- The act is a pulse.
abbrev pub is_pulse : Act → Bool
is_pulse (Init homes) = false
is_pulse (Gates ones) = false
is_pulse (Rydberg pairs) = true
is_pulse (Job aod steps) = false
is_pulse (Readout reads) = false

-- The act is a job.
abbrev pub is_job : Act → Bool
is_job (Init homes) = false
is_job (Gates ones) = false
is_job (Rydberg pairs) = false
is_job (Job aod steps) = true
is_job (Readout reads) = false

-- The atoms that a deactivate lists; a step of another kind drops none.
abbrev pub dropped_in : Step → List Dropped
dropped_in (Activate aod rows columns atoms) = []
dropped_in (Move aod rows columns) = []
dropped_in (Deactivate aod rows columns atoms) = atoms
dropped_in (One gate) = []
dropped_in (Pulse pairs) = []
dropped_in (step.Readout reads) = []

-- How many atoms the deactivates among these steps list.
abbrev pub moved_by : List Step → ℕ
moved_by steps = sum_by (λ s. length (dropped_in s)) steps

-- The qubit is in one of these pairs.
abbrev pub is_paired : ℕ → List PairOf → Bool
is_paired q pairs = list_any (λ p. p.a == q || p.b == q) pairs

-- A deactivate among these steps lists the qubit.
abbrev pub is_dropped : ℕ → List Step → Bool
is_dropped q steps = list_any (λ s. list_any (λ d. d.q == q) (dropped_in s)) steps

-- The act is no pulse, and drops the qubit in no deactivate.
abbrev pub lets_stay : ℕ → Act → Bool
lets_stay q act = not (is_pulse act) && not (is_dropped q (job_steps act))

-- Behind these instructions the qubit is held: one of them is a pulse with a pair of the qubit, and each one behind that pulse lets
-- the qubit stay. So the pulse is the last one of the list, and no deactivate behind it lists the qubit.
unfoldable pub is_held : ℕ → List Instr → Bool
is_held q [] = false
is_held q (i ∷ later) = (is_paired q (pairs_of i.act) && list_all (λ j. lets_stay q j.act) later) || is_held q later

-- How many of the pairs have a qubit that is held behind the instructions that are before them.
abbrev pub kept_pairs : List Instr → List PairOf → ℕ
kept_pairs before pairs = count_by (λ p. is_held p.a before || is_held p.b before) pairs

-- The kept pairs of all instructions, those of each counted behind the ones that are before it: first these, and then those that stand
-- before it in the list.
unfoldable pub kept_behind : List Instr → List Instr → ℕ
kept_behind before [] = 0
kept_behind before (i ∷ later) = kept_pairs before (pairs_of i.act) + kept_behind (before ++ i ∷ []) later

-- What the acts of the instructions count together, as it is told.
abbrev pub total : (Act → ℕ) → List Instr → ℕ
total count program = told (sum_by (λ i. count i.act) program)

-- The tally of a program: its one-qubit gates, jobs, kept pairs, moved atoms (all that deactivates list), pairs, pulses, qubits (as many
-- as homes) and reads, and the greatest end of an instruction.
unfoldable pub totals_of : List Instr → Totals
totals_of program = record {
  gates = total (λ act. length (ones_of act)) program;
  jobs = told (count_by (λ i. is_job i.act) program);
  kept = told (kept_behind [] program);
  moved = total (λ act. moved_by (job_steps act)) program;
  pairs = total (λ act. length (pairs_of act)) program;
  pulses = told (count_by (λ i. is_pulse i.act) program);
  qubits = told (length (homes program));
  reads = total (λ act. length (reads_of act)) program;
  time = fold max 0 (map (λ i. i.end) program);
}
