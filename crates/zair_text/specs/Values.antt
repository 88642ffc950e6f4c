-- The JSON value of an instruction. The members of an object stand in byte order of their keys.
use Rattle.std.specs.Prelude.{ℕ, List, [], ◌∷◌, map, codes}
use Rattle.serde_json.specs.Data.{Data, number, unsigned, string, array, object, null, member, no_members}
use Rattle.serde_json.specs.View.{items_of}
use Rattle.zac_arch.specs.declared.place.TrapId.{TrapId}
use Rattle.zair_form.specs.declared.step.Beam.{Beam}
use Rattle.zair_form.specs.declared.step.Caught.{Caught}
use Rattle.zair_form.specs.declared.step.Dropped.{Dropped}
use Rattle.zair_form.specs.declared.step.OneGate.{OneGate}
use Rattle.zair_form.specs.declared.step.PairOf.{PairOf}
use Rattle.zair_form.specs.declared.step.ReadOf.{ReadOf}
use Rattle.zair_form.specs.declared.step.Step.{Step}
use Rattle.zair_form.specs.declared.step.Step.TheVariants.{Activate, Move, Deactivate, One, Pulse}
use Rattle.zair_form.specs.declared.step.Step.TheVariants as step
use Rattle.zair_form.specs.declared.program.Act.{Act}
use Rattle.zair_form.specs.declared.program.Act.TheVariants.{Init, Gates, Rydberg, Job, Readout}
use Rattle.zair_form.specs.declared.program.Instr.{Instr}
use Rattle.zair_text.specs.declared.counts.Totals.{Totals}

-- A number as a JSON number.
abbrev pub number_value : ℕ → Data
number_value n = number (unsigned n)

-- An array of these values.
abbrev pub array_of : List Data → Data
array_of values = array (items_of values)

-- An array of numbers.
abbrev pub numbers : List ℕ → Data
numbers ns = array_of (map number_value ns)

-- The number of a trap.
abbrev pub trap_value : TrapId → Data
trap_value t = number_value t.0

-- A beam: its id and its position.
abbrev pub beam_value : Beam → Data
beam_value b = numbers (b.id ∷ b.at ∷ [])

-- An array of beams.
abbrev pub beams_value : List Beam → Data
beams_value beams = array_of (map beam_value beams)

-- a qubit that is picked up, and the row and the column that catch it
abbrev pub caught_value : Caught → Data
caught_value c = numbers (c.q ∷ c.row ∷ c.column ∷ [])

-- a qubit that is dropped, and the trap that takes it
abbrev pub dropped_value : Dropped → Data
dropped_value d = numbers (d.q ∷ d.trap.0 ∷ [])

-- a pair of a pulse: the number of its op, and its two qubits
abbrev pub pair_value : PairOf → Data
pair_value p = numbers (p.op ∷ p.a ∷ p.b ∷ [])

-- A read: its op number, its qubit and its bit.
abbrev pub read_value : ReadOf → Data
read_value r = numbers (r.op ∷ r.q ∷ r.bit ∷ [])

-- A gate: an object with its op number, its qubit and, under "u", its three angles as strings.
abbrev pub gate_value : OneGate → Data
gate_value g = object
    (member (codes "op") (number_value g.op)
    (member (codes "q") (number_value g.q)
    (member (codes "u") (array_of (string g.angles.theta ∷ string g.angles.phi ∷ string g.angles.lambda ∷ []))
    no_members)))

-- An activate: an object with its atoms, columns, rows and the step's name.
abbrev pub activate_value : List Beam → List Beam → List Caught → Data
activate_value rows columns atoms = object
    (member (codes "atoms") (array_of (map caught_value atoms))
    (member (codes "columns") (beams_value columns)
    (member (codes "rows") (beams_value rows)
    (member (codes "step") (string (codes "activate"))
    no_members))))

-- A move: an object with its columns, rows and the step's name.
abbrev pub move_value : List Beam → List Beam → Data
move_value rows columns = object
    (member (codes "columns") (beams_value columns)
    (member (codes "rows") (beams_value rows)
    (member (codes "step") (string (codes "move"))
    no_members)))

-- A deactivate: an object with its atoms, the ids of its columns and rows, and the step's name.
abbrev pub deactivate_value : List ℕ → List ℕ → List Dropped → Data
deactivate_value rows columns atoms = object
    (member (codes "atoms") (array_of (map dropped_value atoms))
    (member (codes "columns") (numbers columns)
    (member (codes "rows") (numbers rows)
    (member (codes "step") (string (codes "deactivate"))
    no_members))))

-- the value of a job's step, whose AOD the job names; a job has no step of another kind
abbrev pub step_value : Step → Data
step_value (Activate aod rows columns atoms) = activate_value rows columns atoms
step_value (Move aod rows columns) = move_value rows columns
step_value (Deactivate aod rows columns atoms) = deactivate_value rows columns atoms
step_value (One gate) = null
step_value (Pulse pairs) = null
step_value (step.Readout reads) = null

-- an object with the times of an instruction, a list under its key, and the kind
abbrev pub timed_value : ℕ → ℕ → List ℕ → List Data → List ℕ → Data
timed_value begin end key values kind = object
    (member (codes "begin") (number_value begin)
    (member (codes "end") (number_value end)
    (member key (array_of values)
    (member (codes "type") (string kind)
    no_members))))

-- What an instruction does, with its begin and its end: an object whose "type" is "init", "1qGate", "rydberg",
-- "rearrangeJob" or "readout". A job has its AOD too.
abbrev pub act_value : ℕ → ℕ → Act → Data
act_value begin end (Init homes) = timed_value begin end (codes "homes") (map trap_value homes) (codes "init")
act_value begin end (Gates ones) = timed_value begin end (codes "gates") (map gate_value ones) (codes "1qGate")
act_value begin end (Rydberg pairs) = timed_value begin end (codes "pairs") (map pair_value pairs) (codes "rydberg")
act_value begin end (Job aod steps) = object
    (member (codes "aod") (number_value aod)
    (member (codes "begin") (number_value begin)
    (member (codes "end") (number_value end)
    (member (codes "steps") (array_of (map step_value steps))
    (member (codes "type") (string (codes "rearrangeJob"))
    no_members)))))
act_value begin end (Readout reads) = timed_value begin end (codes "reads") (map read_value reads) (codes "readout")

-- The value of an instruction: that of its act with its times.
abbrev pub instr_value : Instr → Data
instr_value i = act_value i.begin i.end i.act

-- The value of the first line: "type" is "zair", and "version" is 1.
abbrev pub header_value : Data
header_value = object
    (member (codes "type") (string (codes "zair"))
    (member (codes "version") (number_value 1)
    no_members))

-- The value of the last line: the totals of a tally, and "type" is "end".
abbrev pub end_value : Totals → Data
end_value t = object
    (member (codes "gates") (number_value t.gates)
    (member (codes "jobs") (number_value t.jobs)
    (member (codes "kept") (number_value t.kept)
    (member (codes "moved") (number_value t.moved)
    (member (codes "pairs") (number_value t.pairs)
    (member (codes "pulses") (number_value t.pulses)
    (member (codes "qubits") (number_value t.qubits)
    (member (codes "reads") (number_value t.reads)
    (member (codes "time") (number_value t.time)
    (member (codes "type") (string (codes "end"))
    no_members))))))))))
