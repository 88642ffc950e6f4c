-- What a JSON value tells, where it is a value of the text form of a program.
use Rattle.std.specs.Prelude.{◌≡◌, ℕ, Bool, true, false, ◌&&◌, ◌==◌, nat_le, if◌then◌else◌, List, [], ◌∷◌, Option, Some, None, is_some, Result, Ok, Err, option_and_then, bytes_eq, codes}
use Rattle.serde_json.specs.Data.{Data, Items, no_items, item, Members, no_members, member}
use Rattle.serde_json.specs.Find.{as_number, as_u64, as_str, as_array, as_object}
use Rattle.zac_arch.specs.declared.place.TrapId.{TrapId}
use Rattle.zac_gates.specs.Angle.{is_angle}
use Rattle.zac_gates.specs.declared.angle.Angles.{Angles}
use Rattle.zair_form.specs.declared.step.Beam.{Beam}
use Rattle.zair_form.specs.declared.step.Caught.{Caught}
use Rattle.zair_form.specs.declared.step.Dropped.{Dropped}
use Rattle.zair_form.specs.declared.step.OneGate.{OneGate}
use Rattle.zair_form.specs.declared.step.PairOf.{PairOf}
use Rattle.zair_form.specs.declared.step.ReadOf.{ReadOf}
use Rattle.zair_form.specs.declared.step.Step.{Step}
use Rattle.zair_form.specs.declared.step.Step.TheVariants.{Activate, Move, Deactivate}
use Rattle.zair_form.specs.declared.program.Act.{Act}
use Rattle.zair_form.specs.declared.program.Act.TheVariants.{Init, Gates, Rydberg, Job, Readout}
use Rattle.zair_form.specs.declared.program.Instr.{Instr}
use Rattle.zair_text.specs.declared.counts.Totals.{Totals}
use Rattle.zair_read.specs.declared.fault.TextFault.{TextFault}
use Rattle.zair_read.specs.declared.fault.TextFault.TheVariants.{Refused, Memory}

infixl 10 ◌>>=◌
-- what a value tells, told on
abbrev pub ◌>>=◌ : {A B : Type 0} → Option A → (A → Option B) → Option B
o >>= f = option_and_then f o

-- A reading answers what was told, and refuses where nothing was. Want of memory says nothing.
abbrev pub Tells : {A : Type 0} → Result A TextFault → Option A → Type 0
Tells (Ok a) o = o ≡ Some a
Tells (Err Refused) o = o ≡ None
Tells (Err Memory) o = Unit {0}

-- ---- numbers

-- A whole number without a sign, at most this one.
abbrev pub number_up_to : ℕ → Data → Option ℕ
number_up_to most d = do
  n ← option_and_then as_u64 (as_number d)
  if nat_le n most then Some n else None

-- The id of a beam, or the number of an AOD.
abbrev pub told_id : Data → Option ℕ
told_id d = number_up_to 255 d

-- The number of an op, a qubit, a bit or a trap, or a count.
abbrev pub told_number : Data → Option ℕ
told_number d = number_up_to 4294967295 d

-- A position.
abbrev pub told_position : Data → Option ℕ
told_position d = number_up_to 1000000 d

-- ---- arrays

-- two items, and no more
abbrev pub two_items : Items → Option (Data × Data)
two_items (item a (item b no_items)) = Some (a, b)
two_items ds = None

-- The two values of an array.
abbrev pub told_two : Data → Option (Data × Data)
told_two d = do
  ds ← as_array d
  two_items ds

-- three items, and no more
abbrev pub three_items : Items → Option (Data × Data × Data)
three_items (item a (item b (item c no_items))) = Some (a, b, c)
three_items ds = None

-- The three values of an array.
abbrev pub told_three : Data → Option (Data × Data × Data)
told_three d = do
  ds ← as_array d
  three_items ds

-- what each of the items tells
abbrev pub told_items : {A : Type 0} → (Data → Option A) → Items → Option (List A)
told_items told no_items = Some []
told_items told (item d ds) = do
  a ← told d
  as' ← told_items told ds
  Some (a ∷ as')

-- What each value of an array tells.
abbrev pub told_list : {A : Type 0} → (Data → Option A) → Data → Option (List A)
told_list told d = do
  ds ← as_array d
  told_items told ds

-- ---- the parts of steps

abbrev pub told_trap : Data → Option TrapId
told_trap d = do
  t ← told_number d
  Some (record { 0 = t })

abbrev pub told_beam : Data → Option Beam
told_beam d = do
  p ← told_two d
  id ← told_id p.0
  at ← told_position p.1
  Some (record { id = id; at = at })

abbrev pub told_caught : Data → Option Caught
told_caught d = do
  p ← told_three d
  q ← told_number p.0
  row ← told_id p.1
  column ← told_id p.2
  Some (record { q = q; row = row; column = column })

abbrev pub told_dropped : Data → Option Dropped
told_dropped d = do
  p ← told_two d
  q ← told_number p.0
  trap ← told_trap p.1
  Some (record { q = q; trap = trap })

abbrev pub told_pair : Data → Option PairOf
told_pair d = do
  p ← told_three d
  op ← told_number p.0
  a ← told_number p.1
  b ← told_number p.2
  Some (record { op = op; a = a; b = b })

abbrev pub told_read : Data → Option ReadOf
told_read d = do
  p ← told_three d
  op ← told_number p.0
  q ← told_number p.1
  bit ← told_number p.2
  Some (record { op = op; q = q; bit = bit })

-- ---- the members of an object, one after another

-- The value of the first member, if it has this key, and the members after it.
abbrev pub field : List ℕ → Members → Option (Data × Members)
field key no_members = None
field key (member k d ms) = if bytes_eq k key then Some (d, ms) else None

-- There are no more members.
abbrev pub is_end : Members → Bool
is_end no_members = true
is_end (member k d ms) = false

-- A number up to this one under a key, and the members after it.
abbrev pub number_field : List ℕ → ℕ → Members → Option (ℕ × Members)
number_field key most ms = do
  p ← field key ms
  n ← number_up_to most p.0
  Some (n, p.1)

-- there is a text, and it is this one
abbrev pub is_the_text : List ℕ → Option (List ℕ) → Bool
is_the_text word None = false
is_the_text word (Some s) = bytes_eq s word

-- The value is this text.
abbrev pub is_word : List ℕ → Data → Bool
is_word word d = is_the_text word (as_str d)

-- The last member has this key and this text.
abbrev pub ends_with : List ℕ → List ℕ → Members → Bool
ends_with key word no_members = false
ends_with key word (member k d ms) = bytes_eq k key && (is_word word d && is_end ms)

-- ---- gates

-- The text of an angle.
abbrev pub told_angle : Data → Option (List ℕ)
told_angle d = do
  s ← as_str d
  if is_angle s then Some s else None

-- The three angles of a gate.
abbrev pub told_angles : Data → Option Angles
told_angles d = do
  p ← told_three d
  theta ← told_angle p.0
  phi ← told_angle p.1
  lambda ← told_angle p.2
  Some (record { theta = theta; phi = phi; lambda = lambda })

-- The op number, the qubit and the value of the angles.
abbrev pub gate_parts : Data → Option (ℕ × ℕ × Data)
gate_parts d = do
  ms ← as_object d
  op ← number_field (codes "op") 4294967295 ms
  q ← number_field (codes "q") 4294967295 op.1
  u ← field (codes "u") q.1
  if is_end u.1 then Some (op.0, q.0, u.0) else None

-- A one-qubit gate.
abbrev pub told_gate : Data → Option OneGate
told_gate d = do
  p ← gate_parts d
  angles ← told_angles p.2
  Some (record { op = p.0; q = p.1; angles = angles })

-- ---- steps

-- The values of the columns and of the rows.
abbrev pub beams_fields : Members → Option (Data × Data × Members)
beams_fields ms = do
  columns ← field (codes "columns") ms
  rows ← field (codes "rows") columns.1
  Some (columns.0, rows.0, rows.1)

-- The values of the atoms, columns and rows of a step of this name.
abbrev pub atoms_parts : List ℕ → Data → Option (Data × Data × Data)
atoms_parts word d = do
  ms ← as_object d
  atoms ← field (codes "atoms") ms
  beams ← beams_fields atoms.1
  if ends_with (codes "step") word beams.2 then Some (atoms.0, beams.0, beams.1) else None

-- The values of the columns and rows of a move.
abbrev pub move_parts : Data → Option (Data × Data)
move_parts d = do
  ms ← as_object d
  beams ← beams_fields ms
  if ends_with (codes "step") (codes "move") beams.2 then Some (beams.0, beams.1) else None

-- what the first tells, if it is there; else the other
abbrev pub told_or : {A B : Type 0} → Option A → (A → Option B) → Option B → Option B
told_or None f other = other
told_or (Some a) f other = f a

-- An activate of this AOD.
abbrev pub told_activate : ℕ → Data × Data × Data → Option Step
told_activate aod p = do
  atoms ← told_list told_caught p.0
  columns ← told_list told_beam p.1
  rows ← told_list told_beam p.2
  Some (Activate aod rows columns atoms)

-- A move of this AOD.
abbrev pub told_move : ℕ → Data × Data → Option Step
told_move aod p = do
  columns ← told_list told_beam p.0
  rows ← told_list told_beam p.1
  Some (Move aod rows columns)

-- A deactivate of this AOD.
abbrev pub told_deactivate : ℕ → Data × Data × Data → Option Step
told_deactivate aod p = do
  atoms ← told_list told_dropped p.0
  columns ← told_list told_id p.1
  rows ← told_list told_id p.2
  Some (Deactivate aod rows columns atoms)

-- A step of a job of this AOD.
abbrev pub told_step : ℕ → Data → Option Step
told_step aod d =
    told_or (atoms_parts (codes "activate") d) (told_activate aod)
    (told_or (move_parts d) (told_move aod)
    (told_or (atoms_parts (codes "deactivate") d) (told_deactivate aod) None))

-- ---- instructions

-- The begin and the end of an instruction.
abbrev pub times_fields : Members → Option (ℕ × ℕ × Members)
times_fields ms = do
  begin ← number_field (codes "begin") 4000000000000000000 ms
  end ← number_field (codes "end") 4000000000000000000 begin.1
  if nat_le begin.0 end.0 then Some (begin.0, end.0, end.1) else None

-- The begin, the end and the value of the list of an instruction of this kind.
abbrev pub timed_parts : List ℕ → List ℕ → Data → Option (ℕ × ℕ × Data)
timed_parts key word d = do
  ms ← as_object d
  times ← times_fields ms
  values ← field key times.2
  if ends_with (codes "type") word values.1 then Some (times.0, times.1, values.0) else None

-- The AOD, the begin, the end and the value of the steps of a job.
abbrev pub job_parts : Data → Option (ℕ × ℕ × ℕ × Data)
job_parts d = do
  ms ← as_object d
  aod ← number_field (codes "aod") 255 ms
  times ← times_fields aod.1
  steps ← field (codes "steps") times.2
  if ends_with (codes "type") (codes "rearrangeJob") steps.1 then Some (aod.0, times.0, times.1, steps.0) else None

-- An instruction with these times that does this.
abbrev pub timed : ℕ → ℕ → Act → Instr
timed begin end act = record { begin = begin; end = end; act = act }

abbrev pub told_init : ℕ × ℕ × Data → Option Instr
told_init p = do
  homes ← told_list told_trap p.2
  Some (timed p.0 p.1 (Init homes))

abbrev pub told_gates : ℕ × ℕ × Data → Option Instr
told_gates p = do
  ones ← told_list told_gate p.2
  Some (timed p.0 p.1 (Gates ones))

abbrev pub told_rydberg : ℕ × ℕ × Data → Option Instr
told_rydberg p = do
  pairs ← told_list told_pair p.2
  Some (timed p.0 p.1 (Rydberg pairs))

abbrev pub told_readout : ℕ × ℕ × Data → Option Instr
told_readout p = do
  reads ← told_list told_read p.2
  Some (timed p.0 p.1 (Readout reads))

abbrev pub told_job : ℕ × ℕ × ℕ × Data → Option Instr
told_job p = do
  steps ← told_list (told_step p.0) p.3
  Some (timed p.1 p.2 (Job p.0 steps))

-- The instruction that a value tells.
abbrev pub told_instr : Data → Option Instr
told_instr d =
    told_or (timed_parts (codes "homes") (codes "init") d) told_init
    (told_or (timed_parts (codes "gates") (codes "1qGate") d) told_gates
    (told_or (timed_parts (codes "pairs") (codes "rydberg") d) told_rydberg
    (told_or (job_parts d) told_job
    (told_or (timed_parts (codes "reads") (codes "readout") d) told_readout None))))

-- ---- the first and the last line

-- the version of a first line, which is 1
abbrev pub header_parts : Data → Option ℕ
header_parts d = do
  ms ← as_object d
  type ← field (codes "type") ms
  version ← number_field (codes "version") 1 type.1
  if is_word (codes "zair") type.0 && (version.0 == 1 && is_end version.1) then Some version.0 else None

-- The value is that of the first line.
abbrev pub is_header : Data → Bool
is_header d = is_some (header_parts d)

-- The first four counts.
abbrev pub first_counts : Members → Option (ℕ × ℕ × ℕ × ℕ × Members)
first_counts ms = do
  gates ← number_field (codes "gates") 4294967295 ms
  jobs ← number_field (codes "jobs") 4294967295 gates.1
  kept ← number_field (codes "kept") 4294967295 jobs.1
  moved ← number_field (codes "moved") 4294967295 kept.1
  Some (gates.0, jobs.0, kept.0, moved.0, moved.1)

-- The next four counts.
abbrev pub later_counts : Members → Option (ℕ × ℕ × ℕ × ℕ × Members)
later_counts ms = do
  pairs ← number_field (codes "pairs") 4294967295 ms
  pulses ← number_field (codes "pulses") 4294967295 pairs.1
  qubits ← number_field (codes "qubits") 4294967295 pulses.1
  reads ← number_field (codes "reads") 4294967295 qubits.1
  Some (pairs.0, pulses.0, qubits.0, reads.0, reads.1)

-- The totals that the value of a last line tells.
abbrev pub told_totals : Data → Option Totals
told_totals d = do
  ms ← as_object d
  first ← first_counts ms
  later ← later_counts first.4
  time ← number_field (codes "time") 4000000000000000000 later.4
  if ends_with (codes "type") (codes "end") time.1
      then Some (record {
        gates = first.0;
        jobs = first.1;
        kept = first.2;
        moved = first.3;
        pairs = later.0;
        pulses = later.1;
        qubits = later.2;
        reads = later.3;
        time = time.0;
      })
      else None
