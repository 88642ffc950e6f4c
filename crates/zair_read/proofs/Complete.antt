-- The value of an instruction in range tells that instruction.
use Rattle.std.proofs.Common.{◌≡◌, ℕ, ◌≤◌, true, ◌==◌, if◌then◌else◌, List, [], ◌∷◌, map, codes, Option, Some, None, refl, sym, ap, ◌∙◌, subst, arith, true≢false}
use Rattle.std.proofs.lemmas.Bool.{and_parts, le-leb}
use Rattle.std.proofs.lemmas.Bool.Decides.{Decides-eqb}
use Rattle.std.specs.List.{AllByRecursion, list_all}
use Rattle.serde_json.specs.Data.{Data, string, object, Members, no_members, member}
use Rattle.serde_json.specs.View.{items_of}
use Rattle.zair_form.specs.Ranges.{IsId, IsNumber, BeamFits, CaughtFits, DroppedFits, GateFits, PairFits, ReadFits, StepFits, ActFits, InstrFits}
use Rattle.zair_form.specs.Steps.{is_step_of, has_own_steps}
use Rattle.zair_form.specs.declared.step.Beam.{Beam}
use Rattle.zair_form.specs.declared.step.Caught.{Caught}
use Rattle.zair_form.specs.declared.step.Dropped.{Dropped}
use Rattle.zair_form.specs.declared.step.Step.{Step}
use Rattle.zair_form.specs.declared.step.Step.TheVariants.{Activate, Move, Deactivate, One, Pulse}
use Rattle.zair_form.specs.declared.step.Step.TheVariants as step
use Rattle.zair_form.specs.declared.program.Act.{Act}
use Rattle.zair_form.specs.declared.program.Act.TheVariants.{Init, Gates, Rydberg, Job, Readout}
use Rattle.zair_form.specs.declared.program.Instr.{Instr}
use Rattle.zair_text.specs.Values.{number_value, array_of, trap_value, beam_value, caught_value, dropped_value, pair_value, read_value, gate_value, step_value, act_value, instr_value, header_value, end_value}
use Rattle.zair_text.specs.declared.counts.Totals.{Totals}
use Rattle.zair_read.specs.Told.{◌>>=◌, number_up_to, told_id, told_number, told_position, told_list, told_items, told_trap, told_beam, told_caught, told_dropped, told_pair, told_read, field, ends_with, told_gate, told_or, told_step, times_fields, timed_parts, job_parts, timed, told_init, told_gates, told_rydberg, told_readout, told_job, told_instr, header_parts, told_totals}
use Rattle.zair_read.specs.Texts.{TotalsFit}

-- ---- numbers

up : (most n : ℕ) → n ≤ most → number_up_to most (number_value n) ≡ Some n
up most n h = ap (λ b. if b then Some n else None) (le-leb n most h)

id_told : (n : ℕ) → IsId n → told_id (number_value n) ≡ Some n
id_told n h = up 255 n h

number_told : (n : ℕ) → IsNumber n → told_number (number_value n) ≡ Some n
number_told n h = up 4294967295 n (omega (arith, h))

-- ---- lists

-- the value of what is in range tells it
abbrev IsComplete : {A : Type 0} → (A → Data) → (A → Type 0) → (Data → Option A) → Type 0
IsComplete {A} value Fits told = (a : A) → Fits a → told (value a) ≡ Some a

module _ {A : Type 0} (value : A → Data) (Fits : A → Type 0) (told : Data → Option A) (complete : IsComplete value Fits told) where
  items_told : (xs : List A) → AllByRecursion Fits xs → told_items told (items_of (map value xs)) ≡ Some xs
  items_told [] h = refl
  items_told (x ∷ xs) h =
      ap (λ o. o >>= (λ a. told_items told (items_of (map value xs)) >>= (λ as'. Some (a ∷ as')))) (complete x h.0)
      ∙ ap (λ o. o >>= (λ as'. Some (x ∷ as'))) (items_told xs h.1)

  list_told : (xs : List A) → AllByRecursion Fits xs → told_list told (array_of (map value xs)) ≡ Some xs
  list_told xs h = items_told xs h

-- ---- the parts of steps

trap_told : IsComplete trap_value (λ t. IsNumber t.0) told_trap
trap_told t h = ap (λ o. o >>= (λ n. Some (record { 0 = n }))) (number_told t.0 h)

beam_told : IsComplete beam_value BeamFits told_beam
beam_told b h =
    ap (λ o. o >>= (λ id. told_position (number_value b.at) >>= (λ at. Some (record { id = id; at = at })))) (id_told b.id h.0)
    ∙ ap (λ o. o >>= (λ at. Some (record { id = b.id; at = at }))) (up 1000000 b.at h.1)

dropped_told : IsComplete dropped_value DroppedFits told_dropped
dropped_told d h =
    ap (λ o. o >>= (λ q. told_trap (trap_value d.trap) >>= (λ trap. Some (record { q = q; trap = trap })))) (number_told d.q h.0)
    ∙ ap (λ o. o >>= (λ trap. Some (record { q = d.q; trap = trap }))) (trap_told d.trap h.1)

caught_told : IsComplete caught_value CaughtFits told_caught
caught_told c h =
    ap (λ o. o >>= (λ q. told_id (number_value c.row) >>= (λ row. told_id (number_value c.column) >>= (λ column. Some (record { q = q; row = row; column = column }))))) (number_told c.q h.0)
    ∙ ap (λ o. o >>= (λ row. told_id (number_value c.column) >>= (λ column. Some (record { q = c.q; row = row; column = column })))) (id_told c.row h.1)
    ∙ ap (λ o. o >>= (λ column. Some (record { q = c.q; row = c.row; column = column }))) (id_told c.column h.2)

pair_told : IsComplete pair_value PairFits told_pair
pair_told p h =
    ap (λ o. o >>= (λ op. told_number (number_value p.a) >>= (λ a. told_number (number_value p.b) >>= (λ b. Some (record { op = op; a = a; b = b }))))) (number_told p.op h.0)
    ∙ ap (λ o. o >>= (λ a. told_number (number_value p.b) >>= (λ b. Some (record { op = p.op; a = a; b = b })))) (number_told p.a h.1)
    ∙ ap (λ o. o >>= (λ b. Some (record { op = p.op; a = p.a; b = b }))) (number_told p.b h.2)

read_told : IsComplete read_value ReadFits told_read
read_told r h =
    ap (λ o. o >>= (λ op. told_number (number_value r.q) >>= (λ q. told_number (number_value r.bit) >>= (λ bit. Some (record { op = op; q = q; bit = bit }))))) (number_told r.op h.0)
    ∙ ap (λ o. o >>= (λ q. told_number (number_value r.bit) >>= (λ bit. Some (record { op = r.op; q = q; bit = bit })))) (number_told r.q h.1)
    ∙ ap (λ o. o >>= (λ bit. Some (record { op = r.op; q = r.q; bit = bit }))) (number_told r.bit h.2)

gate_told : IsComplete gate_value GateFits told_gate
gate_told g h =
    let op = le-leb g.op 4294967295 (omega (arith, h.0)) in
    let q = le-leb g.q 4294967295 (omega (arith, h.1)) in
    rw (op, q, h.2.0, h.2.1, h.2.2) refl

-- ---- steps

module _ (aod : ℕ) where
  activate_told : (rows columns : List Beam) (atoms : List Caught) → StepFits (Activate aod rows columns atoms) → told_step aod (step_value (Activate aod rows columns atoms)) ≡ Some (Activate aod rows columns atoms)
  activate_told rows columns atoms h =
      ap (λ o. o >>= (λ atoms'. told_list told_beam (array_of (map beam_value columns)) >>= (λ columns'. told_list told_beam (array_of (map beam_value rows)) >>= (λ rows'. Some (Activate aod rows' columns' atoms')))))
      (list_told caught_value CaughtFits told_caught caught_told atoms h.3)
      ∙ ap (λ o. o >>= (λ columns'. told_list told_beam (array_of (map beam_value rows)) >>= (λ rows'. Some (Activate aod rows' columns' atoms)))) (list_told beam_value BeamFits told_beam beam_told columns h.2)
      ∙ ap (λ o. o >>= (λ rows'. Some (Activate aod rows' columns atoms))) (list_told beam_value BeamFits told_beam beam_told rows h.1)

  move_told : (rows columns : List Beam) → StepFits (Move aod rows columns) → told_step aod (step_value (Move aod rows columns)) ≡ Some (Move aod rows columns)
  move_told rows columns h =
      ap (λ o. o >>= (λ columns'. told_list told_beam (array_of (map beam_value rows)) >>= (λ rows'. Some (Move aod rows' columns')))) (list_told beam_value BeamFits told_beam beam_told columns h.2)
      ∙ ap (λ o. o >>= (λ rows'. Some (Move aod rows' columns))) (list_told beam_value BeamFits told_beam beam_told rows h.1)

  deactivate_told : (rows columns : List ℕ) (atoms : List Dropped) → StepFits (Deactivate aod rows columns atoms) → told_step aod (step_value (Deactivate aod rows columns atoms)) ≡ Some (Deactivate aod rows columns atoms)
  deactivate_told rows columns atoms h =
      ap (λ o. o >>= (λ atoms'. told_list told_id (array_of (map number_value columns)) >>= (λ columns'. told_list told_id (array_of (map number_value rows)) >>= (λ rows'. Some (Deactivate aod rows' columns' atoms')))))
      (list_told dropped_value DroppedFits told_dropped dropped_told atoms h.3)
      ∙ ap (λ o. o >>= (λ columns'. told_list told_id (array_of (map number_value rows)) >>= (λ rows'. Some (Deactivate aod rows' columns' atoms)))) (list_told number_value IsId told_id id_told columns h.2)
      ∙ ap (λ o. o >>= (λ rows'. Some (Deactivate aod rows' columns atoms))) (list_told number_value IsId told_id id_told rows h.1)

same_aod : (a aod : ℕ) → (a == aod) ≡ true → aod ≡ a
same_aod a aod e = sym ((Decides-eqb a aod).0 e)

step_told : (aod : ℕ) → IsComplete step_value (λ s. (is_step_of aod s ≡ true) × StepFits s) (told_step aod)
step_told aod (Activate a rows columns atoms) h =
    subst (λ b. told_step b (step_value (Activate a rows columns atoms)) ≡ Some (Activate a rows columns atoms)) (sym (same_aod a aod h.0)) (activate_told a rows columns atoms h.1)
step_told aod (Move a rows columns) h =
    subst (λ b. told_step b (step_value (Move a rows columns)) ≡ Some (Move a rows columns)) (sym (same_aod a aod h.0)) (move_told a rows columns h.1)
step_told aod (Deactivate a rows columns atoms) h =
    subst (λ b. told_step b (step_value (Deactivate a rows columns atoms)) ≡ Some (Deactivate a rows columns atoms)) (sym (same_aod a aod h.0)) (deactivate_told a rows columns atoms h.1)
step_told aod (One gate) h = absurd (true≢false (sym h.0))
step_told aod (Pulse pairs) h = absurd (true≢false (sym h.0))
step_told aod (step.Readout reads) h = absurd (true≢false (sym h.0))

-- steps that are all of the AOD, and in range
both : (aod : ℕ) (ss : List Step) → list_all (is_step_of aod) ss ≡ true → AllByRecursion StepFits ss → AllByRecursion (λ s. (is_step_of aod s ≡ true) × StepFits s) ss
both aod [] own h = tt
both aod (s ∷ ss) own h =
    let p = and_parts (is_step_of aod s) (list_all (is_step_of aod) ss) own in
    ((p.0, h.0), both aod ss p.1 h.1)

-- ---- instructions

-- the list and the kind of an instruction, behind its times
values_parts : List ℕ → List ℕ → ℕ × ℕ × Members → Option (ℕ × ℕ × Data)
values_parts key word times = field key times.2 >>= (λ values. if ends_with (codes "type") word values.1 then Some (times.0, times.1, values.0) else None)

timed_object : ℕ → ℕ → Members → Data
timed_object begin end rest = object (member (codes "begin") (number_value begin) (member (codes "end") (number_value end) rest))

times_told : (begin end : ℕ) (rest : Members) → begin ≤ end → end ≤ 4000000000000000000 → times_fields (member (codes "begin") (number_value begin) (member (codes "end") (number_value end) rest)) ≡ Some (begin, end, rest)
times_told begin end rest h k =
    let x = le-leb begin 4000000000000000000 (omega arith) in
    let y = le-leb end 4000000000000000000 k in
    let z = le-leb begin end h in
    rw (x, y, z) refl

timed_told : (key word : List ℕ) (begin end : ℕ) (rest : Members) → begin ≤ end → end ≤ 4000000000000000000 → timed_parts key word (timed_object begin end rest) ≡ values_parts key word (begin, end, rest)
unfolding values_parts timed_object
timed_told key word begin end rest h k = ap (λ o. o >>= values_parts key word) (times_told begin end rest h k)

-- the readings after the first ones
from_readout : Data → Option Instr
from_readout d = told_or (timed_parts (codes "reads") (codes "readout") d) told_readout None

from_job : Data → Option Instr
from_job d = told_or (job_parts d) told_job (from_readout d)

from_rydberg : Data → Option Instr
from_rydberg d = told_or (timed_parts (codes "pairs") (codes "rydberg") d) told_rydberg (from_job d)

from_gates : Data → Option Instr
from_gates d = told_or (timed_parts (codes "gates") (codes "1qGate") d) told_gates (from_rydberg d)

instr_from : Data → Option Instr
instr_from d = told_or (timed_parts (codes "homes") (codes "init") d) told_init (from_gates d)

-- what a job has behind its AOD
job_rest : ℕ → Option (ℕ × ℕ × Members) → Option (ℕ × ℕ × ℕ × Data)
job_rest aod o = o >>= (λ times. field (codes "steps") times.2 >>= (λ steps. if ends_with (codes "type") (codes "rearrangeJob") steps.1 then Some (aod, times.0, times.1, steps.0) else None))

job_told : (begin end aod : ℕ) (steps : List Step) → begin ≤ end → end ≤ 4000000000000000000 → IsId aod → AllByRecursion (λ s. (is_step_of aod s ≡ true) × StepFits s) steps
    → told_instr (act_value begin end (Job aod steps)) ≡ Some (timed begin end (Job aod steps))
unfolding from_readout job_rest
job_told begin end aod steps h k id fits =
    let d = act_value begin end (Job aod steps) in
    let rest = member (codes "steps") (array_of (map step_value steps)) (member (codes "type") (string (codes "rearrangeJob")) no_members) in
    let times = member (codes "begin") (number_value begin) (member (codes "end") (number_value end) rest) in
    let behind : ℕ → Option (ℕ × Members) = λ n. Some (n, times) in
    ap (λ (o : Option ℕ). told_or ((o >>= behind) >>= (λ a. job_rest a.0 (times_fields a.1))) told_job (from_readout d)) (id_told aod id)
    ∙ ap (λ o. told_or (job_rest aod o) told_job (from_readout d)) (times_told begin end rest h k)
    ∙ ap (λ o. o >>= (λ xs. Some (timed begin end (Job aod xs)))) (list_told step_value (λ s. (is_step_of aod s ≡ true) × StepFits s) (told_step aod) (step_told aod) steps fits)

act_told : (begin end : ℕ) (a : Act) → begin ≤ end → end ≤ 4000000000000000000 → has_own_steps a ≡ true → ActFits a → told_instr (act_value begin end a) ≡ Some (timed begin end a)
unfolding values_parts timed_object from_readout from_job from_rydberg from_gates instr_from
act_told begin end (Init homes) h k own fits =
    let d = act_value begin end (Init homes) in
    let rest = member (codes "homes") (array_of (map trap_value homes)) (member (codes "type") (string (codes "init")) no_members) in
    ap (λ o. told_or o told_init (from_gates d)) (timed_told (codes "homes") (codes "init") begin end rest h k)
    ∙ ap (λ o. o >>= (λ xs. Some (timed begin end (Init xs)))) (list_told trap_value (λ t. IsNumber t.0) told_trap trap_told homes fits)
act_told begin end (Gates ones) h k own fits =
    let d = act_value begin end (Gates ones) in
    let rest = member (codes "gates") (array_of (map gate_value ones)) (member (codes "type") (string (codes "1qGate")) no_members) in
    ap (λ o. told_or o told_init (from_gates d)) (timed_told (codes "homes") (codes "init") begin end rest h k)
    ∙ ap (λ o. told_or o told_gates (from_rydberg d)) (timed_told (codes "gates") (codes "1qGate") begin end rest h k)
    ∙ ap (λ o. o >>= (λ xs. Some (timed begin end (Gates xs)))) (list_told gate_value GateFits told_gate gate_told ones fits)
act_told begin end (Rydberg pairs) h k own fits =
    let d = act_value begin end (Rydberg pairs) in
    let rest = member (codes "pairs") (array_of (map pair_value pairs)) (member (codes "type") (string (codes "rydberg")) no_members) in
    ap (λ o. told_or o told_init (from_gates d)) (timed_told (codes "homes") (codes "init") begin end rest h k)
    ∙ ap (λ o. told_or o told_gates (from_rydberg d)) (timed_told (codes "gates") (codes "1qGate") begin end rest h k)
    ∙ ap (λ o. told_or o told_rydberg (from_job d)) (timed_told (codes "pairs") (codes "rydberg") begin end rest h k)
    ∙ ap (λ o. o >>= (λ xs. Some (timed begin end (Rydberg xs)))) (list_told pair_value PairFits told_pair pair_told pairs fits)
act_told begin end (Job aod steps) h k own fits =
    job_told begin end aod steps h k fits.0 (both aod steps own fits.1)
act_told begin end (Readout reads) h k own fits =
    let d = act_value begin end (Readout reads) in
    let rest = member (codes "reads") (array_of (map read_value reads)) (member (codes "type") (string (codes "readout")) no_members) in
    ap (λ o. told_or o told_init (from_gates d)) (timed_told (codes "homes") (codes "init") begin end rest h k)
    ∙ ap (λ o. told_or o told_gates (from_rydberg d)) (timed_told (codes "gates") (codes "1qGate") begin end rest h k)
    ∙ ap (λ o. told_or o told_rydberg (from_job d)) (timed_told (codes "pairs") (codes "rydberg") begin end rest h k)
    ∙ ap (λ o. told_or o told_readout None) (timed_told (codes "reads") (codes "readout") begin end rest h k)
    ∙ ap (λ o. o >>= (λ xs. Some (timed begin end (Readout xs)))) (list_told read_value ReadFits told_read read_told reads fits)

-- the value of an instruction with its own steps and numbers in range tells it
pub instr_told : (i : Instr) → has_own_steps i.act ≡ true → InstrFits i → told_instr (instr_value i) ≡ Some i
instr_told i own fits = act_told i.begin i.end i.act fits.rises fits.ends own fits.act

-- ---- the first and the last line

pub header_told : header_parts header_value ≡ Some 1
header_told = refl

-- the value of totals in range tells them
pub totals_told : (t : Totals) → TotalsFit t → told_totals (end_value t) ≡ Some t
totals_told t h =
    let gates = le-leb t.gates 4294967295 (omega (arith, h.gates)) in
    let jobs = le-leb t.jobs 4294967295 (omega (arith, h.jobs)) in
    let kept = le-leb t.kept 4294967295 (omega (arith, h.kept)) in
    let moved = le-leb t.moved 4294967295 (omega (arith, h.moved)) in
    let pairs = le-leb t.pairs 4294967295 (omega (arith, h.pairs)) in
    let pulses = le-leb t.pulses 4294967295 (omega (arith, h.pulses)) in
    let qubits = le-leb t.qubits 4294967295 (omega (arith, h.qubits)) in
    let reads = le-leb t.reads 4294967295 (omega (arith, h.reads)) in
    let time = le-leb t.time 4000000000000000000 h.time in
    rw (gates, jobs, kept, moved, pairs, pulses, qubits, reads, time) refl
