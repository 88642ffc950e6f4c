-- The log of a plan: the entries of the ops of its slots and pulses in turn, and then of the reads.
use Rattle.std.proofs.Common.{◌≡◌, ℕ, Bool, true, false, cond, List, [], ◌∷◌, ◌++◌, Option, Some, None, IsTrue, length, refl, sym, ap, ◌∙◌, map, append-nil, append_assoc, slice_get}
use Rattle.std.specs.List.{AllByRecursion, cons_option, filter, filter_map, flat_map, range_with_len}
use Rattle.std.specs.Option.{option_and_then, option_map}
use Rattle.std.proofs.lemmas.Grind.{flat_map-append}
use Rattle.std.proofs.lemmas.List.Elements.{filter_map-append}
use Rattle.zac_aod.specs.Lowering.{job_steps}
use Rattle.zac_arch.specs.Architecture.{Architecture}
use Rattle.zac_arch.specs.declared.place.TrapId.{TrapId}
use Rattle.zac_gates.specs.Log.{Entry}
use Rattle.zac_gates.specs.declared.circuit.Op.{Op}
use Rattle.zac_gates.specs.declared.circuit.Op.TheVariants as op
use Rattle.zac_stage.specs.Numbers.{is_one, is_pair}
use Rattle.zair_form.specs.declared.step.OneGate.{OneGate}
use Rattle.zair_form.specs.declared.step.PairOf.{PairOf}
use Rattle.zair_form.specs.declared.step.ReadOf.{ReadOf}
use Rattle.zair_form.specs.declared.step.Step.{Step}
use Rattle.zair_form.specs.declared.step.Step.TheVariants.{One}
use Rattle.zair_form.specs.Steps.{steps_of}
use Rattle.zac_sched.specs.Todos.{act_on}
use Rattle.zac_sched.specs.declared.todo.Todo.{Todo}
use Rattle.zac_sched.specs.declared.todo.Todo.TheVariants.{Gates, Job, Readout, Rydberg}
use Rattle.zair_state.specs.Run.{entries, log_of}
use Rattle.zac_group.specs.Groups.{MoveGroup}
use Rattle.zac_group.specs.declared.shift.Shift.{Shift}
use Rattle.zac_plan.specs.Plan.{AreJobs, AreRounds, IsRound, Rearrangement, after_arrivals, job_of, gate_of, pair_of, read_of, gates_at, pairs_at, reads_in, gates_todo, reads_todo}
use Rattle.zac_plan.proofs.Jobs.{job_log}

-- the steps of what is to be done, where AOD 0 makes all jobs
abbrev pub steps_on_first : Todo → List Step
steps_on_first todo = steps_of (act_on 0 todo)

-- the log of what is to be done, one thing after another
abbrev pub todo_log : List Todo → List Entry
todo_log todo = log_of (flat_map steps_on_first todo)

-- other AODs have the same log
pub same_log : (aod : ℕ) (todo : Todo) → log_of (steps_of (act_on aod todo)) ≡ log_of (steps_of (act_on 0 todo))
same_log aod (Gates ones) = refl
same_log aod (Rydberg pairs) = refl
same_log aod (Job job) = job_log job.card job.shifts aod ∙ sym (job_log job.card job.shifts 0)
same_log aod (Readout reads) = refl

pub log_of-append : (xs ys : List Step) → log_of (xs ++ ys) ≡ log_of xs ++ log_of ys
log_of-append xs ys = flat_map-append (λ s. entries s) xs ys

pub todo_log-append : (xs ys : List Todo) → todo_log (xs ++ ys) ≡ todo_log xs ++ todo_log ys
todo_log-append xs ys =
    ap log_of (flat_map-append steps_on_first xs ys)
    ∙ log_of-append (flat_map steps_on_first xs) (flat_map steps_on_first ys)

-- the entry of an op of this number
abbrev pub entry : ℕ → Op → Entry
entry n what = record { op = n; what = what }

-- the entries of the ops of these numbers
abbrev pub entries_at : List Op → List ℕ → List Entry
entries_at ops numbers = filter_map (λ n. option_map (entry n) (slice_get ops n)) numbers

-- the numbers of slots and pulses in turn
abbrev pub in_turn : List (List ℕ) → List (List ℕ) → List ℕ
in_turn [] pulses = []
in_turn (slot ∷ slots) [] = slot ++ in_turn slots []
in_turn (slot ∷ slots) (pulse ∷ pulses) = slot ++ (pulse ++ in_turn slots pulses)

-- each number is that of a one-qubit gate, or of a pair
abbrev pub AreOnes : List Op → List ℕ → Type 0
AreOnes ops numbers = AllByRecursion (λ n. IsTrue (is_one (slice_get ops n))) numbers

abbrev pub ArePairs : List Op → List ℕ → Type 0
ArePairs ops numbers = AllByRecursion (λ n. IsTrue (is_pair (slice_get ops n))) numbers

abbrev ones_log : List OneGate → List Entry
ones_log ones = log_of (map (λ gate. One gate) ones)

abbrev pairs_log : List PairOf → List Entry
pairs_log pairs = map (λ p. record { op = p.op; what = op.Two p.a p.b }) pairs

abbrev reads_log : List ReadOf → List Entry
reads_log reads = map (λ r. record { op = r.op; what = op.Read r.q r.bit }) reads

gates_todo_log : (ones : List OneGate) → todo_log (gates_todo ones) ≡ ones_log ones
gates_todo_log [] = refl
gates_todo_log (g ∷ gs) = ap log_of (append-nil (map (λ gate. One gate) (g ∷ gs)))

reads_todo_log : (reads : List ReadOf) → todo_log (reads_todo reads) ≡ reads_log reads
reads_todo_log [] = refl
reads_todo_log (r ∷ rs) = append-nil (reads_log (r ∷ rs))

groups_log : (a : Architecture) (groups : List MoveGroup) → todo_log (map (job_of a) groups) ≡ []
groups_log a [] = refl
groups_log a (g ∷ gs) =
    todo_log-append (job_of a g ∷ []) (map (job_of a) gs)
    ∙ ap (λ (l : List Entry). l ++ todo_log (map (job_of a) gs)) (ap log_of (append-nil (job_steps a g.shifts 0)) ∙ job_log a g.shifts 0)
    ∙ groups_log a gs

-- jobs perform no op
jobs_log : (a : Architecture) (shifts : List Shift) (todo : List Todo) → AreJobs a shifts todo → todo_log todo ≡ []
jobs_log a shifts todo h = ap todo_log h.jobs ∙ groups_log a h.groups

no_true : false ≡ true → ⊥
no_true e = cc

-- the log of a slot
slot_entry : (n : ℕ) (o : Option Op) (gs : List OneGate) (es : List Entry) → IsTrue (is_one o) → ones_log gs ≡ es →
    ones_log (cons_option (option_and_then (gate_of n) o) gs) ≡ cons_option (option_map (entry n) o) es
slot_entry n None gs es h e = absurd (no_true h)
slot_entry n (Some (op.One q angles)) gs es h e = ap (λ (l : List Entry). entry n (op.One q angles) ∷ l) e
slot_entry n (Some (op.Two q r)) gs es h e = absurd (no_true h)
slot_entry n (Some op.Fence) gs es h e = absurd (no_true h)
slot_entry n (Some (op.Read q bit)) gs es h e = absurd (no_true h)

slot_log : (ops : List Op) (numbers : List ℕ) → AreOnes ops numbers → ones_log (gates_at ops numbers) ≡ entries_at ops numbers
slot_log ops [] h = refl
slot_log ops (n ∷ ns) h = slot_entry n (slice_get ops n) (gates_at ops ns) (entries_at ops ns) h.0 (slot_log ops ns h.1)

-- the log of a pulse
pulse_entry : (n : ℕ) (o : Option Op) (ps : List PairOf) (es : List Entry) → IsTrue (is_pair o) → pairs_log ps ≡ es →
    pairs_log (cons_option (option_and_then (pair_of n) o) ps) ≡ cons_option (option_map (entry n) o) es
pulse_entry n None ps es h e = absurd (no_true h)
pulse_entry n (Some (op.One q angles)) ps es h e = absurd (no_true h)
pulse_entry n (Some (op.Two q r)) ps es h e = ap (λ (l : List Entry). entry n (op.Two q r) ∷ l) e
pulse_entry n (Some op.Fence) ps es h e = absurd (no_true h)
pulse_entry n (Some (op.Read q bit)) ps es h e = absurd (no_true h)

pulse_log : (ops : List Op) (numbers : List ℕ) → ArePairs ops numbers → pairs_log (pairs_at ops numbers) ≡ entries_at ops numbers
pulse_log ops [] h = refl
pulse_log ops (n ∷ ns) h = pulse_entry n (slice_get ops n) (pairs_at ops ns) (entries_at ops ns) h.0 (pulse_log ops ns h.1)

-- the op, if there is one, is a read
abbrev pub is_read_op : Option Op → Bool
is_read_op None = false
is_read_op (Some (op.One q angles)) = false
is_read_op (Some (op.Two q r)) = false
is_read_op (Some op.Fence) = false
is_read_op (Some (op.Read q bit)) = true

-- the numbers of the reads among these
abbrev pub reads_among : List Op → List ℕ → List ℕ
reads_among ops numbers = filter (λ n. is_read_op (slice_get ops n)) numbers

abbrev reads_at : List Op → List ℕ → List ReadOf
reads_at ops numbers = filter_map (λ n. option_and_then (read_of n) (slice_get ops n)) numbers

read_entry : (ops : List Op) (n : ℕ) (o : Option Op) (rs : List ReadOf) (ns : List ℕ) → slice_get ops n ≡ o → reads_log rs ≡ entries_at ops ns →
    reads_log (cons_option (option_and_then (read_of n) o) rs) ≡ entries_at ops (cond (is_read_op o) (n ∷ ns) ns)
read_entry ops n None rs ns at e = e
read_entry ops n (Some (op.One q angles)) rs ns at e = e
read_entry ops n (Some (op.Two q r)) rs ns at e = e
read_entry ops n (Some op.Fence) rs ns at e = e
read_entry ops n (Some (op.Read q bit)) rs ns at e =
    ap (λ (l : List Entry). entry n (op.Read q bit) ∷ l) e
    ∙ ap (λ (o : Option Op). cons_option (option_map (entry n) o) (entries_at ops ns)) (sym at)

readout_log : (ops : List Op) (numbers : List ℕ) → reads_log (reads_at ops numbers) ≡ entries_at ops (reads_among ops numbers)
readout_log ops [] = refl
readout_log ops (n ∷ ns) = read_entry ops n (slice_get ops n) (reads_at ops ns) (reads_among ops ns) refl (readout_log ops ns)

entries_at-append : (ops : List Op) (ms ns : List ℕ) → entries_at ops (ms ++ ns) ≡ entries_at ops ms ++ entries_at ops ns
entries_at-append ops ms ns = filter_map-append (λ n. option_map (entry n) (slice_get ops n)) ms ns

-- the log of a round
round_log : (a : Architecture) (ops : List Op) (rests : List TrapId) (before slot pulse : List ℕ) (r : Rearrangement) (todo : List Todo) →
    IsRound a ops rests before slot pulse r todo → AreOnes ops slot → ArePairs ops pulse → todo_log todo ≡ entries_at ops (slot ++ pulse)
round_log a ops rests before slot pulse r todo h ones pairs =
    let these : List PairOf = pairs_at ops pulse in
    let from_arrivals : todo_log (h.arrival_jobs ++ Rydberg these ∷ []) ≡ entries_at ops pulse =
    todo_log-append h.arrival_jobs (Rydberg these ∷ [])
    ∙ ap (λ (l : List Entry). l ++ todo_log (Rydberg these ∷ [])) (jobs_log a _ h.arrival_jobs h.arrived)
    ∙ append-nil (pairs_log these)
    ∙ pulse_log ops pulse pairs in
    let from_returns : todo_log (h.return_jobs ++ (h.arrival_jobs ++ Rydberg these ∷ [])) ≡ entries_at ops pulse =
    todo_log-append h.return_jobs (h.arrival_jobs ++ Rydberg these ∷ [])
    ∙ ap (λ (l : List Entry). l ++ todo_log (h.arrival_jobs ++ Rydberg these ∷ [])) (jobs_log a _ h.return_jobs h.returned)
    ∙ from_arrivals in
    ap todo_log h.todo_is
    ∙ todo_log-append (gates_todo (gates_at ops slot)) (h.return_jobs ++ (h.arrival_jobs ++ Rydberg these ∷ []))
    ∙ ap (λ (l : List Entry). l ++ todo_log (h.return_jobs ++ (h.arrival_jobs ++ Rydberg these ∷ []))) (gates_todo_log (gates_at ops slot) ∙ slot_log ops slot ones)
    ∙ ap (λ (l : List Entry). entries_at ops slot ++ l) from_returns
    ∙ sym (entries_at-append ops slot pulse)

-- the log of the rounds of a plan
pub rounds_log : (a : Architecture) (ops : List Op) (rests : List TrapId) (before : List ℕ) (slots pulses : List (List ℕ)) (todo : List Todo) →
    AreRounds a ops rests before slots pulses todo →
    AllByRecursion (AreOnes ops) slots → AllByRecursion (ArePairs ops) pulses → todo_log todo ≡ entries_at ops (in_turn slots pulses)
rounds_log a ops rests before [] pulses todo h ones pairs = ap todo_log h
rounds_log a ops rests before (slot ∷ slots) [] todo h ones pairs =
    ap todo_log h.1
    ∙ todo_log-append (gates_todo (gates_at ops slot)) h.0
    ∙ ap (λ (l : List Entry). l ++ todo_log h.0) (gates_todo_log (gates_at ops slot) ∙ slot_log ops slot ones.0)
    ∙ ap (λ (l : List Entry). entries_at ops slot ++ l) (rounds_log a ops rests before slots [] h.0 h.2 ones.1 tt)
    ∙ sym (entries_at-append ops slot (in_turn slots []))
rounds_log a ops rests before (slot ∷ slots) (pulse ∷ pulses) todo h ones pairs =
    ap todo_log h.3
    ∙ todo_log-append h.1 h.2
    ∙ ap (λ (l : List Entry). l ++ todo_log h.2) (round_log a ops rests before slot pulse h.0 h.1 h.4 ones.0 pairs.0)
    ∙ ap (λ (l : List Entry). entries_at ops (slot ++ pulse) ++ l)
    (rounds_log a ops (after_arrivals a ops rests before pulse h.0) pulse slots pulses h.2 h.5 ones.1 pairs.1)
    ∙ sym (entries_at-append ops (slot ++ pulse) (in_turn slots pulses))
    ∙ ap (entries_at ops) (append_assoc slot pulse (in_turn slots pulses))

-- the numbers of a plan's ops in the order in which they are performed
abbrev pub performed : List Op → List (List ℕ) → List (List ℕ) → List ℕ
performed ops slots pulses = in_turn slots pulses ++ reads_among ops (range_with_len 0 (length ops))

-- the log of the whole plan
pub plan_log : (a : Architecture) (ops : List Op) (homes : List TrapId) (slots pulses : List (List ℕ)) (rounds : List Todo) → AreRounds a ops homes [] slots pulses rounds →
    AllByRecursion (AreOnes ops) slots → AllByRecursion (ArePairs ops) pulses → todo_log (rounds ++ reads_todo (reads_in ops)) ≡ entries_at ops (performed ops slots pulses)
plan_log a ops homes slots pulses rounds are ones pairs =
    todo_log-append rounds (reads_todo (reads_in ops))
    ∙ ap (λ (l : List Entry). l ++ todo_log (reads_todo (reads_in ops))) (rounds_log a ops homes [] slots pulses rounds are ones pairs)
    ∙ ap (λ (l : List Entry). entries_at ops (in_turn slots pulses) ++ l) (reads_todo_log (reads_in ops) ∙ readout_log ops (range_with_len 0 (length ops)))
    ∙ sym (entries_at-append ops (in_turn slots pulses) (reads_among ops (range_with_len 0 (length ops))))
