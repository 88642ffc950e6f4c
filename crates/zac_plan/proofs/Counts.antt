-- How much a plan has to do: for each pair at most four jobs, each move at most four steps.
use Rattle.std.proofs.Common.{◌≡◌, ◌==◌, ℕ, suc, ◌+◌, ◌*◌, ◌≤◌, Bool, true, false, cond, not, List, [], ◌∷◌, ◌++◌, Option, Some, None, length, map, refl, ap, arith, slice_get}
use Rattle.std.specs.List.{AllByRecursion, cons_option, filter, list_any}
use Rattle.std.specs.Option.{option_and_then}
use Rattle.std.proofs.lemmas.List.{length-append, length-map}
use Rattle.std.proofs.lemmas.List.Elements.{recursion_from_All}
use Rattle.zac_aod.specs.Lines.{rows_of}
use Rattle.zac_aod.proofs.Durations.{steps_length}
use Rattle.zac_aod.proofs.LineFacts.{length_by_source, row_of}
use Rattle.zac_arch.specs.Architecture.{Architecture}
use Rattle.zac_arch.specs.declared.place.TrapId.{TrapId}
use Rattle.zac_gates.specs.declared.circuit.Op.{Op}
use Rattle.zac_gates.specs.declared.circuit.Op.TheVariants as op
use Rattle.zac_group.specs.Groups.{IsGroup, MoveGroup, count_distinct}
use Rattle.zac_group.specs.declared.shift.Shift.{Shift}
use Rattle.zac_sched.specs.Todos.{steps_in_all}
use Rattle.zac_sched.specs.declared.todo.Todo.{Todo}
use Rattle.zac_sched.specs.declared.todo.Todo.TheVariants.{Rydberg}
use Rattle.zair_form.specs.declared.step.OneGate.{OneGate}
use Rattle.zair_form.specs.declared.step.PairOf.{PairOf}
use Rattle.zair_form.specs.declared.step.ReadOf.{ReadOf}
use Rattle.zair_form.specs.declared.step.Step.TheVariants.{One}
use Rattle.zac_plan.specs.Growth.{moves_in}
use Rattle.zac_plan.specs.Plan.{AreJobs, Rearrangement, after_returns, arrivals, gate_of, gates_at, gates_todo, job_of, leaving, pair_of, pairs_at, qubits_of, reads_todo, returns, shifts_to, stays}
use Rattle.zac_plan.proofs.Arrivals.{arrivals_few}
use Rattle.zac_plan.proofs.Grouping.{moves_grouped}

pub steps-append : (xs ys : List Todo) → steps_in_all (xs ++ ys) ≡ steps_in_all xs + steps_in_all ys
steps-append [] ys = omega arith
steps-append (x ∷ xs) ys = omega (arith, steps-append xs ys)

-- gates are one thing at most, with a step for each of them
pub gates_few : (ones : List OneGate) → (length (gates_todo ones) ≤ 1) × (steps_in_all (gates_todo ones) ≤ length ones)
gates_few [] = (omega arith, omega arith)
gates_few (g ∷ gs) = (omega arith, let e = length-map (g ∷ gs) (λ (gate : OneGate). One gate) in omega arith)

pub reads_few : (reads : List ReadOf) → (length (reads_todo reads) ≤ 1) × (steps_in_all (reads_todo reads) ≤ 1)
reads_few [] = (omega arith, omega arith)
reads_few (r ∷ rs) = (omega arith, omega arith)

gate_or_none : (n : ℕ) (o : Option Op) (gs : List OneGate) → length (cons_option (option_and_then (gate_of n) o) gs) ≤ suc (length gs)
gate_or_none n None gs = omega arith
gate_or_none n (Some (op.One q angles)) gs = omega arith
gate_or_none n (Some (op.Two q r)) gs = omega arith
gate_or_none n (Some op.Fence) gs = omega arith
gate_or_none n (Some (op.Read q bit)) gs = omega arith

pair_or_none : (n : ℕ) (o : Option Op) (ps : List PairOf) → length (cons_option (option_and_then (pair_of n) o) ps) ≤ suc (length ps)
pair_or_none n None ps = omega arith
pair_or_none n (Some (op.One q angles)) ps = omega arith
pair_or_none n (Some (op.Two q r)) ps = omega arith
pair_or_none n (Some op.Fence) ps = omega arith
pair_or_none n (Some (op.Read q bit)) ps = omega arith

-- numbers have at most a gate each, and a pair each
pub gates_at_few : (ops : List Op) (numbers : List ℕ) → length (gates_at ops numbers) ≤ length numbers
gates_at_few ops [] = omega arith
gates_at_few ops (n ∷ ns) = omega (arith, gate_or_none n (slice_get ops n) (gates_at ops ns), gates_at_few ops ns)

pub pairs_at_few : (ops : List Op) (numbers : List ℕ) → length (pairs_at ops numbers) ≤ length numbers
pairs_at_few ops [] = omega arith
pairs_at_few ops (n ∷ ns) = omega (arith, pair_or_none n (slice_get ops n) (pairs_at ops ns), pairs_at_few ops ns)

-- a group has at most as many rows as moves
more_or_same : (t : Bool) (n m : ℕ) → n ≤ m → cond t n (n + 1) ≤ suc m
more_or_same true n m le = omega arith
more_or_same false n m le = omega arith

distinct_most : {X : Type 0} (f : X → ℕ) (xs : List X) → count_distinct (map f xs) ≤ length xs
distinct_most f [] = omega arith
distinct_most f (x ∷ xs) = more_or_same (list_any (λ m. m == f x) (map f xs)) (count_distinct (map f xs)) (length xs) (distinct_most f xs)

no_more : (m n k : ℕ) → m ≡ n → n ≤ k → m ≤ k
no_more m n k e le = omega arith

rows_most : (a : Architecture) (shifts : List Shift) → length (rows_of a shifts) ≤ length shifts
rows_most a shifts =
    let rows = map (row_of a) shifts in
    let most : length (rows_of a shifts) ≤ length rows = no_more (length (rows_of a shifts)) _ (length rows) (length_by_source rows) (distinct_most _ rows) in
    omega (arith, length-map shifts (row_of a))

-- groups are no more than their moves, and their jobs have at most four steps for each
groups_few : (a : Architecture) (groups : List MoveGroup) → AllByRecursion IsGroup groups →
    (length (map (job_of a) groups) ≤ moves_in groups) × (steps_in_all (map (job_of a) groups) ≤ 4 * moves_in groups)
groups_few a [] kept = (omega arith, omega arith)
groups_few a (g ∷ gs) kept =
    let rest = groups_few a gs kept.1 in
    let some = kept.0.some in
    (omega arith, omega (arith, steps_length a g.shifts 0, rows_most a g.shifts))

pub jobs_few : (a : Architecture) (shifts : List Shift) (jobs : List Todo) → AreJobs a shifts jobs → (length jobs ≤ length shifts) × (steps_in_all jobs ≤ 4 * length shifts)
jobs_few a shifts jobs are =
    let moves = moves_grouped a shifts are.groups are.grouping in
    let few = groups_few a are.groups (recursion_from_All IsGroup are.groups are.grouping.kept) in
    (omega (arith, ap (λ (l : List Todo). length l) are.jobs), omega (arith, ap (λ (l : List Todo). steps_in_all l) are.jobs))

-- the moves home are at most two for a pair of the pulse before
shifts_few : (rests : List TrapId) (qs ts : List ℕ) → length (shifts_to rests qs ts) ≤ length qs
shifts_few rests [] ts = omega arith
shifts_few rests (q ∷ qs) [] = omega arith
shifts_few rests (q ∷ qs) (t ∷ ts) = omega (arith, shifts_few rests qs ts)

one_or_not : (t : Bool) (q : ℕ) (qs : List ℕ) → length (cond t (q ∷ qs) qs) ≤ suc (length qs)
one_or_not true q qs = omega arith
one_or_not false q qs = omega arith

filter_few : (test : ℕ → Bool) (qs : List ℕ) → length (filter test qs) ≤ length qs
filter_few test [] = omega arith
filter_few test (q ∷ qs) = omega (arith, one_or_not (test q) q (filter test qs), filter_few test qs)

two_each : (pairs : List PairOf) → length (qubits_of pairs) ≡ 2 * length pairs
two_each [] = refl
two_each (p ∷ ps) = omega (arith, two_each ps)

pub returns_few : (ops : List Op) (rests : List TrapId) (before : List ℕ) (r : Rearrangement) → length (returns ops rests before r) ≤ 2 * length before
returns_few ops rests before r =
    omega (
      arith,
      shifts_few rests (leaving ops (pairs_at ops before) r.kept) r.targets,
      filter_few (λ q. not (stays ops r.kept q)) (qubits_of (pairs_at ops before)),
      two_each (pairs_at ops before),
      pairs_at_few ops before,
    )

-- A round has at most two jobs for each pair of its pulse and of the pulse before, and for each of these jobs' moves at most
-- four steps.
module _ (a : Architecture) (ops : List Op) (rests : List TrapId) (before slot pulse : List ℕ) (r : Rearrangement) (return_jobs arrival_jobs : List Todo)
    (returned : AreJobs a (returns ops rests before r) return_jobs)
    (arrived : AreJobs a (arrivals a (after_returns ops rests before r) (pairs_at ops pulse) r.sites) arrival_jobs) where
  pub round_few : (length (gates_todo (gates_at ops slot) ++ (return_jobs ++ (arrival_jobs ++ Rydberg (pairs_at ops pulse) ∷ []))) ≤ 2 + 2 * length before + 2 * length pulse)
      × (steps_in_all (gates_todo (gates_at ops slot) ++ (return_jobs ++ (arrival_jobs ++ Rydberg (pairs_at ops pulse) ∷ []))) ≤ length slot + 8 * length before + 8 * length pulse + 1)
  round_few =
      let gates : List Todo = gates_todo (gates_at ops slot) in
      let last : List Todo = Rydberg (pairs_at ops pulse) ∷ [] in
      let of_gates = gates_few (gates_at ops slot) in
      let home = jobs_few a (returns ops rests before r) return_jobs returned in
      let there = jobs_few a (arrivals a (after_returns ops rests before r) (pairs_at ops pulse) r.sites) arrival_jobs arrived in
      let moves = arrivals_few a (after_returns ops rests before r) (pairs_at ops pulse) r.sites in
      let numbers = pairs_at_few ops pulse in
      let leave = returns_few ops rests before r in (
        omega (arith, length-append gates (return_jobs ++ (arrival_jobs ++ last)), length-append return_jobs (arrival_jobs ++ last), length-append arrival_jobs last),
        omega (
          arith,
          steps-append gates (return_jobs ++ (arrival_jobs ++ last)),
          steps-append return_jobs (arrival_jobs ++ last),
          steps-append arrival_jobs last,
          gates_at_few ops slot,
        ),
      )
