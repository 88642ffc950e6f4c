-- The plan of a circuit: what is to be done, and in which order.
use Rattle.std.specs.Prelude.{◌≡◌, ℕ, ◌-◌, ◌/◌, Bool, not, ◌&&◌, ◌||◌, ◌==◌, nat_lt, Option, Some, None, List, [], ◌∷◌, ◌++◌, length, map, filter, set, if◌then◌else◌}
use Rattle.std.specs.List.{filter_map, flat_map, list_any, range_with_len, slice_get, slice_index_or}
use Rattle.std.specs.Option.{option_and_then}
use Rattle.zac_arch.specs.Architecture.{Architecture, site_count, storage_count, left_trap, right_trap}
use Rattle.zac_arch.specs.declared.place.TrapId.{TrapId}
use Rattle.zac_gates.specs.Ops.{NativeCircuit}
use Rattle.zac_gates.specs.declared.circuit.Op.{Op}
use Rattle.zac_gates.specs.declared.circuit.Op.TheVariants as op
use Rattle.zac_group.specs.FirstFit.{IsGrouping}
use Rattle.zac_group.specs.Groups.{MoveGroup}
use Rattle.zac_group.specs.declared.shift.Shift.{Shift}
use Rattle.zac_place.specs.Homes.{AreHomesByUse}
use Rattle.zac_place.specs.Placing.{IsLeastPlacing}
use Rattle.zac_place.specs.Returns.{return_cost}
use Rattle.zac_place.specs.Sites.{left_qubit, right_qubit, site_cost}
use Rattle.zac_reuse.specs.Keeping.{IsKeeping, IsKeepableNumber}
use Rattle.zac_sched.specs.Schedule.{IsSchedule}
use Rattle.zac_sched.specs.declared.todo.Todo.{Todo}
use Rattle.zac_sched.specs.declared.todo.Todo.TheVariants.{Gates, Rydberg, Job, Readout}
use Rattle.zac_stage.specs.Staging.{Staging, IsStaging}
use Rattle.zac_world.specs.Places.{Places, empty_storage, is_empty}
use Rattle.zair_form.specs.declared.step.OneGate.{OneGate}
use Rattle.zair_form.specs.declared.step.PairOf.{PairOf}
use Rattle.zair_form.specs.declared.step.ReadOf.{ReadOf}
use Rattle.zair_form.specs.declared.program.Instr.{Instr}

-- If the op of this number is a one-qubit gate, that gate.
abbrev pub gate_of : ℕ → Op → Option OneGate
gate_of n (op.One q angles) = Some (record { op = n; q = q; angles = angles })
gate_of n (op.Two q r) = None
gate_of n op.Fence = None
gate_of n (op.Read q bit) = None

-- If it is a pair, that pair.
abbrev pub pair_of : ℕ → Op → Option PairOf
pair_of n (op.One q angles) = None
pair_of n (op.Two q r) = Some (record { op = n; a = q; b = r })
pair_of n op.Fence = None
pair_of n (op.Read q bit) = None

-- If it is a read, that read.
abbrev pub read_of : ℕ → Op → Option ReadOf
read_of n (op.One q angles) = None
read_of n (op.Two q r) = None
read_of n op.Fence = None
read_of n (op.Read q bit) = Some (record { op = n; q = q; bit = bit })

-- The one-qubit gates with these numbers, in the order of the numbers.
abbrev pub gates_at : List Op → List ℕ → List OneGate
gates_at ops numbers = filter_map (λ n. option_and_then (gate_of n) (slice_get ops n)) numbers

-- The pairs with these numbers.
abbrev pub pairs_at : List Op → List ℕ → List PairOf
pairs_at ops numbers = filter_map (λ n. option_and_then (pair_of n) (slice_get ops n)) numbers

-- All reads, in source order.
abbrev pub reads_in : List Op → List ReadOf
reads_in ops = filter_map (λ n. option_and_then (read_of n) (slice_get ops n)) (range_with_len 0 (length ops))

-- One instruction with these gates; none where there are no gates.
abbrev pub gates_todo : List OneGate → List Todo
gates_todo [] = []
gates_todo (one ∷ ones) = Gates (one ∷ ones) ∷ []

-- One instruction with these reads; none where there are no reads.
abbrev pub reads_todo : List ReadOf → List Todo
reads_todo [] = []
reads_todo (read ∷ reads) = Readout (read ∷ reads) ∷ []

-- The job that makes the moves of a group. Until its AOD is chosen it is one of AOD 0.
abbrev pub job_of : Architecture → MoveGroup → Todo
job_of a g = Job (record { card = a; shifts = g.shifts; aod = 0 })

-- These are the jobs of a phase of moves: one for each group of the moves, in the order of the groups. A phase without
-- a move has no group, so no job.
pub record AreJobs (a : Architecture) (shifts : List Shift) (todo : List Todo) : Type 0 where
  pub groups : List MoveGroup
  pub grouping : IsGrouping a shifts groups
  pub jobs : todo ≡ map (job_of a) groups

-- The trap in which a qubit rests, of the list of the traps in which the qubits rest.
abbrev pub trap_of : List TrapId → ℕ → TrapId
trap_of rests q = slice_index_or rests q (record { 0 = 0 })

-- Where the qubits rest, as a world shows it.
abbrev pub places : Architecture → List TrapId → Places
places a rests = record { architecture = a; traps = map (λ t. t.0) rests }

-- A qubit goes from where it rests to this trap.
abbrev pub shift_to : List TrapId → ℕ → TrapId → Shift
shift_to rests q to = record { q = q; from = trap_of rests q; to = to }

-- The first qubit goes to the first trap, the second qubit to the second one, and so on.
abbrev pub shifts_to : List TrapId → List ℕ → List ℕ → List Shift
shifts_to rests [] traps = []
shifts_to rests (q ∷ qs) [] = []
shifts_to rests (q ∷ qs) (t ∷ ts) = shift_to rests q (record { 0 = t }) ∷ shifts_to rests qs ts

-- Where the qubits rest after moves.
abbrev pub after_shifts : List TrapId → List Shift → List TrapId
after_shifts rests [] = rests
after_shifts rests (s ∷ ss) = after_shifts (set rests s.q s.to) ss

-- The qubits of pairs.
abbrev pub qubits_of : List PairOf → List ℕ
qubits_of [] = []
qubits_of (p ∷ ps) = p.a ∷ p.b ∷ qubits_of ps

-- The pair is on the qubit.
abbrev pub has_qubit : ℕ → PairOf → Bool
has_qubit q p = p.a == q || p.b == q

-- The op of this number is a pair on the qubit.
abbrev pub is_on : List Op → ℕ → ℕ → Bool
is_on ops q n = list_any (has_qubit q) (pairs_at ops (n ∷ []))

-- A qubit stays where it rests: the two gates of a kept pair share it.
abbrev pub stays : List Op → List (ℕ × ℕ) → ℕ → Bool
stays ops kept q = list_any (λ k. is_on ops q k.0 && is_on ops q k.1) kept

-- The qubits of the pulse before that don't stay.
abbrev pub leaving : List Op → List PairOf → List (ℕ × ℕ) → List ℕ
leaving ops before kept = filter (λ q. not (stays ops kept q)) (qubits_of before)

-- Leaving qubits go to these traps: different storage traps that are empty before, with the least sum of distances.
abbrev pub AreReturns : Architecture → List TrapId → List ℕ → List ℕ → Type 0
AreReturns a rests qubits traps =
    IsLeastPlacing (return_cost (places a rests) qubits) (empty_storage (places a rests)) (length qubits) traps

-- A qubit rests in an entangling trap.
abbrev pub is_at_site : Architecture → List TrapId → ℕ → Bool
is_at_site a rests q = not (nat_lt (trap_of rests q).0 (storage_count a))

-- A gate is held: a qubit of it has stayed at a site.
abbrev pub is_held : Architecture → List TrapId → PairOf → Bool
is_held a rests p = is_at_site a rests p.a || is_at_site a rests p.b

-- The held gates of a pulse, and its new ones.
abbrev pub held_gates : Architecture → List TrapId → List PairOf → List PairOf
held_gates a rests pairs = filter (is_held a rests) pairs

abbrev pub new_gates : Architecture → List TrapId → List PairOf → List PairOf
new_gates a rests pairs = filter (λ p. not (is_held a rests p)) pairs

-- The left trap of a site.
abbrev pub left : Architecture → ℕ → TrapId
left a site = record { 0 = left_trap a site }

-- The right trap of a site.
abbrev pub right : Architecture → ℕ → TrapId
right a site = record { 0 = right_trap a site }

-- The site of an entangling trap: two traps have each number, from the first entangling trap on.
abbrev pub site_at : Architecture → TrapId → ℕ
site_at a t = (t.0 - storage_count a) / 2

-- The other trap of that site.
abbrev pub other_trap : Architecture → TrapId → TrapId
other_trap a t = if t.0 == left_trap a (site_at a t) then right a (site_at a t) else left a (site_at a t)

-- A qubit goes to a trap, unless it rests there.
abbrev pub move_unless_there : List TrapId → ℕ → TrapId → List Shift
move_unless_there rests q t = if (trap_of rests q).0 == t.0 then [] else shift_to rests q t ∷ []

-- What completes a held gate: beside the qubit that has stayed, the other one goes to the other trap of the site.
abbrev pub completing : Architecture → List TrapId → PairOf → List Shift
completing a rests p =
    if is_at_site a rests p.a then move_unless_there rests p.b (other_trap a (trap_of rests p.a))
    else move_unless_there rests p.a (other_trap a (trap_of rests p.b))

-- The two qubits of each pair.
abbrev pub ends_of : List PairOf → List (ℕ × ℕ)
ends_of pairs = map (λ p. (p.a, p.b)) pairs

-- What brings new gates to sites, the first gate to the first site, and so on: the left qubit of each goes to the left
-- trap of the site, the right one to the right trap.
abbrev pub to_sites : Architecture → List TrapId → List PairOf → List ℕ → List Shift
to_sites a rests [] sites = []
to_sites a rests (p ∷ ps) [] = []
to_sites a rests (p ∷ ps) (site ∷ sites) =
    shift_to rests (left_qubit (places a rests) (p.a, p.b)) (left a site)
    ∷ shift_to rests (right_qubit (places a rests) (p.a, p.b)) (right a site)
    ∷ to_sites a rests ps sites

-- What brings the atoms of a pulse together, where the returns are done: held gates are completed, and the new ones go
-- to these sites.
abbrev pub arrivals : Architecture → List TrapId → List PairOf → List ℕ → List Shift
arrivals a rests pairs sites =
    flat_map (completing a rests) (held_gates a rests pairs) ++ to_sites a rests (new_gates a rests pairs) sites

-- No atom rests at the site.
abbrev pub is_free : Architecture → List TrapId → ℕ → Bool
is_free a rests site =
    is_empty (map (λ t. t.0) rests) (left_trap a site) && is_empty (map (λ t. t.0) rests) (right_trap a site)

-- The sites at which no atom rests, rising.
abbrev pub free_sites : Architecture → List TrapId → List ℕ
free_sites a rests = filter (is_free a rests) (range_with_len 0 (site_count a))

-- The new gates of a pulse go to these sites: different free ones, with the least sum of distances of both atoms.
abbrev pub AreGateSites : Architecture → List TrapId → List PairOf → List ℕ → Type 0
AreGateSites a rests pairs sites =
    IsLeastPlacing (site_cost (places a rests) (ends_of (new_gates a rests pairs))) (free_sites a rests)
    (length (new_gates a rests pairs)) sites

-- What is chosen between two pulses: which gates are kept, to which traps the leaving qubits go, and to which sites the
-- new gates.
pub record Rearrangement : Type 0 where
  pub kept : List (ℕ × ℕ)
  pub targets : List ℕ
  pub sites : List ℕ

-- The moves that bring home what leaves the sites. The pulse before is given by the numbers of its ops.
abbrev pub returns : List Op → List TrapId → List ℕ → Rearrangement → List Shift
returns ops rests before r = shifts_to rests (leaving ops (pairs_at ops before) r.kept) r.targets

-- Where the qubits rest after them.
abbrev pub after_returns : List Op → List TrapId → List ℕ → Rearrangement → List TrapId
after_returns ops rests before r = after_shifts rests (returns ops rests before r)

-- Where the qubits rest in a pulse.
abbrev pub after_arrivals : Architecture → List Op → List TrapId → List ℕ → List ℕ → Rearrangement → List TrapId
after_arrivals a ops rests before pulse r =
    after_shifts (after_returns ops rests before r) (arrivals a (after_returns ops rests before r) (pairs_at ops pulse) r.sites)

-- The choice is right, where the qubits rest so in the pulse before. As many gates are kept, and held at their sites, as
-- can be; the leaving qubits go to storage, and the new gates to free sites, with the least sum of distances.
pub record IsRearrangement (a : Architecture) (ops : List Op) (rests : List TrapId) (before pulse : List ℕ) (r : Rearrangement) : Type 0 where
  pub keeping : IsKeeping ops before pulse r.kept
  pub held : IsKeepableNumber ops before pulse (length (held_gates a (after_returns ops rests before r) (pairs_at ops pulse)))
  pub targets : AreReturns a rests (leaving ops (pairs_at ops before) r.kept) r.targets
  pub sites : AreGateSites a (after_returns ops rests before r) (pairs_at ops pulse) r.sites

-- What is done with a pulse: the gates of its slot, the jobs of the returns, the jobs of the arrivals, and the pulse.
pub record IsRound (a : Architecture) (ops : List Op) (rests : List TrapId) (before slot pulse : List ℕ) (r : Rearrangement) (todo : List Todo) : Type 0 where
  pub chosen : IsRearrangement a ops rests before pulse r
  pub return_jobs : List Todo
  pub arrival_jobs : List Todo
  pub returned : AreJobs a (returns ops rests before r) return_jobs
  pub arrived : AreJobs a (arrivals a (after_returns ops rests before r) (pairs_at ops pulse) r.sites) arrival_jobs
  pub todo_is : todo ≡ gates_todo (gates_at ops slot) ++ (return_jobs ++ (arrival_jobs ++ Rydberg (pairs_at ops pulse) ∷ []))

-- This is to be done from a pulse on, where the qubits rest so in the pulse before it: its round, then that of the
-- next pulse, and so on. Behind the last pulse come the gates of the last slot.
abbrev pub AreRounds : Architecture → List Op → List TrapId → List ℕ → List (List ℕ) → List (List ℕ) → List Todo → Type 0
AreRounds a ops rests before [] pulses todo = todo ≡ []
AreRounds a ops rests before (slot ∷ slots) [] todo =
    (rest : List Todo) × (todo ≡ gates_todo (gates_at ops slot) ++ rest) × AreRounds a ops rests before slots [] rest
AreRounds a ops rests before (slot ∷ slots) (pulse ∷ pulses) todo =
    (r : Rearrangement) × (round : List Todo) × (rest : List Todo) × (todo ≡ round ++ rest)
    × IsRound a ops rests before slot pulse r round
    × AreRounds a ops (after_arrivals a ops rests before pulse r) pulse slots pulses rest

-- This is to be done, from these homes on, for a circuit whose one-qubit gates have these slots and whose pairs have
-- these pulses, each given by the numbers of its ops: the rounds of the slots and pulses one after another, and all reads.
pub record IsPlan (a : Architecture) (c : NativeCircuit) (homes : List TrapId) (slots pulses : List (List ℕ)) (todo : List Todo) : Type 0 where
  pub rounds : List Todo
  pub rounds_are : AreRounds a c.ops homes [] slots pulses rounds
  pub todo_is : todo ≡ rounds ++ reads_todo (reads_in c.ops)

-- A program does the plan of a circuit on a card: with the circuit's stages, for pulses of at most as many pairs as the
-- card has sites. A circuit has one numbering, moves have one grouping, the first qubits have the first homes, and what
-- is to be done has one schedule, so between two pulses alone there is a choice: which greatest set of gates is kept, and
-- which least ways are taken.
pub record IsPlanned (a : Architecture) (c : NativeCircuit) (program : List Instr) : Type 0 where
  pub stages : Staging
  pub right : IsStaging stages
  pub circuit : stages.circuit ≡ c
  pub sites : stages.sites ≡ site_count a
  pub homes : List TrapId
  pub homes_are : AreHomesByUse a c homes
  pub todo : List Todo
  pub plan : IsPlan a c homes stages.gates stages.pairs todo
  -- which AODs make the jobs, and when each instruction begins
  pub schedule : IsSchedule a homes todo program
