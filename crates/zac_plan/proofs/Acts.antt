-- The parts of a plan: each leads from where the atoms rest before it to where they rest behind it.
use Rattle.std.proofs.Common.{◌≡◌, ℕ, ◌<◌, ◌≤◌, List, [], ◌∷◌, ◌++◌, Option, Some, None, length, get_or, refl, sym, subst, map, slice_get}
use Rattle.std.specs.List.{AllByRecursion, Contains, cons_option, filter_map, range_with_len}
use Rattle.std.specs.Option.{option_and_then}
use Rattle.std.proofs.lemmas.List.Elements.{All-from_recursion, recursion_from_All}
use Rattle.std.proofs.lemmas.Option.{slice_get-get_or}
use Rattle.zac_arch.specs.Architecture.{Architecture, storage_count}
use Rattle.zac_arch.specs.Rules.{KeepsRules}
use Rattle.zac_arch.specs.declared.place.TrapId.{TrapId}
use Rattle.zac_gates.specs.Ops.{IsInRange}
use Rattle.zac_gates.specs.declared.circuit.Op.{Op}
use Rattle.zac_gates.specs.declared.circuit.Op.TheVariants as op
use Rattle.zac_sched.specs.Exchange.{AreTidySteps}
use Rattle.zac_sched.specs.Todos.{NamesQubitsBelow}
use Rattle.zac_sched.specs.declared.todo.Todo.{Todo}
use Rattle.zac_sched.specs.declared.todo.Todo.TheVariants.{Gates, Readout, Rydberg}
use Rattle.zair_form.specs.declared.program.Act.TheVariants as act
use Rattle.zair_form.specs.declared.step.OneGate.{OneGate}
use Rattle.zair_form.specs.declared.step.PairOf.{PairOf}
use Rattle.zair_form.specs.declared.step.ReadOf.{ReadOf}
use Rattle.zair_form.specs.declared.step.Step.{Step}
use Rattle.zair_form.specs.declared.step.Step.TheVariants.{One, Pulse}
use Rattle.zair_form.specs.declared.step.Step.TheVariants as step
use Rattle.zair_state.specs.Moves.{EachGoesSomewhere}
use Rattle.zair_state.specs.Legal.{Rests}
use Rattle.zair_state.specs.Invariant.{IsSound}
use Rattle.zair_state.specs.Run.{IsLegalRun, after_all}
use Rattle.zair_state.specs.State.{State, opening}
use Rattle.zac_group.specs.Groups.{IsGroup, MoveGroup}
use Rattle.zac_group.specs.declared.shift.Shift.{Shift}
use Rattle.zac_plan.specs.Leading.{LeadOn, Leads}
use Rattle.zac_plan.specs.Plan.{AreJobs, IsRearrangement, Rearrangement, after_arrivals, after_returns, after_shifts, arrivals, returns, job_of, gate_of, read_of, gates_at, pairs_at, reads_in, gates_todo, reads_todo}
use Rattle.zac_plan.specs.Seats.{AreCleared, AreSeated, CanMake, IsPulse}
use Rattle.zac_plan.proofs.Arriving.{can_arrive, seated}
use Rattle.zac_plan.proofs.Grouping.{all_moves, groups_permute}
use Rattle.zac_plan.proofs.Jobs.{JobLaws, jobs_lead, sound_behind}
use Rattle.zac_plan.proofs.Leaving.{can_return, cleared}
use Rattle.zac_plan.proofs.Lists.{all_from_contains, contains_here, contains_later}
use Rattle.zac_plan.proofs.Phases.{after_permuted, make_permuted}
use Rattle.zac_plan.proofs.Pulse.{pulse_rests}
use Rattle.zac_plan.proofs.Rests.{rests_in}

-- one part after another
pub lead_append : (a : Architecture) (t u v : List TrapId) (xs ys : List Todo) → LeadOn a t xs u → LeadOn a u ys v → LeadOn a t (xs ++ ys) v
lead_append a t u v [] ys h k = subst (λ (l : List TrapId). LeadOn a l ys v) (sym h) k
lead_append a t u v (x ∷ xs) ys h k = (h.0, h.1, lead_append a h.0 u v xs ys h.2 k)

-- the qubits of gates and of reads are in range
abbrev pub IsGateBelow : ℕ → OneGate → Type 0
IsGateBelow n g = g.q < n

abbrev pub IsReadBelow : ℕ → ReadOf → Type 0
IsReadBelow n r = r.q < n

-- each qubit rests somewhere
each_rests : (a : Architecture) (t : List TrapId) (q : ℕ) → q < length t → Rests (opening a t) q
each_rests a t q within =
    let none : TrapId = record { 0 = 0 } in
    let at : TrapId = get_or t q none in
    (at, rests_in a t q at (slice_get-get_or t q none within))

gates_tidy : (a : Architecture) (t : List TrapId) (all ones : List OneGate) → ((x : Step) → Contains (map (λ gate. One gate) ones) x → Contains (map (λ gate. One gate) all) x) →
    AllByRecursion (IsGateBelow (length t)) ones → AreTidySteps a (opening a t) (act.Gates all) (map (λ gate. One gate) ones)
gates_tidy a t all [] of h = tt
gates_tidy a t all (g ∷ gs) of h = (
  record { of_act = of (One g) (contains_here (One g) (map (λ gate. One gate) gs)); own = refl; legal = each_rests a t g.q h.0; before = tt; behind = tt },
  gates_tidy a t all gs (λ x listed. of x (contains_later (One g) x (map (λ gate. One gate) gs) listed)) h.1,
)

gates_stay : (a : Architecture) (t : List TrapId) (ones : List OneGate) → after_all (opening a t) (map (λ gate. One gate) ones) ≡ opening a t
gates_stay a t [] = refl
gates_stay a t (g ∷ gs) = gates_stay a t gs

gates_go : (earlier : List Step) (ones : List OneGate) → EachGoesSomewhere earlier (map (λ gate. One gate) ones)
gates_go earlier [] = tt
gates_go earlier (one ∷ ones) = (tt, gates_go (earlier ++ One one ∷ []) ones)

gates_lead : (a : Architecture) (t : List TrapId) (ones : List OneGate) → AllByRecursion (IsGateBelow (length t)) ones → Leads a t (Gates ones) t
gates_lead a t ones h = record {
  of_card = tt;
  names = All-from_recursion (IsGateBelow (length t)) ones h;
  as_many = refl;
  tidy = λ aod known. gates_tidy a t ones ones (λ x listed. listed) h;
  ends = λ aod known. gates_stay a t ones;
  moves = λ aod. gates_go [] ones;
}

pub gates_part : (a : Architecture) (t : List TrapId) (ones : List OneGate) → AllByRecursion (IsGateBelow (length t)) ones → LeadOn a t (gates_todo ones) t
gates_part a t [] h = refl
gates_part a t (g ∷ gs) h = (t, gates_lead a t (g ∷ gs) h, refl)

reads_rest : (a : Architecture) (t : List TrapId) (reads : List ReadOf) → AllByRecursion (IsReadBelow (length t)) reads →
    AllByRecursion (λ (r : ReadOf). Rests (opening a t) r.q) reads
reads_rest a t [] h = tt
reads_rest a t (r ∷ rs) h = (each_rests a t r.q h.0, reads_rest a t rs h.1)

reads_lead : (a : Architecture) (t : List TrapId) (reads : List ReadOf) → AllByRecursion (IsReadBelow (length t)) reads → Leads a t (Readout reads) t
reads_lead a t reads h = record {
  of_card = tt;
  names = All-from_recursion (IsReadBelow (length t)) reads h;
  as_many = refl;
  tidy = λ aod known. (
    record {
      of_act = contains_here (step.Readout reads) [];
      own = refl;
      legal = All-from_recursion (λ (x : ReadOf). Rests (opening a t) x.q) reads (reads_rest a t reads h);
      before = tt;
      behind = tt;
    },
    tt,
  );
  ends = λ aod known. refl;
  moves = λ aod. (tt, tt);
}

pub reads_part : (a : Architecture) (t : List TrapId) (reads : List ReadOf) → AllByRecursion (IsReadBelow (length t)) reads → LeadOn a t (reads_todo reads) t
reads_part a t [] h = refl
reads_part a t (r ∷ rs) h = (t, reads_lead a t (r ∷ rs) h, refl)

-- the gates at these numbers are in range
module _ (n bits : ℕ) where
  gate_below : (k : ℕ) (o : Option Op) (gs : List OneGate) → ((what : Op) → o ≡ Some what → IsInRange n bits what) → AllByRecursion (IsGateBelow n) gs →
      AllByRecursion (IsGateBelow n) (cons_option (option_and_then (gate_of k) o) gs)
  gate_below k None gs valid h = h
  gate_below k (Some (op.One q angles)) gs valid h = (valid (op.One q angles) refl, h)
  gate_below k (Some (op.Two q r)) gs valid h = h
  gate_below k (Some op.Fence) gs valid h = h
  gate_below k (Some (op.Read q bit)) gs valid h = h

  read_below : (k : ℕ) (o : Option Op) (rs : List ReadOf) → ((what : Op) → o ≡ Some what → IsInRange n bits what) → AllByRecursion (IsReadBelow n) rs →
      AllByRecursion (IsReadBelow n) (cons_option (option_and_then (read_of k) o) rs)
  read_below k None rs valid h = h
  read_below k (Some (op.One q angles)) rs valid h = h
  read_below k (Some (op.Two q r)) rs valid h = h
  read_below k (Some op.Fence) rs valid h = h
  read_below k (Some (op.Read q bit)) rs valid h = ((valid (op.Read q bit) refl).0, h)

  module _ (ops : List Op) (valid : (k : ℕ) (what : Op) → slice_get ops k ≡ Some what → IsInRange n bits what) where
    pub gates_below : (numbers : List ℕ) → AllByRecursion (IsGateBelow n) (gates_at ops numbers)
    gates_below [] = tt
    gates_below (k ∷ ks) = gate_below k (slice_get ops k) (gates_at ops ks) (valid k) (gates_below ks)

    pub reads_below : (numbers : List ℕ) → AllByRecursion (IsReadBelow n) (filter_map (λ k. option_and_then (read_of k) (slice_get ops k)) numbers)
    reads_below [] = tt
    reads_below (k ∷ ks) = read_below k (slice_get ops k) (filter_map (λ m. option_and_then (read_of m) (slice_get ops m)) ks) (valid k) (reads_below ks)

-- The parts of a plan.
module _ (a : Architecture) (rules : KeepsRules a) (n : ℕ) (bits : ℕ) (ops : List Op)
    (valid : (k : ℕ) (what : Op) → slice_get ops k ≡ Some what → IsInRange n bits what)
    (keeps : (s : State) (steps : List Step) → IsSound a s → IsLegalRun a s steps → IsSound a (after_all s steps)) where
  pub slot_part : (rests : List TrapId) → length rests ≡ n → (slot : List ℕ) → LeadOn a rests (gates_todo (gates_at ops slot)) rests
  slot_part rests long slot =
      gates_part a rests (gates_at ops slot) (subst (λ m. AllByRecursion (IsGateBelow m) (gates_at ops slot)) (sym long) (gates_below n bits ops valid slot))

  pub readout_part : (rests : List TrapId) → length rests ≡ n → LeadOn a rests (reads_todo (reads_in ops)) rests
  readout_part rests long =
      reads_part a rests (reads_in ops)
      (subst (λ m. AllByRecursion (IsReadBelow m) (reads_in ops)) (sym long) (reads_below n bits ops valid (range_with_len 0 (length ops))))

  -- a pulse of a pair of qubits below n names qubits below n
  pulse_lead : (rests : List TrapId) (pairs : List PairOf) → IsPulse a n pairs → AreSeated a n rests pairs → Leads a rests (Rydberg pairs) rests
  pulse_lead rests pairs pulse seats = record {
    of_card = tt;
    names =
        subst (λ m. NamesQubitsBelow m (Rydberg pairs)) (sym seats.well.long)
        (all_from_contains (λ (p : PairOf). (p.a < n) × (p.b < n)) pairs (λ p listed. let of = pulse.each p listed in (of.0, of.1)));
    as_many = refl;
    tidy = λ aod known. (
      record {
        of_act = contains_here (Pulse pairs) [];
        own = refl;
        legal = pulse_rests a rules n rests pairs pulse seats;
        before = tt;
        behind = tt;
      },
      tt,
    );
    ends = λ aod known. refl;
    moves = λ aod. (tt, tt);
  }

  -- what the laws say of jobs
  module _ (laws : JobLaws a) where
    pub sound_after : (t u : List TrapId) (todo : List Todo) → IsSound a (opening a t) → LeadOn a t todo u → IsSound a (opening a u)
    sound_after t u todo sound part = sound_behind a rules laws keeps t u todo sound part

    -- the jobs of a phase
    jobs_part : (t : List TrapId) (shifts : List Shift) (jobs : List Todo) → IsSound a (opening a t) → CanMake t shifts → AreJobs a shifts jobs → LeadOn a t jobs (after_shifts t shifts)
    jobs_part t shifts jobs sound can_make are =
        let permutes = groups_permute a shifts are.groups are.grouping in
        let can = make_permuted t shifts (all_moves are.groups) permutes can_make in
        let lead =
        jobs_lead a rules laws keeps t are.groups (recursion_from_All (λ (g : MoveGroup). g.card ≡ a) are.groups are.grouping.cards)
        (recursion_from_All IsGroup are.groups are.grouping.kept) sound can in
        subst (λ (l : List Todo). LeadOn a t l (after_shifts t shifts)) (sym are.jobs)
        (subst (LeadOn a t (map (job_of a) are.groups)) (sym (after_permuted t shifts (all_moves are.groups) permutes can_make)) lead)

    -- A round: the qubits rest in the pulse before, and a right choice has been made.
    module _ (fit : n ≤ storage_count a) (rests : List TrapId) (before slot pulse : List ℕ) (r : Rearrangement) (here : IsPulse a n (pairs_at ops before)) (next : IsPulse a n (pairs_at ops pulse))
        (seats : AreSeated a n rests (pairs_at ops before)) (chosen : IsRearrangement a ops rests before pulse r) where
      are_cleared : AreCleared a n (after_returns ops rests before r) (pairs_at ops pulse)
      are_cleared = cleared a rules n fit ops rests before pulse r.kept chosen.keeping here next seats r.targets chosen.targets.placing

      can_leave : CanMake rests (returns ops rests before r)
      can_leave = (can_return a rules n fit ops rests before pulse r.kept chosen.keeping here next seats).make r.targets chosen.targets.placing

      can_come : CanMake (after_returns ops rests before r) (arrivals a (after_returns ops rests before r) (pairs_at ops pulse) r.sites)
      can_come = (can_arrive a rules n fit (after_returns ops rests before r) (pairs_at ops pulse) next are_cleared).make r.sites chosen.sites.placing

      -- its pairs are at the sites then
      pub seated_next : AreSeated a n (after_arrivals a ops rests before pulse r) (pairs_at ops pulse)
      seated_next = seated a rules n fit (after_returns ops rests before r) (pairs_at ops pulse) next are_cleared r.sites chosen.sites.placing

      -- it leads from where the qubits rest in the pulse before to where they rest in this one
      pub round_part : (return_jobs arrival_jobs : List Todo) → IsSound a (opening a rests) → AreJobs a (returns ops rests before r) return_jobs →
          AreJobs a (arrivals a (after_returns ops rests before r) (pairs_at ops pulse) r.sites) arrival_jobs →
          LeadOn a rests (gates_todo (gates_at ops slot) ++ (return_jobs ++ (arrival_jobs ++ Rydberg (pairs_at ops pulse) ∷ []))) (after_arrivals a ops rests before pulse r)
      round_part return_jobs arrival_jobs sound returned arrived =
          let there : List TrapId = after_arrivals a ops rests before pulse r in
          let between : List TrapId = after_returns ops rests before r in
          let out : LeadOn a rests return_jobs between = jobs_part rests (returns ops rests before r) return_jobs sound can_leave returned in
          let sound_between = sound_after rests between return_jobs sound out in
          let to_the_sites : LeadOn a between arrival_jobs there =
          jobs_part between (arrivals a between (pairs_at ops pulse) r.sites) arrival_jobs sound_between can_come arrived in
          let from_arrivals = lead_append a between there there arrival_jobs (Rydberg (pairs_at ops pulse) ∷ []) to_the_sites (there, pulse_lead there (pairs_at ops pulse) next seated_next, refl) in
          let from_returns = lead_append a rests between there return_jobs (arrival_jobs ++ Rydberg (pairs_at ops pulse) ∷ []) out from_arrivals in
          lead_append a rests rests there (gates_todo (gates_at ops slot)) (return_jobs ++ (arrival_jobs ++ Rydberg (pairs_at ops pulse) ∷ [])) (slot_part rests seats.well.long slot) from_returns
