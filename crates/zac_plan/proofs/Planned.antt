-- The whole plan of a circuit, round by round.
use Rattle.std.proofs.Common.{◌≡◌, ◌≢◌, ℕ, zero, suc, ◌+◌, ◌*◌, ◌<◌, ◌≤◌, inl, inr, List, [], ◌∷◌, ◌++◌, Some, length, drop, get_or, slice_get, append_assoc, append-nil, refl, sym, ap, ◌∙◌, subst, arith, map}
use Rattle.std.specs.List.{All, AllByRecursion, AllPairs, range_with_len}
use Rattle.std.proofs.lemmas.Bool.{cases_eq, cases_lt}
use Rattle.std.proofs.lemmas.List.{drop_all, length-append}
use Rattle.std.proofs.lemmas.List.Elements.{recursion_from_All}
use Rattle.std.proofs.lemmas.List.FromFn.{length-map-range_with_len}
use Rattle.std.proofs.lemmas.Option.{get_or_from_slice_get, slice_get-get_or, slice_get_within}
use Rattle.zac_arch.specs.Architecture.{Architecture, site_count, storage_count, trap_count}
use Rattle.zac_arch.specs.Rules.{KeepsRules}
use Rattle.zac_arch.specs.declared.place.TrapId.{TrapId}
use Rattle.zac_arch.proofs.Geometry.{storage_count_most, trap_count_is}
use Rattle.zac_gates.specs.Ops.{NativeCircuit, IsInRange, IsValid, pairs_in}
use Rattle.zac_gates.specs.declared.circuit.Op.{Op}
use Rattle.zac_place.specs.Homes.{AreApartInStorage}
use Rattle.zac_world.specs.Places.{Places}
use Rattle.zac_stage.specs.Numbers.{is_one_of, is_pair_of, NumbersFollow}
use Rattle.zac_stage.specs.Staging.{Staging, IsStaging}
use Rattle.zac_sched.specs.Todos.{steps_in_all}
use Rattle.zac_sched.specs.declared.todo.Todo.{Todo}
use Rattle.zac_sched.specs.declared.todo.Todo.TheVariants.{Rydberg}
use Rattle.zair_form.specs.Ranges.{IsNumber}
use Rattle.zair_form.specs.declared.step.Step.{Step}
use Rattle.zair_state.specs.Invariant.{IsSound}
use Rattle.zair_state.specs.Legal.{AreOnce}
use Rattle.zair_state.specs.Run.{IsLegalRun, after_all}
use Rattle.zair_state.specs.State.{State, opening}
use Rattle.zac_plan.specs.declared.agenda.Agenda.{Agenda}
use Rattle.zac_plan.specs.Growth.{FitsOnEach, GoesOn, GrowsByRound, IsStagingOf, numbers_at, pulse_before}
use Rattle.zac_plan.specs.Leading.{LeadOn}
use Rattle.zac_plan.specs.Plan.{AreRounds, IsPlan, IsRound, after_arrivals, gates_at, gates_todo, pairs_at, places, reads_in, reads_todo}
use Rattle.zac_plan.specs.Seats.{AreSeated, IsPulse, rests_in}
use Rattle.zac_plan.proofs.Acts.{lead_append, readout_part, round_part, seated_next, slot_part, sound_after}
use Rattle.zac_plan.proofs.Counting.{size, gates_most, pairs_are_few}
use Rattle.zac_plan.proofs.Counts.{gates_at_few, gates_few, reads_few, round_few, steps-append}
use Rattle.zac_plan.proofs.Jobs.{JobLaws}
use Rattle.zac_plan.proofs.Lists.{all-append, all_from_contains, contained_in_filter, contained_in_none, contained_in_range, pairs_map}
use Rattle.zac_plan.proofs.Staged.{none_placed, pulses_fit}
use Rattle.zac_plan.proofs.Turns.{all_mapped, pulse, slot}
use Rattle.zac_plan.proofs.Worlds.{rests_of_places}

all_at_place : {X : Type 0} (P : X → Type 0) (xs : List X) (k : ℕ) (x : X) → AllByRecursion P xs → slice_get xs k ≡ Some x → P x
all_at_place P [] k x h at = cc
all_at_place P (y ∷ ys) zero x h at = let same : y ≡ x = cc in subst P same h.0
all_at_place P (y ∷ ys) (suc k) x h at = all_at_place P ys k x h.1 at

pub all_from_places : {X : Type 0} (P : X → Type 0) (xs : List X) → ((k : ℕ) (x : X) → slice_get xs k ≡ Some x → P x) → AllByRecursion P xs
all_from_places P [] h = tt
all_from_places P (x ∷ xs) h = (h 0 x refl, all_from_places P xs (λ k y at. h (suc k) y at))

drop_at : {X : Type 0} (xs : List X) (n : ℕ) (x : X) → slice_get xs n ≡ Some x → drop n xs ≡ x ∷ drop (n + 1) xs
drop_at [] n x h = cc
drop_at (y ∷ ys) zero x h = let same : y ≡ x = cc in ap (λ z. z ∷ ys) same
drop_at {X} (y ∷ ys) (suc n) x h =
    let next : suc n + 1 ≡ suc (n + 1) = omega arith in
    drop_at ys n x h ∙ ap (λ m. x ∷ drop m (y ∷ ys)) (sym next)

pub homes_fit : (a : Architecture) → KeepsRules a → (homes : List TrapId) → All (λ (h : TrapId). h.0 < storage_count a) homes → AllByRecursion (λ (t : TrapId). IsNumber t.0) homes
homes_fit a rules [] h = tt
homes_fit a rules (t ∷ ts) h =
    let here : t.0 < storage_count a = h 0 t (omega arith) in
    (omega (arith, storage_count_most a rules), homes_fit a rules ts (λ k d within. h (suc k) d (omega arith)))

-- the ops of a slot, and of a pulse, exist
abbrev pub AreBelow : ℕ → List ℕ → Type 0
AreBelow n numbers = All (λ k. k < n) numbers

slots_below : (s : Staging) → IsStaging s → AllByRecursion (AreBelow (length s.circuit.ops)) s.gates
slots_below s right =
    subst (AllByRecursion (AreBelow (length s.circuit.ops))) (sym right.gates_are)
    (all_mapped (AreBelow (length s.circuit.ops)) (slot s) (range_with_len 0 (length s.pairs + 1))
    (λ t. all_from_contains (λ k. k < length s.circuit.ops) (slot s t)
    (λ k listed. omega (arith, (contained_in_range 0 (length s.circuit.ops) k (contained_in_filter (is_one_of s.circuit.ops s.numbers t) (range_with_len 0 (length s.circuit.ops)) k listed).0).1))))

pulses_below : (s : Staging) → IsStaging s → AllByRecursion (AreBelow (length s.circuit.ops)) s.pairs
pulses_below s right =
    subst (AllByRecursion (AreBelow (length s.circuit.ops))) (sym right.pairs_are)
    (all_mapped (AreBelow (length s.circuit.ops)) (pulse s) (range_with_len 0 (length s.pairs))
    (λ t. all_from_contains (λ k. k < length s.circuit.ops) (pulse s t)
    (λ k listed. omega (arith, (contained_in_range 0 (length s.circuit.ops) k (contained_in_filter (is_pair_of s.circuit.ops s.numbers t) (range_with_len 0 (length s.circuit.ops)) k listed).0).1))))

-- The first t rounds are done: what was to do is what is on the agenda and what is left, and there is room for what is
-- left. The agenda leads from the homes to where the pairs of the last pulse are at the sites.
pub record DoesRounds (a : Architecture) (c : NativeCircuit) (s : Staging) (homes : List TrapId) (agenda : Agenda) (world : Places) (t : ℕ) : Type 0 where
  pub fits : AllByRecursion FitsOnEach agenda.todo.items
  pub its_card : world.architecture ≡ a
  pub seats : AreSeated a c.qubits (rests_in world) (pairs_at c.ops (pulse_before s.pairs t))
  pub left : (rest : List Todo) → AreRounds a c.ops (rests_in world) (pulse_before s.pairs t) (drop t s.gates) (drop t s.pairs) rest →
      AreRounds a c.ops homes [] s.gates s.pairs (agenda.todo.items ++ rest)
  pub lead : LeadOn a homes agenda.todo.items (rests_in world)
  pub sound : IsSound a (opening a (rests_in world))
  pub few : length agenda.todo.items + 2 * length (pulse_before s.pairs t) + 6 * size (drop t s.pairs) ≤ 6 * size s.pairs
  pub few_steps : steps_in_all agenda.todo.items + 8 * length (pulse_before s.pairs t) + (size (drop t s.gates) + 17 * size (drop t s.pairs))
      ≤ size s.gates + 17 * size s.pairs

-- the homes are a sound state
homes_sound : (a : Architecture) (n : ℕ) (homes : List TrapId) → KeepsRules a → AreApartInStorage a n homes →
    ((a : Architecture) (homes : List TrapId) → All (λ (home : TrapId). home.0 < trap_count a) homes → AreOnce (map (λ (home : TrapId). home.0) homes) → IsSound a (opening a homes)) →
    IsSound a (opening a homes)
homes_sound a n homes rules apart opens =
    opens a homes (λ k d within. omega (arith, apart.in_storage k d within, trap_count_is a rules))
    (pairs_map (λ (i j : ℕ). i ≢ j) (λ (home : TrapId). home.0) homes apart.distinct)

same_number : (t u : TrapId) → Some t ≡ Some u → t.0 ≡ u.0
same_number t u e = let same : t ≡ u = cc in ap (λ (x : TrapId). x.0) same

all_at : (a : Architecture) (homes : List TrapId) (q : ℕ) (t : TrapId) → All (λ (h : TrapId). h.0 < storage_count a) homes → slice_get homes q ≡ Some t → t.0 < storage_count a
all_at a homes q t h at = all_at_place (λ (h : TrapId). h.0 < storage_count a) homes q t (recursion_from_All (λ (h : TrapId). h.0 < storage_count a) homes h) at

-- two qubits with one home are one
one_of_two : (homes : List TrapId) (q r : ℕ) (t : TrapId) → AllPairs (λ (g h : TrapId). g.0 ≢ h.0) homes → slice_get homes q ≡ Some t → slice_get homes r ≡ Some t → q ≡ r
one_of_two homes q r t distinct at_q at_r =
    let q_in : q < length homes = slice_get_within homes q t at_q in
    let r_in : r < length homes = slice_get_within homes r t at_r in
    let q_is : get_or homes q t ≡ t = get_or_from_slice_get homes q t t at_q in
    let r_is : get_or homes r t ≡ t = get_or_from_slice_get homes r t t at_r in
    elim (cases_eq q r) [
      | inl e ↦ e
      | inr ne ↦ elim (cases_lt q r) [
        | inl less ↦ absurd (distinct q r t less r_in (ap (λ (x : TrapId). x.0) (q_is ∙ sym r_is)))
        | inr more ↦ absurd (distinct r q t (omega arith) q_in (ap (λ (x : TrapId). x.0) (r_is ∙ sym q_is)))
      ]
    ]

-- at home no pair is at a site
homes_seated : (a : Architecture) (n : ℕ) (homes : List TrapId) → KeepsRules a → AreApartInStorage a n homes → AreSeated a n homes []
homes_seated a n homes rules apart = record {
  well = record {
    long = apart.each;
    in_card = λ q t at. omega (arith, all_at a homes q t apart.in_storage at, trap_count_is a rules);
    apart = λ q r t at_q at_r. one_of_two homes q r t apart.distinct at_q at_r;
  };
  seated = λ p listed. absurd (contained_in_none p listed);
  others = λ q t at. inr (all_at a homes q t apart.in_storage at);
}

pub does_none : (a : Architecture) (c : NativeCircuit) (s : Staging) (homes : List TrapId) (x : Agenda) (world : Places) → KeepsRules a → AreApartInStorage a c.qubits homes →
    ((a : Architecture) (homes : List TrapId) → All (λ (home : TrapId). home.0 < trap_count a) homes → AreOnce (map (λ (home : TrapId). home.0) homes) → IsSound a (opening a homes)) →
    world ≡ places a homes → x.todo.items ≡ [] → DoesRounds a c s homes x world 0
does_none a c s homes x world rules apart opens is none =
    let there : rests_in world ≡ homes = ap rests_in is ∙ rests_of_places a homes in
    record {
      fits = subst (AllByRecursion FitsOnEach) (sym none) tt;
      its_card = ap (λ (w : Places). w.architecture) is;
      seats = subst (λ (l : List TrapId). AreSeated a c.qubits l []) (sym there) (homes_seated a c.qubits homes rules apart);
      left = λ rest are.
          subst (λ (l : List Todo). AreRounds a c.ops homes [] s.gates s.pairs (l ++ rest)) (sym none)
          (subst (λ (l : List TrapId). AreRounds a c.ops l [] s.gates s.pairs rest) there are);
      lead = subst (λ (l : List Todo). LeadOn a homes l (rests_in world)) (sym none) (sym there);
      sound = subst (λ (l : List TrapId). IsSound a (opening a l)) (sym there) (homes_sound a c.qubits homes rules apart opens);
      few = omega (arith, ap (λ (l : List Todo). length l) none);
      few_steps = omega (arith, ap (λ (l : List Todo). steps_in_all l) none);
    }

-- the slot or pulse of this number, where there is one
pub numbers_found : (lists : List (List ℕ)) (t : ℕ) → t < length lists → slice_get lists t ≡ Some (numbers_at lists t)
numbers_found lists t within = slice_get-get_or lists t [] within

-- the pulse before the next one
pub next_before : (lists : List (List ℕ)) (t : ℕ) → pulse_before lists (t + 1) ≡ numbers_at lists t
next_before lists t = let next : t + 1 ≡ suc t = omega arith in ap (pulse_before lists) next

-- What is known of the slot of this number, and of the pulse.
module _ (a : Architecture) (c : NativeCircuit) (s : Staging) (rules : KeepsRules a) (fit : c.qubits ≤ storage_count a) (valid : IsValid c) (of : IsStagingOf a c s) where
  pub slot_below : (t : ℕ) (numbers : List ℕ) → slice_get s.gates t ≡ Some numbers → All (λ k. k < length c.ops) numbers
  slot_below t numbers at =
      subst (λ (d : NativeCircuit). All (λ k. k < length d.ops) numbers) of.circuit
      (all_at_place (AreBelow (length s.circuit.ops)) s.gates t numbers (slots_below s of.right) at)

  pub pulse_below : (t : ℕ) (numbers : List ℕ) → slice_get s.pairs t ≡ Some numbers → All (λ k. k < length c.ops) numbers
  pulse_below t numbers at =
      subst (λ (d : NativeCircuit). All (λ k. k < length d.ops) numbers) of.circuit
      (all_at_place (AreBelow (length s.circuit.ops)) s.pairs t numbers (pulses_below s of.right) at)

  pub fits_at : (t : ℕ) (numbers : List ℕ) → slice_get s.pairs t ≡ Some numbers → IsPulse a c.qubits (pairs_at c.ops numbers)
  fits_at t numbers at = all_at_place (λ numbers. IsPulse a c.qubits (pairs_at c.ops numbers)) s.pairs t numbers (pulses_fit a c s valid of) at

  pub pulse_some : (t : ℕ) (numbers : List ℕ) → slice_get s.pairs t ≡ Some numbers → 1 ≤ length numbers
  pulse_some t numbers at = all_at_place (λ numbers. 1 ≤ length numbers) s.pairs t numbers of.some at

  in_range : (k : ℕ) (what : Op) → slice_get c.ops k ≡ Some what → IsInRange c.qubits c.bits what
  in_range k what at = (valid k what at).in_range

  -- the pairs of the pulse before fit too
  fits_before_at : (t : ℕ) → t ≤ length s.pairs → IsPulse a c.qubits (pairs_at c.ops (pulse_before s.pairs t))
  fits_before_at zero within = none_placed a c.qubits
  fits_before_at (suc t) within = fits_at t (numbers_at s.pairs t) (numbers_found s.pairs t (omega arith))

  pub fits_before : (t : ℕ) → t ≤ length s.pairs → IsPulse a c.qubits (pairs_at c.ops (pulse_before s.pairs t))
  fits_before t within = fits_before_at t within

  pub fits_now : (t : ℕ) → t < length s.pairs → IsPulse a c.qubits (pairs_at c.ops (numbers_at s.pairs t))
  fits_now t within = fits_at t (numbers_at s.pairs t) (numbers_found s.pairs t within)

  slots_longer : length s.gates ≡ length s.pairs + 1
  slots_longer = ap length of.right.gates_are ∙ length-map-range_with_len (slot s) 0 (length s.pairs + 1)

  module _ (homes : List TrapId) (y z : Agenda) (world behind : Places) (t : ℕ) (does : DoesRounds a c s homes y world t) (within : t < length s.pairs) where
    slots_next : drop t s.gates ≡ numbers_at s.gates t ∷ drop (t + 1) s.gates
    slots_next = drop_at s.gates t (numbers_at s.gates t) (numbers_found s.gates t (omega (arith, slots_longer)))

    pulses_next : drop t s.pairs ≡ numbers_at s.pairs t ∷ drop (t + 1) s.pairs
    pulses_next = drop_at s.pairs t (numbers_at s.pairs t) (numbers_found s.pairs t within)

    size_slots : size (drop t s.gates) ≡ length (numbers_at s.gates t) + size (drop (t + 1) s.gates)
    size_slots = ap size slots_next

    size_pulses : size (drop t s.pairs) ≡ length (numbers_at s.pairs t) + size (drop (t + 1) s.pairs)
    size_pulses = ap size pulses_next

    -- one round more is done
    module _ (keeps : (s : State) (steps : List Step) → IsSound a s → IsLegalRun a s steps → IsSound a (after_all s steps)) (laws : JobLaws a)
        (grows : GrowsByRound a c.ops (pulse_before s.pairs t) (numbers_at s.gates t) (numbers_at s.pairs t) y z world behind) where
      round : List Todo
      round = gates_todo (gates_at c.ops (numbers_at s.gates t)) ++ (grows.return_jobs ++ (grows.arrival_jobs ++ Rydberg (pairs_at c.ops (numbers_at s.pairs t)) ∷ []))

      then : List TrapId
      then = after_arrivals a c.ops (rests_in world) (pulse_before s.pairs t) (numbers_at s.pairs t) grows.chosen

      rests_then : rests_in behind ≡ then
      unfolding then
      rests_then = ap rests_in grows.moved ∙ rests_of_places a (after_arrivals a c.ops (rests_in world) (pulse_before s.pairs t) (numbers_at s.pairs t) grows.chosen)

      is_round : IsRound a c.ops (rests_in world) (pulse_before s.pairs t) (numbers_at s.gates t) (numbers_at s.pairs t) grows.chosen round
      unfolding round
      is_round = record {
        chosen = grows.right;
        return_jobs = grows.return_jobs;
        arrival_jobs = grows.arrival_jobs;
        returned = grows.returned;
        arrived = grows.arrived;
        todo_is = refl;
      }

      leads_on : LeadOn a (rests_in world) round then
      unfolding round then
      leads_on =
          round_part a rules c.qubits c.bits c.ops in_range keeps laws fit (rests_in world) (pulse_before s.pairs t) (numbers_at s.gates t) (numbers_at s.pairs t) grows.chosen
          (fits_before t (omega arith)) (fits_now t within) does.seats grows.right grows.return_jobs grows.arrival_jobs does.sound grows.returned grows.arrived

      seats_then : AreSeated a c.qubits then (pairs_at c.ops (numbers_at s.pairs t))
      unfolding then
      seats_then =
          seated_next a rules c.qubits c.bits c.ops in_range keeps laws fit (rests_in world) (pulse_before s.pairs t) (numbers_at s.gates t) (numbers_at s.pairs t) grows.chosen
          (fits_before t (omega arith)) (fits_now t within) does.seats grows.right

      left_more : (rest : List Todo) → AreRounds a c.ops then (numbers_at s.pairs t) (drop (t + 1) s.gates) (drop (t + 1) s.pairs) rest →
          AreRounds a c.ops homes [] s.gates s.pairs ((y.todo.items ++ round) ++ rest)
      unfolding then
      left_more rest are =
          let now : AreRounds a c.ops (rests_in world) (pulse_before s.pairs t) (numbers_at s.gates t ∷ drop (t + 1) s.gates) (numbers_at s.pairs t ∷ drop (t + 1) s.pairs) (round ++ rest) =
          (grows.chosen, round, rest, refl, is_round, are) in
          subst (λ (l : List Todo). AreRounds a c.ops homes [] s.gates s.pairs l) (sym (append_assoc y.todo.items round rest))
          (does.left (round ++ rest)
          (subst (λ (l : List (List ℕ)). AreRounds a c.ops (rests_in world) (pulse_before s.pairs t) l (drop t s.pairs) (round ++ rest)) (sym slots_next)
          (subst (λ (l : List (List ℕ)). AreRounds a c.ops (rests_in world) (pulse_before s.pairs t) (numbers_at s.gates t ∷ drop (t + 1) s.gates) l (round ++ rest)) (sym pulses_next) now)))

      grows_on : GoesOn y z round
      unfolding round
      grows_on = grows.goes_on

      counts : (length round ≤ 2 + 2 * length (pulse_before s.pairs t) + 2 * length (numbers_at s.pairs t))
          × (steps_in_all round ≤ length (numbers_at s.gates t) + 8 * length (pulse_before s.pairs t) + 8 * length (numbers_at s.pairs t) + 1)
      unfolding round
      counts =
          round_few a c.ops (rests_in world) (pulse_before s.pairs t) (numbers_at s.gates t) (numbers_at s.pairs t) grows.chosen grows.return_jobs grows.arrival_jobs
          grows.returned grows.arrived

      pub does_more : DoesRounds a c s homes z behind (t + 1)
      does_more =
          let before : List ℕ = numbers_at s.pairs t in
          let next = next_before s.pairs t in
          let there = lead_append a homes (rests_in world) then y.todo.items round does.lead leads_on in
          let added : z.todo.items ≡ y.todo.items ++ round = grows_on.added in
          let some = pulse_some t before (numbers_found s.pairs t within) in
          record {
            fits = subst (AllByRecursion FitsOnEach) (sym added) (all-append FitsOnEach y.todo.items round does.fits grows_on.fits);
            its_card = ap (λ (w : Places). w.architecture) grows.moved;
            seats =
                subst (λ (l : List TrapId). AreSeated a c.qubits l (pairs_at c.ops (pulse_before s.pairs (t + 1)))) (sym rests_then)
                (subst (λ (l : List ℕ). AreSeated a c.qubits then (pairs_at c.ops l)) (sym next) seats_then);
            left = λ rest are.
                subst (λ (l : List Todo). AreRounds a c.ops homes [] s.gates s.pairs (l ++ rest)) (sym added)
                (left_more rest
                (subst (λ (l : List ℕ). AreRounds a c.ops then l (drop (t + 1) s.gates) (drop (t + 1) s.pairs) rest) next
                (subst (λ (l : List TrapId). AreRounds a c.ops l (pulse_before s.pairs (t + 1)) (drop (t + 1) s.gates) (drop (t + 1) s.pairs) rest) rests_then are)));
            lead =
                subst (λ (l : List Todo). LeadOn a homes l (rests_in behind)) (sym added)
                (subst (λ (l : List TrapId). LeadOn a homes (y.todo.items ++ round) l) (sym rests_then) there);
            sound =
                subst (λ (l : List TrapId). IsSound a (opening a l)) (sym rests_then)
                (sound_after a rules c.qubits c.bits c.ops in_range keeps laws (rests_in world) then round does.sound leads_on);
            few =
                omega (
                  arith,
                  does.few,
                  counts.0,
                  some,
                  ap (λ (l : List ℕ). length l) next,
                  ap (λ (l : List Todo). length l) added,
                  length-append y.todo.items round,
                  size_pulses,
                );
            few_steps =
                omega (
                  arith,
                  does.few_steps,
                  counts.1,
                  some,
                  ap (λ (l : List ℕ). length l) next,
                  ap (λ (l : List Todo). steps_in_all l) added,
                  steps-append y.todo.items round,
                  size_slots,
                  size_pulses,
                );
          }

  -- what is promised of the agenda of a plan
  pub record IsWholePlan (homes : List TrapId) (todo : List Todo) : Type 0 where
    pub plan : IsPlan a c homes s.gates s.pairs todo
    pub behind : List TrapId
    pub lead : LeadOn a homes todo behind
    pub in_range : AllByRecursion FitsOnEach todo
    pub few : length todo ≤ 2000000
    pub few_steps : steps_in_all todo ≤ 16000000

  module _ (at_home : List TrapId) (y behind_gates z : Agenda) (world : Places) (t : ℕ) (these : List ℕ) (does : DoesRounds a c s at_home y world t)
      (all_done : t ≡ length s.pairs) (gates : slice_get s.gates t ≡ Some these)
      (gates_on : GoesOn y behind_gates (gates_todo (gates_at c.ops these))) (readout_on : GoesOn behind_gates z (reads_todo (reads_in c.ops)))
      (keeps : (s : State) (steps : List Step) → IsSound a s → IsLegalRun a s steps → IsSound a (after_all s steps)) where
    last_gates : List Todo
    last_gates = gates_todo (gates_at c.ops these)

    readout : List Todo
    readout = reads_todo (reads_in c.ops)

    -- all rounds and the last gates
    rounds : List Todo
    rounds = y.todo.items ++ last_gates

    are_all : AreRounds a c.ops at_home [] s.gates s.pairs rounds
    unfolding rounds last_gates
    are_all =
        let before : List ℕ = pulse_before s.pairs t in
        let count : length s.gates ≡ length s.pairs + 1 = slots_longer in
        let no_slot : drop t s.gates ≡ these ∷ [] = drop_at s.gates t these gates ∙ ap (λ (l : List (List ℕ)). these ∷ l) (drop_all (t + 1) s.gates (omega arith)) in
        let no_pulse : drop t s.pairs ≡ [] = drop_all t s.pairs (omega arith) in
        let last : AreRounds a c.ops (rests_in world) before (these ∷ []) [] (gates_todo (gates_at c.ops these)) = ([], sym (append-nil (gates_todo (gates_at c.ops these))), refl) in
        does.left (gates_todo (gates_at c.ops these))
        (subst (λ (l : List (List ℕ)). AreRounds a c.ops (rests_in world) before l (drop t s.pairs) (gates_todo (gates_at c.ops these))) (sym no_slot)
        (subst (λ (l : List (List ℕ)). AreRounds a c.ops (rests_in world) before (these ∷ []) l (gates_todo (gates_at c.ops these))) (sym no_pulse) last))

    whole : z.todo.items ≡ rounds ++ readout
    unfolding rounds last_gates readout
    whole = readout_on.added ∙ ap (λ (l : List Todo). l ++ reads_todo (reads_in c.ops)) gates_on.added

    whole_lead : LeadOn a at_home (rounds ++ readout) (rests_in world)
    unfolding rounds last_gates readout
    whole_lead =
        let last : List TrapId = rests_in world in
        lead_append a at_home last last (y.todo.items ++ gates_todo (gates_at c.ops these)) (reads_todo (reads_in c.ops))
        (lead_append a at_home last last y.todo.items (gates_todo (gates_at c.ops these)) does.lead
        (slot_part a rules c.qubits c.bits c.ops in_range keeps last does.seats.well.long these))
        (readout_part a rules c.qubits c.bits c.ops in_range keeps last does.seats.well.long)

    whole_fits : AllByRecursion FitsOnEach (rounds ++ readout)
    unfolding rounds last_gates readout
    whole_fits =
        all-append FitsOnEach (y.todo.items ++ gates_todo (gates_at c.ops these)) (reads_todo (reads_in c.ops))
        (all-append FitsOnEach y.todo.items (gates_todo (gates_at c.ops these)) does.fits gates_on.fits) readout_on.fits

    slots_left : size (drop t s.gates) ≡ length these + size (drop (t + 1) s.gates)
    slots_left = ap size (drop_at s.gates t these gates)

    whole_few : pairs_in c.ops ≤ 262144 → length c.ops ≤ 786432 → (length (rounds ++ readout) ≤ 2000000) × (steps_in_all (rounds ++ readout) ≤ 16000000)
    unfolding rounds last_gates readout
    whole_few few_pairs few_ops =
        let ones : List Todo = gates_todo (gates_at c.ops these) in
        let reads : List Todo = reads_todo (reads_in c.ops) in
        let of_gates = gates_few (gates_at c.ops these) in
        let of_reads = reads_few (reads_in c.ops) in
        let pairs : size s.pairs ≤ pairs_in c.ops = subst (λ (d : NativeCircuit). size s.pairs ≤ pairs_in d.ops) of.circuit (pairs_are_few s of.right) in
        let slots : size s.gates ≤ length c.ops = subst (λ (d : NativeCircuit). size s.gates ≤ length d.ops) of.circuit (gates_most s of.right) in (
          omega (arith, does.few, of_gates.0, of_reads.0, pairs, length-append (y.todo.items ++ ones) reads, length-append y.todo.items ones),
          omega (
            arith,
            does.few_steps,
            of_gates.1,
            of_reads.1,
            pairs,
            slots,
            slots_left,
            gates_at_few c.ops these,
            steps-append (y.todo.items ++ ones) reads,
            steps-append y.todo.items ones,
          ),
        )

    -- all that is promised of the agenda
    pub whole_plan : pairs_in c.ops ≤ 262144 → length c.ops ≤ 786432 → IsWholePlan at_home z.todo.items
    unfolding readout
    whole_plan few_pairs few_ops = record {
      plan = record { rounds = rounds; rounds_are = are_all; todo_is = whole };
      behind = rests_in world;
      lead = subst (λ (l : List Todo). LeadOn a at_home l (rests_in world)) (sym whole) whole_lead;
      in_range = subst (AllByRecursion FitsOnEach) (sym whole) whole_fits;
      few = subst (λ (l : List Todo). length l ≤ 2000000) (sym whole) (whole_few few_pairs few_ops).0;
      few_steps = subst (λ (l : List Todo). steps_in_all l ≤ 16000000) (sym whole) (whole_few few_pairs few_ops).1;
    }

-- The stages of a circuit for as many pairs as there are sites, by the laws of right stages.
pub staging_of : (a : Architecture) (c : NativeCircuit) (s : Staging) → IsStaging s → s.circuit ≡ c → s.sites ≡ site_count a → NumbersFollow s.circuit.ops s.numbers →
    ((t : ℕ) (numbers : List ℕ) → slice_get s.pairs t ≡ Some numbers → (1 ≤ length numbers) × (length numbers ≤ s.sites)) → IsStagingOf a c s
staging_of a c s right circuit sites follow filled = record {
  right = right;
  circuit = circuit;
  sites = sites;
  follow = follow;
  few = all_from_places (λ numbers. length numbers ≤ s.sites) s.pairs (λ t numbers at. (filled t numbers at).1);
  some = all_from_places (λ numbers. 1 ≤ length numbers) s.pairs (λ t numbers at. (filled t numbers at).0);
}
