-- The next instruction.
use Rattle.std.proofs.Common.{◌≡◌, ℕ, zero, suc, ◌+◌, ◌*◌, ◌<◌, ◌≤◌, ◌⊎◌, inl, inr, List, [], ◌∷◌, ◌++◌, length, get_or, map, replicate, refl, sym, ap, ◌∙◌, subst, arith}
use Rattle.std.proofs.lemmas.Bool.{cases_lt}
use Rattle.std.proofs.lemmas.List.Elements.{All-cons, All-nil, All-weaker}
use Rattle.zac_arch.specs.Architecture.{Architecture, trap_count}
use Rattle.zac_arch.specs.declared.card.Figures.{Figures}
use Rattle.zac_arch.specs.declared.place.TrapId.{TrapId}
use Rattle.zair_form.specs.Steps.{steps_of}
use Rattle.zair_form.specs.Times.{LastTogether}
use Rattle.zair_form.specs.declared.program.Act.{Act}
use Rattle.zair_form.specs.declared.program.Instr.{Instr}
use Rattle.zair_form.specs.declared.step.OneGate.{OneGate}
use Rattle.zair_form.specs.declared.step.Step.{Step}
use Rattle.zair_form.specs.declared.step.Step.TheVariants.{One}
use Rattle.zair_state.specs.Resources.{Conflict, Uses}
use Rattle.zair_state.specs.Resources.Resource.{Laser, Aod, Qubit}
use Rattle.zac_sched.specs.Ends.{AreEnds, AreMarked, GoesOn, HasRoom, IsFirstLeast, IsFreeFrom, IsLatest, IsPulseOrInit, TakesTrap, TakesZoneTrap}
use Rattle.zac_sched.specs.Schedule.{IsFreeFirst, start}
use Rattle.zac_sched.specs.Todos.{act_on}
use Rattle.zac_sched.specs.declared.ends.Ends.{Ends}
use Rattle.zac_sched.specs.declared.todo.Todo.{Todo}
use Rattle.zac_sched.proofs.Changing.{as_last_end, as_latest}
use Rattle.zac_sched.proofs.Latest.{one_latest, latest_most}

at_most_or_above : (m n : ℕ) → (m ≤ n) ⊎ (n < m)
at_most_or_above m n = grind arith

below_or_same : (m n j : ℕ) → m ≤ n → (m < n) ⊎ ((m ≡ n) × (0 ≤ suc j))
below_or_same m n j le = elim (cases_lt m n) [ inl lt ↦ inl lt | inr ge ↦ inr (omega arith, omega arith) ]

not_above : (m n j k : ℕ) → (m < n) ⊎ ((m ≡ n) × (k ≤ j)) → m ≤ n
not_above m n j k (inl lt) = omega arith
not_above m n j k (inr e) = let same : m ≡ n = e.0 in omega arith

-- of some numbers one is the first of the least
one_more_least : (n : ℕ) (ns : List ℕ) (k : ℕ) → IsFirstLeast ns k → (j : ℕ) × IsFirstLeast (n ∷ ns) j
one_more_least n ns k h = elim (at_most_or_above n (get_or ns k 0)) [
  | inl low ↦ (0, record { within = omega arith; least = first n ns k h low })
  | inr less ↦ (suc k, record { within = omega (arith, h.within); least = later n ns k h less })
]
  where
    first : (n : ℕ) (ns : List ℕ) (k : ℕ) → IsFirstLeast ns k → n ≤ get_or ns k 0 → (j : ℕ) → j < length (n ∷ ns) → (n < get_or (n ∷ ns) j 0) ⊎ ((n ≡ get_or (n ∷ ns) j 0) × (0 ≤ j))
    first n ns k h le zero within = inr (refl, omega arith)
    first n ns k h le (suc j) within = below_or_same n (get_or ns j 0) j (omega (arith, not_above (get_or ns k 0) (get_or ns j 0) j k (h.least j (omega arith))))

    later : (n : ℕ) (ns : List ℕ) (k : ℕ) → IsFirstLeast ns k → get_or ns k 0 < n → (j : ℕ) → j < length (n ∷ ns) → (get_or ns k 0 < get_or (n ∷ ns) j 0) ⊎ ((get_or ns k 0 ≡ get_or (n ∷ ns) j 0) × (suc k ≤ j))
    later n ns k h lt zero within = inl lt
    later n ns k h lt (suc j) within = elim (h.least j (omega arith)) [
      | inl below ↦ inl below
      | inr e ↦ inr (e.0, omega (arith, e.1))
    ]

only_least : (n j : ℕ) → j < 1 → (n < get_or (n ∷ []) j 0) ⊎ ((n ≡ get_or (n ∷ []) j 0) × (0 ≤ j))
only_least n zero within = inr (refl, omega arith)
only_least n (suc j) within = absurd (omega arith)

pub first_least : (ns : List ℕ) → 1 ≤ length ns → (k : ℕ) × IsFirstLeast ns k
first_least [] some = absurd (omega arith)
first_least (n ∷ []) some = (0, record { within = omega arith; least = only_least n })
first_least (n ∷ m ∷ ns) some = let r = first_least (m ∷ ns) (omega arith) in one_more_least n (m ∷ ns) r.0 r.1

-- it is the AOD that is free first
pub free_first_is : (a : Architecture) (earlier : List Instr) (ends : Ends) (k : ℕ) → AreEnds a earlier ends → IsFirstLeast ends.aods.items k → IsFreeFirst a earlier k
free_first_is a earlier ends k h least = record {
  known = omega (arith, least.within, h.aods_are);
  end = get_or ends.aods.items k 0;
  its_end = h.aods k (omega (arith, least.within, h.aods_are));
  least = λ other last known is.
      let same : get_or ends.aods.items other 0 ≡ last = one_latest (λ x. Uses a x (Aod other)) earlier (get_or ends.aods.items other 0) last
      (as_latest a earlier (Aod other) (get_or ends.aods.items other 0) (h.aods other known)) (as_latest a earlier (Aod other) last is) in
      elim (least.least other (omega (arith, h.aods_are))) [
        | inl below ↦ inl (omega arith)
        | inr e ↦ inr (e.0 ∙ same, e.1)
      ];
}

pub free_first_of : (a : Architecture) (earlier : List Instr) (ends : Ends) → 1 ≤ a.figures.aods → AreEnds a earlier ends → (k : ℕ) × IsFreeFirst a earlier k
free_first_of a earlier ends some h =
    let r = first_least ends.aods.items (omega (arith, h.aods_are)) in
    (r.0, free_first_is a earlier ends r.0 h r.1)

-- the instruction of an act is the next
pub goes_on : (a : Architecture) (old new : Ends) (todo : Todo) (act : Act) (begin lasts end : ℕ)
    → ((earlier : List Instr) → AreEnds a earlier old → (aod : ℕ) × IsFreeFirst a earlier aod × (act ≡ act_on aod todo))
    → ((earlier : List Instr) → AreEnds a earlier old → IsFreeFrom a earlier act begin)
    → LastTogether a.figures [] (steps_of act) lasts → end ≡ begin + lasts → AreMarked a old act end new
    → length new.qubits.items ≡ length old.qubits.items
    → GoesOn a old todo (record { begin = begin; end = end; act = act }) new
goes_on a old new todo act begin lasts end first free long ends marked kept = record {
  next = λ earlier h.
      let f = first earlier h in
      let r = free earlier h in
      record { aod = f.0; free_first = f.1; does = f.2; begins = record { all = r.all; some = r.some }; lasts = (lasts, ends, long) };
  ends = λ earlier h.
      let r = free earlier h in
      marked earlier begin h (All-weaker (λ e. Conflict a e.act act → e.end ≤ begin) (λ e. Conflict a e.act act → e.end ≤ end) (λ e f c. let le = f c in omega arith) earlier r.all);
  qubits = kept;
}

-- how long gates take
pub gates_last : (f : Figures) (earlier : List Step) (ones : List OneGate) → LastTogether f earlier (map (λ (g : OneGate). One g) ones) (f.one * length ones)
gates_last f earlier [] = omega arith
gates_last f earlier (g ∷ ones) = (f.one, f.one * length ones, grind arith, refl, gates_last f (earlier ++ One g ∷ []) ones)

-- one step
pub one_lasts : (t : ℕ) → t ≡ t + 0
one_lasts t = omega arith

-- at the start
zero_latest : (P : Act → Type 0) (i : Instr) → i.end ≡ 0 → IsLatest P (i ∷ []) 0
zero_latest P i e = record { all = All-cons (λ x. P x.act → x.end ≤ 0) i [] (λ _. omega arith) (All-nil (λ x. P x.act → x.end ≤ 0)); some = inl refl }

zero_at : (n k : ℕ) → let z : ℕ = 0 in get_or (replicate n z) k z ≡ z
zero_at zero k = refl
zero_at (suc n) zero = refl
zero_at (suc n) (suc k) = zero_at n k

latest_at : (P : Act → Type 0) (homes : List TrapId) (ns : List ℕ) (n k : ℕ) → ns ≡ replicate n 0 → IsLatest P (start homes ∷ []) (get_or ns k 0)
latest_at P homes ns n k e = subst (λ (m : ℕ). IsLatest P (start homes ∷ []) m) (sym (ap (λ (l : List ℕ). get_or l k 0) e ∙ zero_at n k)) (zero_latest P (start homes) refl)

length_of_replicate : {X : Type 0} (n : ℕ) (x : X) → length (replicate n x) ≡ n
length_of_replicate zero x = refl
length_of_replicate (suc n) x = ap suc (length_of_replicate n x)

pub ends_at_start : (a : Architecture) (ends : Ends) (qubits : ℕ) → ends.laser ≡ 0 → ends.zones ≡ 0 → ends.pulse ≡ 0
    → ends.aods.items ≡ replicate a.figures.aods 0 → ends.qubits.items ≡ replicate qubits 0 → ends.traps.items ≡ replicate (trap_count a) 0
    → (homes : List TrapId) → AreEnds a (start homes ∷ []) ends
ends_at_start a ends qubits laser zones pulse aods of_qubits traps homes =
    let earlier : List Instr = start homes ∷ [] in
    record {
      laser = as_last_end a earlier Laser ends.laser (subst (λ (m : ℕ). IsLatest (λ x. Uses a x Laser) earlier m) (sym laser) (zero_latest (λ x. Uses a x Laser) (start homes) refl));
      aods_are = ap length aods ∙ length_of_replicate a.figures.aods 0;
      aods = λ n within. as_last_end a earlier (Aod n) (get_or ends.aods.items n 0) (latest_at (λ x. Uses a x (Aod n)) homes ends.aods.items a.figures.aods n aods);
      qubits = λ q within. as_last_end a earlier (Qubit q) (get_or ends.qubits.items q 0) (latest_at (λ x. Uses a x (Qubit q)) homes ends.qubits.items qubits q of_qubits);
      traps_are = ap length traps ∙ length_of_replicate (trap_count a) 0;
      traps = λ t within. latest_at (TakesTrap a t) homes ends.traps.items (trap_count a) t traps;
      zones = subst (λ (m : ℕ). IsLatest (TakesZoneTrap a) earlier m) (sym zones) (zero_latest (TakesZoneTrap a) (start homes) refl);
      pulse = subst (λ (m : ℕ). IsLatest IsPulseOrInit earlier m) (sym pulse) (zero_latest IsPulseOrInit (start homes) refl);
    }

-- there is room for one more
pub begins_low : (a : Architecture) (old : Ends) (act : Act) (begin : ℕ) → HasRoom a old → ((earlier : List Instr) → AreEnds a earlier old → IsFreeFrom a earlier act begin) → begin ≤ 16000000000000000
begins_low a old act begin room free = latest_most (λ x. Conflict a x act) room.0 begin 16000000000000000 room.2 (free room.0 room.1)

-- any AOD serves where there is no job
pub no_job : (a : Architecture) (old : Ends) (todo : Todo) (act : Act) → 1 ≤ a.figures.aods → ((aod : ℕ) → act ≡ act_on aod todo)
    → (earlier : List Instr) → AreEnds a earlier old → (aod : ℕ) × IsFreeFirst a earlier aod × (act ≡ act_on aod todo)
no_job a old todo act some is earlier h = let f = free_first_of a earlier old some h in (f.0, f.1, is f.0)
