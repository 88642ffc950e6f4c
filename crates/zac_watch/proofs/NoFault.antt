-- A program that replays a circuit has no fault.
use Rattle.std.proofs.Common.{◌≡◌, ℕ, zero, suc, ◌+◌, ◌≤◌, inl, inr, List, [], ◌∷◌, ◌++◌, Some, length, take, get_or, slice_get, refl, ap, sym, ◌∙◌, subst, arith, append_assoc}
use Rattle.std.specs.List.{All}
use Rattle.std.proofs.lemmas.List.{take-append-le}
use Rattle.std.proofs.lemmas.Option.{same_Some, slice_get_within, get_or_from_slice_get}
use Rattle.zac_arch.specs.Architecture.{Architecture}
use Rattle.zac_arch.specs.declared.place.TrapId.{TrapId}
use Rattle.zac_gates.specs.declared.circuit.Op.{Op}
use Rattle.zac_gates.specs.declared.checklist.CheckFault.{CheckFault}
use Rattle.zac_gates.specs.declared.checklist.CheckFault.TheVariants.{Content, Again, Early}
use Rattle.zac_gates.specs.Checklist.{CanPerform, IsMissing, IsPerformable, IsRefused}
use Rattle.zac_gates.specs.Log.{Entry, Realises}
use Rattle.zac_gates.specs.Ops.{NativeCircuit}
use Rattle.zac_gates.proofs.Performing.{performable_by_realising}
use Rattle.zair_form.specs.declared.step.Step.{Step}
use Rattle.zair_form.specs.declared.program.Instr.{Instr}
use Rattle.zair_form.specs.Steps.{homes}
use Rattle.zair_form.specs.Times.{HasLength, Timed}
use Rattle.zair_machine.specs.Machine.{IsWrongHome}
use Rattle.zair_state.specs.declared.fault.MachineFault.{MachineFault}
use Rattle.zair_state.specs.Homes.{AreHomes}
use Rattle.zair_state.specs.Legal.{IsLegal}
use Rattle.zair_state.specs.Orders.{IsNamedOrder}
use Rattle.zair_state.specs.Performs.{steps_in, Performs}
use Rattle.zair_state.specs.Result.{after}
use Rattle.zair_state.specs.Run.{IsLegalRun, after_all, entries, log_of}
use Rattle.zair_state.specs.State.{State, opening}
use Rattle.zair_state.proofs.Membership.{any_from_contained}
use Rattle.zac_watch.specs.declared.fault.ReplayFault.{ReplayFault}
use Rattle.zac_watch.specs.declared.fault.ReplayFault.TheVariants.{Qubits, Home, Length, Machine, Check, Missing, Memory}
use Rattle.zac_watch.specs.Replaying.{IsFirstRefused, IsFirstWrongLength, IsReplayFault, Replays}
use Rattle.zac_watch.specs.Watching.{IsFirstIllegal}
use Rattle.zac_watch.proofs.OneOrder.{named_orders_same}

-- each step of a legal run is legal
legal_at : (a : Architecture) (s : State) (steps : List Step) (n : ℕ) (t : Step) → IsLegalRun a s steps → slice_get steps n ≡ Some t → IsLegal a (after_all s (take n steps)) t
legal_at a s [] n t run is = absurd (let w = slice_get_within [] n t is in omega arith)
legal_at a s (u ∷ steps) zero t run is = subst (IsLegal a s) (same_Some u t is) run.0
legal_at a s (u ∷ steps) (suc n) t run is = legal_at a (after s u) steps n t run.1 is

pub none_illegal : (a : Architecture) (s : State) (steps : List Step) (n : ℕ) (fault : MachineFault) → IsLegalRun a s steps → ¬ IsFirstIllegal a s steps n fault
none_illegal a s steps n fault run illegal = illegal.illegal (legal_at a s steps n illegal.step run illegal.here)

-- an op that can be performed isn't refused
not_refused : (ops : List Op) (log : List Entry) (n : ℕ) (what : Op) (fault : CheckFault) → CanPerform ops log n what → ¬ IsRefused ops log n what fault
not_refused ops log n what (Content op) can refused = elim refused.1 [ inl other ↦ other can.listed.0 | inr fence ↦ can.listed.1 fence ]
not_refused ops log n what (Again op) can refused = can.once refused.2
not_refused ops log n what (Early op waits) can refused = refused.3.open_yet (can.ready waits refused.3.must)

-- the log round the entries of a step
log_split : (steps : List Step) (n : ℕ) (t : Step) → slice_get steps n ≡ Some t → (rest : List Entry) × (log_of steps ≡ log_of (take n steps) ++ (entries t ++ rest))
log_split [] n t is = absurd (let w = slice_get_within [] n t is in omega arith)
log_split (u ∷ steps) zero t is = (log_of steps, ap (λ (v : Step). entries v ++ log_of steps) (same_Some u t is))
log_split (u ∷ steps) (suc n) t is =
    let tail = log_split steps n t is in
    (tail.0, ap (λ (l : List Entry). entries u ++ l) tail.1 ∙ sym (append_assoc (entries u) (log_of (take n steps)) (entries t ++ tail.0)))

get_first : {X : Type 0} (xs ys : List X) (k : ℕ) (x : X) → slice_get xs k ≡ Some x → slice_get (xs ++ ys) k ≡ Some x
get_first [] ys k x is = absurd (let w = slice_get_within [] k x is in omega arith)
get_first (z ∷ xs) ys zero x is = is
get_first (z ∷ xs) ys (suc k) x is = get_first xs ys k x is

get_inside : {X : Type 0} (xs ys zs : List X) (k n : ℕ) (x : X) → n ≡ length xs + k → slice_get ys k ≡ Some x → slice_get (xs ++ (ys ++ zs)) n ≡ Some x
get_inside [] ys zs k n x at is = ap (slice_get (ys ++ zs)) (let e : n ≡ k = omega (arith, at) in e) ∙ get_first ys zs k x is
get_inside (w ∷ xs) ys zs k zero x at is = absurd (omega (arith, at))
get_inside (w ∷ xs) ys zs k (suc n) x at is = get_inside xs ys zs k n x (omega (arith, at)) is

take_inside : {X : Type 0} (xs ys zs : List X) (k n : ℕ) → n ≡ length xs + k → k ≤ length ys → take n (xs ++ (ys ++ zs)) ≡ xs ++ take k ys
take_inside {X} [] ys zs k n at within = ap (λ (i : ℕ). take i (ys ++ zs)) (let e : n ≡ k = omega (arith, at) in e) ∙ take-append-le k ys zs within
take_inside (w ∷ xs) ys zs k zero at within = absurd (omega (arith, at))
take_inside {X} (w ∷ xs) ys zs k (suc n) at within = ap (λ (l : List X). w ∷ l) (take_inside xs ys zs k n (omega (arith, at)) within)

none_refused : (a : Architecture) (c : NativeCircuit) (s : State) (steps : List Step) (n : ℕ) (fault : CheckFault) → Realises c.ops (log_of steps) → ¬ IsFirstRefused a c s steps n fault
none_refused a c s steps n fault realises first =
    let split = log_split steps n first.step first.here in
    let before : List Entry = log_of (take n steps) in
    let own : List Entry = entries first.step in
    let k = first.refused.place in
    let e = first.refused.entry in
    let whole : List Entry = before ++ (own ++ split.0) in
    let performable : IsPerformable c.ops whole = subst (IsPerformable c.ops) split.1 (performable_by_realising c.ops (log_of steps) realises) in
    let within : k ≤ length own = omega (arith, slice_get_within own k e first.refused.here) in
    let can = performable (length before + k) e (get_inside before own split.0 k (length before + k) e refl first.refused.here) in
    let here = subst (λ (l : List Entry). CanPerform c.ops l e.op e.what) (take_inside before own split.0 k (length before + k) refl within) can in
    not_refused c.ops (before ++ take k own) e.op e.what fault here first.refused.refused

none_missing : (ops : List Op) (log : List Entry) (n : ℕ) → Realises ops log → ¬ IsMissing ops log n
none_missing ops log n realises missing =
    missing.open_yet
    (any_from_contained (λ (e : Entry). e.op ≡ n) log (record { op = n; what = missing.what }) (realises.whole n missing.what missing.listed.0 missing.listed.1) refl)

pub none_wrong : (a : Architecture) (qubits : ℕ) (traps : List TrapId) (q : ℕ) → AreHomes a qubits traps → ¬ IsWrongHome a traps q
none_wrong a qubits traps q are wrong =
    let home = wrong.0 in
    let within = slice_get_within traps q home wrong.1 in
    let at : get_or traps q home ≡ home = get_or_from_slice_get traps q home home wrong.1 in
    elim wrong.2 [
      | inl far ↦
          let low = are.in_storage q home within in
          omega (arith, far, low, ap (λ (t : TrapId). t.0) at)
      | inr earlier ↦ are.distinct earlier.0 q home earlier.1 within (get_or_from_slice_get traps earlier.0 home home earlier.2 ∙ sym at)
    ]

none_long : (a : Architecture) (program : List Instr) (n : ℕ) → All (HasLength a.figures) program → ¬ IsFirstWrongLength a.figures program n
none_long a program n lengths first =
    let within = slice_get_within program n first.instr first.here in
    first.wrong (subst (HasLength a.figures) (get_or_from_slice_get program n first.instr first.instr first.here) (lengths n first.instr within))

-- a program that replays a circuit has no fault but want of memory
pub only_memory : (a : Architecture) (c : NativeCircuit) (program : List Instr) (number : ℕ) (fault : ReplayFault) →
    Replays a c program number → IsReplayFault a c program fault → fault ≡ Memory
only_memory a c program number (Qubits text source) replays told =
    absurd (told.2 (told.0 ∙ replays.timely.homes_are.each ∙ sym told.1))
only_memory a c program number (Home q) replays told = absurd (none_wrong a c.qubits (homes program) q replays.timely.homes_are told.1.0)
only_memory a c program number (Length i) replays told = absurd (none_long a program i replays.timely.lengths told.1)
only_memory a c program number (Machine n fault) replays told =
    let same = named_orders_same a.figures program told.0 replays.order told.1.named replays.timely.named in
    absurd (none_illegal a (opening a (homes program)) (steps_in replays.order) n fault replays.legal
    (subst (λ (o : List Timed). IsFirstIllegal a (opening a (homes program)) (steps_in o) n fault) same told.3))
only_memory a c program number (Check n fault) replays told =
    let same = named_orders_same a.figures program told.0 replays.order told.1.named replays.timely.named in
    absurd (none_refused a c (opening a (homes program)) (steps_in replays.order) n fault replays.realises
    (subst (λ (o : List Timed). IsFirstRefused a c (opening a (homes program)) (steps_in o) n fault) same told.2))
only_memory a c program number (Missing op) replays told =
    let same = named_orders_same a.figures program told.0 replays.order told.1.named replays.timely.named in
    absurd (none_missing c.ops (log_of (steps_in replays.order)) op replays.realises
    (subst (λ (o : List Timed). IsMissing c.ops (log_of (steps_in o)) op) same told.3))
only_memory a c program number Memory replays told = refl

-- a program that performs a circuit replays it
pub performing_replays : (a : Architecture) (c : NativeCircuit) (program : List Instr) → Performs a c program → (number : ℕ) × Replays a c program number
performing_replays a c program performs =
    let order : List Timed = performs.named.0 in
    let safe = performs.orders order performs.named.1 in (
      length order,
      record {
        order = order;
        timely = record { homes_are = performs.homes; lengths = performs.lengths; named = performs.named.2 };
        legal = safe.legal;
        realises = safe.realises;
        counted = refl;
      },
    )

-- no step of the named order is illegal
pub none_illegal_in_order : (a : Architecture) (c : NativeCircuit) (program : List Instr) (order : List Timed) (n : ℕ) (fault : MachineFault) →
    Performs a c program → IsNamedOrder a.figures program order → ¬ IsFirstIllegal a (opening a (homes program)) (steps_in order) n fault
none_illegal_in_order a c program order n fault performs named illegal =
    let own : List Timed = performs.named.0 in
    let same = named_orders_same a.figures program order own named performs.named.2 in
    none_illegal a (opening a (homes program)) (steps_in own) n fault (performs.orders own performs.named.1).legal
    (subst (λ (o : List Timed). IsFirstIllegal a (opening a (homes program)) (steps_in o) n fault) same illegal)
