-- What a checklist keeps stays right when one op more is performed.
use Rattle.std.proofs.Common.{◌≡◌, ◌≢◌, ℕ, zero, suc, ◌+◌, ◌<◌, ◌≤◌, ◌⊎◌, Bool, true, false, cond, List, [], ◌∷◌, ◌++◌, length, get_or, set, take, map, Some, refl, sym, ap, ◌∙◌, subst, inl, inr, ⊎_elim, arith}
use Rattle.std.specs.List.{slice_get, count_by}
use Rattle.std.proofs.lemmas.Bool.{cases_eq}
use Rattle.std.proofs.lemmas.List.{length-set, length-append, length-map, length-take-le, map-append}
use Rattle.std.proofs.lemmas.List.Sums.{count_by-le-length, sum_by-set}
use Rattle.std.proofs.lemmas.Option.{same_Some, slice_get_within, get_or_from_slice_get}
use Rattle.zac_gates.specs.declared.circuit.Op.{Op}
use Rattle.zac_gates.specs.declared.circuit.Op.TheVariants.{One, Two, Fence, Read}
use Rattle.zac_gates.specs.declared.waiting.Progress.{Progress}
use Rattle.zac_gates.specs.declared.waiting.Links.{Links}
use Rattle.zac_gates.specs.Ops.{NativeCircuit, IsValid, IsInRange, MustFollow, is_gate, is_read}
use Rattle.zac_gates.specs.Log.{Entry, Realises}
use Rattle.zac_gates.specs.Checklist.{Checking, IsPerformed, IsListedAs, CanPerform, IsAwaited, IsMissing}
use Rattle.zac_gates.specs.Waiting.{passes, IsProgress, IsMarked, IsUnmarked, IsClosed, IsReady, IsLeastUnmarked, AreMarks, IsChecking, HasQubitsBelow, gate_qubits, log_of}
use Rattle.zac_gates.proofs.Performing.{place_of, performed_from, place_take, realised_by_performing}
use Rattle.zac_gates.proofs.WaitingFacts.{mark_same, mark_other, closed_mark, open_parts, passing}

abbrev pub entry : ℕ → Op → Entry
entry n what = record { op = n; what = what }

-- what a marked op must follow is marked
pub closed_by_marks : (ops : List Op) (marks : List Bool) (log : List Entry) → AreMarks ops marks log → IsClosed ops marks
closed_by_marks ops marks log are j k must marked =
    let p = place_of log k ((are.marked k).0 marked) in
    let before = (are.performable p.place p.entry p.is).ready j (subst (λ (n : ℕ). MustFollow ops j n) (sym p.op) must) in
    (are.marked j).1 (performed_from log j (place_take log p.place j before).0)

-- an op without a mark was not performed
pub not_performed : (ops : List Op) (marks : List Bool) (log : List Entry) (n : ℕ) → AreMarks ops marks log → IsUnmarked marks n → ¬ IsPerformed log n
not_performed ops marks log n are unmarked performed =
    let marked : IsMarked marks n = (are.marked n).1 performed in cc

-- an op that waits for none can be performed
pub can_be_performed : (ops : List Op) (marks : List Bool) (log : List Entry) (n : ℕ) (what : Op) → AreMarks ops marks log → IsListedAs ops n what → IsUnmarked marks n → IsReady ops marks n → CanPerform ops log n what
can_be_performed ops marks log n what are listed unmarked ready =
    record {
      listed = listed;
      once = not_performed ops marks log n are unmarked;
      ready = λ k must. (are.marked k).0 (ready k must);
    }

pub awaited : (ops : List Op) (marks : List Bool) (log : List Entry) (n waits : ℕ) → AreMarks ops marks log → IsLeastUnmarked ops marks n waits → IsAwaited ops log n waits
awaited ops marks log n waits are least =
    record {
      must = least.must;
      open_yet = not_performed ops marks log waits are least.unmarked;
      least = λ k lt must. (are.marked k).0 (least.least k lt must);
    }

count_set : (marks : List Bool) (n : ℕ) → n < length marks → get_or marks n false ≡ false → count_by (λ (b : Bool). b) (set marks n true) ≡ count_by (λ (b : Bool). b) marks + 1
count_set marks n lt off =
    let one : Bool → ℕ = λ b. cond b 1 0 in
    let none : one (get_or marks n false) ≡ 0 = ap one off in
    omega (arith, sum_by-set one marks n true false lt, none)

pub count_below : (marks : List Bool) (n : ℕ) → n < length marks → get_or marks n false ≡ false → count_by (λ (b : Bool). b) marks < length marks
count_below marks n lt off =
    omega (arith, count_set marks n lt off, count_by-le-length (λ (b : Bool). b) (set marks n true), length-set marks n true)

slice_get_pushed : {X : Type 0} (xs : List X) (y : X) (k : ℕ) (x : X) → slice_get (xs ++ y ∷ []) k ≡ Some x → (slice_get xs k ≡ Some x) ⊎ ((k ≡ length xs) × (x ≡ y))
slice_get_pushed [] y zero x is = inr (refl, sym (same_Some y x is))
slice_get_pushed [] y (suc k) x is = cc
slice_get_pushed (z ∷ xs) y zero x is = inl is
slice_get_pushed (z ∷ xs) y (suc k) x is =
    ⊎_elim (λ l. inl l) (λ r. inr (ap suc r.0, r.1)) (slice_get_pushed xs y k x is)

slice_get_left : {X : Type 0} (xs : List X) (y : X) (k : ℕ) (x : X) → slice_get xs k ≡ Some x → slice_get (xs ++ y ∷ []) k ≡ Some x
slice_get_left [] y k x is = cc
slice_get_left (z ∷ xs) y zero x is = is
slice_get_left (z ∷ xs) y (suc k) x is = slice_get_left xs y k x is

slice_get_last : {X : Type 0} (xs : List X) (y : X) → slice_get (xs ++ y ∷ []) (length xs) ≡ Some y
slice_get_last [] y = refl
slice_get_last (z ∷ xs) y = slice_get_last xs y

take_pushed : {X : Type 0} (xs : List X) (y : X) (k : ℕ) → k ≤ length xs → take k (xs ++ y ∷ []) ≡ take k xs
take_pushed [] y zero le = refl
take_pushed [] y (suc k) le = absurd (omega arith)
take_pushed (x ∷ xs) y zero le = refl
take_pushed (x ∷ xs) y (suc k) le = ap (λ (l : List _). x ∷ l) (take_pushed xs y k (omega arith))

take_whole : {X : Type 0} (xs : List X) → take (length xs) xs ≡ xs
take_whole [] = refl
take_whole (x ∷ xs) = ap (λ (l : List _). x ∷ l) (take_whole xs)

-- one op more is performed
pub marks_after : (ops : List Op) (marks : List Bool) (log : List Entry) (n : ℕ) (what : Op) → length marks ≡ length ops → AreMarks ops marks log → CanPerform ops log n what → IsUnmarked marks n →
    AreMarks ops (set marks n true) (log ++ entry n what ∷ [])
marks_after ops marks log n what len are can unmarked =
    let n_in : n < length marks = omega (arith, len, slice_get_within ops n what can.listed.0) in
    let e : Entry = record { op = n; what = what } in
    record {
      performable = λ k x is. ⊎_elim
          (λ (old : slice_get log k ≡ Some x).
          let within = slice_get_within log k x old in
          subst (λ (l : List Entry). CanPerform ops l x.op x.what) (sym (take_pushed log e k (omega (arith, within)))) (are.performable k x old))
          (λ (new : (k ≡ length log) × (x ≡ e)).
          let whole : take k (log ++ e ∷ []) ≡ log = take_pushed log e k (omega (arith, new.0)) ∙ ap (λ (i : ℕ). take i log) new.0 ∙ take_whole log in
          subst (λ (l : List Entry). CanPerform ops l x.op x.what) (sym whole) (subst (λ (y : Entry). CanPerform ops log y.op y.what) (sym new.1) can))
          (slice_get_pushed log e k x is);
      marked = λ m. (
        λ marked. ⊎_elim
            (λ (same : m ≡ n). performed_from (log ++ e ∷ []) m (record { place = length log; entry = e; is = slice_get_last log e; op = sym same }))
            (λ apart.
            let p = place_of log m ((are.marked m).0 (sym (mark_other ops marks n n_in m apart) ∙ marked)) in
            performed_from (log ++ e ∷ []) m (record { place = p.place; entry = p.entry; is = slice_get_left log e p.place p.entry p.is; op = p.op }))
            (cases_eq m n),
        λ performed.
            let p = place_of (log ++ e ∷ []) m performed in
            ⊎_elim
            (λ (same : m ≡ n). ap (λ (i : ℕ). get_or (set marks n true) i false) same ∙ mark_same ops marks n n_in)
            (λ apart. ⊎_elim
            (λ (old : slice_get log p.place ≡ Some p.entry).
            mark_other ops marks n n_in m apart ∙ (are.marked m).1 (performed_from log m (record { place = p.place; entry = p.entry; is = old; op = p.op })))
            (λ (new : (p.place ≡ length log) × (p.entry ≡ e)). absurd (apart (sym p.op ∙ ap (λ (y : Entry). y.op) new.1)))
            (slice_get_pushed log e p.place p.entry p.is))
            (cases_eq m n),
      );
      count = length-append log (e ∷ []) ∙ omega (arith, are.count, count_set marks n n_in unmarked);
    }

-- nothing was performed
pub marks_none : (ops : List Op) (marks : List Bool) → ((k : ℕ) → IsUnmarked marks k) → AreMarks ops marks []
marks_none ops marks unmarked =
    record {
      performable = λ k e is. absurd (omega (arith, slice_get_within [] k e is));
      marked = λ n. (λ marked. let off = unmarked n in cc, λ performed. absurd (omega (arith, performed.2)));
      count = sym (count_none marks unmarked);
    }
  where
    count_none : (marks : List Bool) → ((k : ℕ) → IsUnmarked marks k) → count_by (λ (b : Bool). b) marks ≡ 0
    count_none [] unmarked = refl
    count_none (true ∷ marks) unmarked = let off = unmarked 0 in cc
    count_none (false ∷ marks) unmarked = count_none marks (λ k. unmarked (suc k))

-- the log of one number more
pub log_more : (ops : List Op) (order : List ℕ) (count n : ℕ) (what : Op) → count < length order → slice_get ops n ≡ Some what →
    log_of ops (take (count + 1) (set order count n)) ≡ log_of ops (take count order) ++ entry n what ∷ []
log_more ops order count n what lt is =
    let at : ℕ → Entry = λ m. record { op = m; what = get_or ops m Fence } in
    let here : at n ≡ entry n what = ap (entry n) (get_or_from_slice_get ops n what Fence is) in
    let one : count + 1 ≡ suc count = omega arith in
    ap (λ (k : ℕ). map at (take k (set order count n))) one ∙ ap (λ (l : List ℕ). map at l) (take_set order count n lt) ∙ map-append at (take count order) (n ∷ []) ∙ ap (λ (e : Entry). map at (take count order) ++ e ∷ []) here
  where
    take_set : (order : List ℕ) (count n : ℕ) → count < length order → take (suc count) (set order count n) ≡ take count order ++ n ∷ []
    take_set [] count n lt = absurd (omega arith)
    take_set (m ∷ order) zero n lt = refl
    take_set (m ∷ order) (suc count) n lt = ap (λ (l : List ℕ). m ∷ l) (take_set order count n (omega arith))

pub length-log : (ops : List Op) (order : List ℕ) (count : ℕ) → count ≤ length order → length (log_of ops (take count order)) ≡ count
length-log ops order count le =
    let at : ℕ → Entry = λ n. record { op = n; what = get_or ops n Fence } in
    length-map (take count order) at ∙ length-take-le count order le

gate_no_fence : (op : Op) → is_gate op ≡ true → op ≢ Fence
gate_no_fence (One q angles) pass is = cc
gate_no_fence (Two a b) pass is = cc
gate_no_fence Fence pass is = cc
gate_no_fence (Read q bit) pass is = cc

read_no_fence : (op : Op) → is_read op ≡ true → op ≢ Fence
read_no_fence (One q angles) pass is = cc
read_no_fence (Two a b) pass is = cc
read_no_fence Fence pass is = cc
read_no_fence (Read q bit) pass is = cc

gate_or_read : (op : Op) → op ≢ Fence → (is_gate op ≡ true) ⊎ (is_read op ≡ true)
gate_or_read (One q angles) fence = inl refl
gate_or_read (Two a b) fence = inl refl
gate_or_read Fence fence = absurd (fence refl)
gate_or_read (Read q bit) fence = inr refl

-- below the first gate and the first read each op but the fences has a mark
pub all_marked_below : (ops : List Op) (p : Progress) → IsProgress ops p → (k : ℕ) (op : Op) → k < p.gate → k < p.read → IsListedAs ops k op → IsMarked p.marks.items k
all_marked_below ops p progress k op gate read listed =
    ⊎_elim
    (λ pass. closed_mark is_gate ops p.marks.items k (progress.gate.before k (omega arith) gate) (ap (passes is_gate) listed.0 ∙ pass))
    (λ pass. closed_mark is_read ops p.marks.items k (progress.read.before k (omega arith) read) (ap (passes is_read) listed.0 ∙ pass))
    (gate_or_read op listed.1)

-- the least op that is missing
pub missing : (ops : List Op) (p : Progress) (log : List Entry) (least : ℕ) → IsProgress ops p → AreMarks ops p.marks.items log → least ≤ p.gate → least ≤ p.read → ((least ≡ p.gate) ⊎ (least ≡ p.read)) →
    least < length ops → IsMissing ops log least
missing ops p log least progress are gate read which within =
    ⊎_elim
    (λ (e : least ≡ p.gate).
    let parts = open_parts is_gate ops p.marks.items p.gate (progress.gate.here (omega (arith, e))) in
    let x = passing is_gate ops p.gate parts.0 in
    subst (IsMissing ops log) (sym e)
    (record {
      what = x.op;
      listed = (x.is, gate_no_fence x.op x.pass);
      open_yet = not_performed ops p.marks.items log p.gate are parts.1;
      least = λ k op lt listed. (are.marked k).0 (all_marked_below ops p progress k op (omega (arith, e)) (omega (arith, e)) listed);
    }))
    (λ (e : least ≡ p.read).
    let parts = open_parts is_read ops p.marks.items p.read (progress.read.here (omega (arith, e))) in
    let x = passing is_read ops p.read parts.0 in
    subst (IsMissing ops log) (sym e)
    (record {
      what = x.op;
      listed = (x.is, read_no_fence x.op x.pass);
      open_yet = not_performed ops p.marks.items log p.read are parts.1;
      least = λ k op lt listed. (are.marked k).0 (all_marked_below ops p progress k op (omega (arith, e)) (omega (arith, e)) listed);
    }))
    which

-- the log of a checklist that has nothing open realises the list
pub all_performed : (ops : List Op) (p : Progress) (log : List Entry) → IsProgress ops p → AreMarks ops p.marks.items log → length ops ≤ p.gate → length ops ≤ p.read → Realises ops log
all_performed ops p log progress are gate read =
    realised_by_performing ops log are.performable
    (λ n what listed. let within = slice_get_within ops n what listed.0 in (are.marked n).0 (all_marked_below ops p progress n what (omega arith) (omega arith) listed))

-- the qubits of the gates of a circuit
pub qubits_below : (c : NativeCircuit) → IsValid c → HasQubitsBelow c.ops c.qubits
qubits_below c valid k op p is has = of_op op p (valid k op is).in_range has
  where
    of_op : (op : Op) (p : ℕ × ℕ) → IsInRange c.qubits c.bits op → gate_qubits op ≡ Some p → (p.0 < c.qubits) × (p.1 < c.qubits)
    of_op (One q angles) p within has = subst (λ (r : ℕ × ℕ). (r.0 < c.qubits) × (r.1 < c.qubits)) (same_Some (q, q) p has) (within, within)
    of_op (Two a b) p within has = subst (λ (r : ℕ × ℕ). (r.0 < c.qubits) × (r.1 < c.qubits)) (same_Some (a, b) p has) (within.0, within.1)
    of_op Fence p within has = cc
    of_op (Read q bit) p within has = cc

-- a checklist once an op was performed
module _ (c : NativeCircuit) (order : List ℕ) (count : ℕ) (links : Links) (p : Progress) (checking : IsChecking c order count links p) (n : ℕ) (what : Op) where
  pub order_has_room : IsListedAs c.ops n what → IsUnmarked p.marks.items n → count < length order
  order_has_room listed unmarked =
      let within : n < length p.marks.items = omega (arith, checking.progress_is.marks_len, slice_get_within c.ops n what listed.0) in
      omega (arith, checking.order_len, checking.marks_are.count, length-log c.ops order count checking.count_in, count_below p.marks.items n within unmarked, checking.progress_is.marks_len)

  pub can_be : IsListedAs c.ops n what → IsUnmarked p.marks.items n → IsReady c.ops p.marks.items n → CanPerform c.ops (log_of c.ops (take count order)) n what
  can_be listed unmarked ready = can_be_performed c.ops p.marks.items (log_of c.ops (take count order)) n what checking.marks_are listed unmarked ready

  pub checking_after : (later : Progress) → IsListedAs c.ops n what → IsUnmarked p.marks.items n → IsReady c.ops p.marks.items n → IsProgress c.ops later →
      later.marks.items ≡ set p.marks.items n true → length later.on_qubit.items ≡ length p.on_qubit.items → IsChecking c (set order count n) (count + 1) links later
  checking_after later listed unmarked ready progress marks qubits =
      let room = order_has_room listed unmarked in
      let log = log_of c.ops (take count order) in
      record {
        order_len = length-set order count n ∙ checking.order_len;
        count_in = omega (arith, room, length-set order count n);
        links_are = checking.links_are;
        progress_is = progress;
        qubits_are = qubits ∙ checking.qubits_are;
        marks_are =
            subst (λ (m : List Bool). AreMarks c.ops m (log_of c.ops (take (count + 1) (set order count n)))) (sym marks)
            (subst (λ (l : List Entry). AreMarks c.ops (set p.marks.items n true) l) (sym (log_more c.ops order count n what room listed.0))
            (marks_after c.ops p.marks.items log n what checking.progress_is.marks_len checking.marks_are (can_be listed unmarked ready) unmarked));
      }

-- the ops that a call reads are those of the checklist's circuit
pub ops_same : (ops : List Op) (given own : NativeCircuit) (now : Checking) → ops ≡ given.ops → now.circuit ≡ given → own ≡ now.circuit → ops ≡ own.ops
ops_same ops given own now read made is = read ∙ sym (ap (λ (v : NativeCircuit). v.ops) (is ∙ made))

-- a mark that was read as none
pub no_mark : (marks : List Bool) (n : ℕ) (read : Bool) → read ≡ get_or marks n read → read ≡ false → IsUnmarked marks n
no_mark marks n read is off = sym (subst (λ (b : Bool). b ≡ get_or marks n b) off is)

-- the qubits of the gates, by the number of first gates
pub in_range_of : (ops : List Op) (given own : NativeCircuit) (now : Checking) (qubits : ℕ) → IsValid given → ops ≡ given.ops → now.circuit ≡ given → own ≡ now.circuit → qubits ≡ own.qubits → HasQubitsBelow ops qubits
in_range_of ops given own now qubits valid read made is same =
    subst (λ (l : List Op). HasQubitsBelow l qubits) (sym read)
    (subst (λ (q : ℕ). HasQubitsBelow given.ops q) (sym (same ∙ ap (λ (v : NativeCircuit). v.qubits) (is ∙ made))) (qubits_below given valid))
