-- What an op waits for, by fences, by the next gates on its qubits, and by the first ops without a mark.
use Rattle.std.proofs.Common.{◌≡◌, ◌≢◌, ◌==◌, ℕ, zero, suc, ◌+◌, ◌<◌, ◌≤◌, ◌⊎◌, ◌↔◌, Bool, true, false, not, List, [], ◌∷◌, ◌++◌, length, get_or, set, Option, Some, None, refl, sym, ap, ◌∙◌, subst, inl, inr, ⊎_elim, arith}
use Rattle.std.specs.List.{slice_get}
use Rattle.std.specs.Option.{MatchOption}
use Rattle.std.proofs.lemmas.Bool.{cases_lt, cases_eq, cases_Bool, and_parts, and_from, and_left, and_right, or_cases, or_left, or_right, eqb-true, eq-eqb, not_from_true, not_from_false, false_from_ne_true}
use Rattle.std.proofs.lemmas.List.{get_or-set_same, get_or-set_other, length-set, get_or_append_left, get_or_push}
use Rattle.std.proofs.lemmas.Option.{same_Some, slice_get_within}
use Rattle.zac_gates.specs.declared.circuit.Op.{Op}
use Rattle.zac_gates.specs.declared.circuit.Op.TheVariants.{One, Two, Fence, Read}
use Rattle.zac_gates.specs.declared.waiting.Links.{Links}
use Rattle.zac_gates.specs.declared.waiting.Progress.{Progress}
use Rattle.zac_gates.specs.Ops.{MustFollow, Names, IsGate, IsRead, is_gate, is_read, is_fence, IsFencedBetween}
use Rattle.zac_gates.specs.Waiting.{gate_qubits, is_either, is_gate_on, passes, is_open, IsFirst, AreNext, AreNextFrom, AreLinks, IsProgress, IsMarked, IsUnmarked, IsClosed, IsReady, IsLeastUnmarked, passed_on}

-- the op at a place that passes a test
pub record Passing (test : Op → Bool) (ops : List Op) (k : ℕ) : Type 0 where
  pub op : Op
  pub is : slice_get ops k ≡ Some op
  pub pass : test op ≡ true

pub passing : (test : Op → Bool) (ops : List Op) (k : ℕ) → passes test (slice_get ops k) ≡ true → Passing test ops k
passing test ops k pass = by_case (slice_get ops k) refl pass
  where
    by_case : (o : Option Op) → slice_get ops k ≡ o → passes test o ≡ true → Passing test ops k
    by_case None is pass = cc
    by_case (Some op) is pass = record { op = op; is = is; pass = pass }

pub passes_at : (test : Op → Bool) (ops : List Op) (k : ℕ) (op : Op) → slice_get ops k ≡ Some op → test op ≡ true → passes test (slice_get ops k) ≡ true
passes_at test ops k op is pass = ap (passes test) is ∙ pass

-- tests and facts of one op
pub gate_from_test : (op : Op) → is_gate op ≡ true → IsGate op
gate_from_test (One q angles) pass = tt
gate_from_test (Two a b) pass = tt
gate_from_test Fence pass = cc
gate_from_test (Read q bit) pass = cc

pub test_from_gate : (op : Op) → IsGate op → is_gate op ≡ true
test_from_gate (One q angles) gate = refl
test_from_gate (Two a b) gate = refl
test_from_gate Fence gate = absurd gate
test_from_gate (Read q bit) gate = absurd gate

pub read_from_test : (op : Op) → is_read op ≡ true → IsRead op
read_from_test (One q angles) pass = cc
read_from_test (Two a b) pass = cc
read_from_test Fence pass = cc
read_from_test (Read q bit) pass = tt

pub test_from_read : (op : Op) → IsRead op → is_read op ≡ true
test_from_read (One q angles) read = absurd read
test_from_read (Two a b) read = absurd read
test_from_read Fence read = absurd read
test_from_read (Read q bit) read = refl

fence_from_test : (op : Op) → is_fence op ≡ true → op ≡ Fence
fence_from_test (One q angles) pass = cc
fence_from_test (Two a b) pass = cc
fence_from_test Fence pass = refl
fence_from_test (Read q bit) pass = cc

gate_of_qubits : (op : Op) (p : ℕ × ℕ) → gate_qubits op ≡ Some p → IsGate op
gate_of_qubits (One q angles) p is = tt
gate_of_qubits (Two a b) p is = tt
gate_of_qubits Fence p is = cc
gate_of_qubits (Read q bit) p is = cc

pub read_of_no_qubits : (op : Op) → gate_qubits op ≡ None → op ≢ Fence → IsRead op
read_of_no_qubits (One q angles) none fence = cc
read_of_no_qubits (Two a b) none fence = cc
read_of_no_qubits Fence none fence = absurd (fence refl)
read_of_no_qubits (Read q bit) none fence = tt

gate_is_no_read : (op : Op) → IsGate op → IsRead op → ⊥
gate_is_no_read (One q angles) gate read = read
gate_is_no_read (Two a b) gate read = read
gate_is_no_read Fence gate read = gate
gate_is_no_read (Read q bit) gate read = gate

either_left : (p : ℕ × ℕ) → is_either p.0 (Some p) ≡ true
either_left p = or_left (p.0 == p.0) (p.1 == p.0) (eq-eqb p.0 p.0 refl)

either_right : (p : ℕ × ℕ) → is_either p.1 (Some p) ≡ true
either_right p = or_right (p.0 == p.1) (p.1 == p.1) (eq-eqb p.1 p.1 refl)

either_cases : (p : ℕ × ℕ) (q : ℕ) → is_either q (Some p) ≡ true → (p.0 ≡ q) ⊎ (p.1 ≡ q)
either_cases p q either =
    ⊎_elim (λ e. inl (eqb-true p.0 q e)) (λ e. inr (eqb-true p.1 q e)) (or_cases (p.0 == q) (p.1 == q) either)

-- a gate on a qubit is a gate that names it
gate_on : (op : Op) (q : ℕ) → is_gate_on q op ≡ true → IsGate op × Names op q
gate_on (One p angles) q on = (tt, ⊎_elim (λ (e : p ≡ q). e) (λ (e : p ≡ q). e) (either_cases (p, p) q on))
gate_on (Two a b) q on = (tt, either_cases (a, b) q on)
gate_on Fence q on = cc
gate_on (Read p bit) q on = cc

on_gate : (op : Op) (q : ℕ) → IsGate op → Names op q → is_gate_on q op ≡ true
on_gate (One p angles) q gate names = or_left (p == q) (p == q) (eq-eqb p q names)
on_gate (Two a b) q gate names = ⊎_elim (λ (e : a ≡ q). or_left (a == q) (b == q) (eq-eqb a q e)) (λ (e : b ≡ q). or_right (a == q) (b == q) (eq-eqb b q e)) names
on_gate Fence q gate names = absurd gate
on_gate (Read p bit) q gate names = absurd gate

-- a gate must follow an earlier gate on one of its qubits
pub follows_shared : (ops : List Op) (k n q : ℕ) → k < n → passes (is_gate_on q) (slice_get ops k) ≡ true → passes (is_gate_on q) (slice_get ops n) ≡ true → MustFollow ops k n
follows_shared ops k n q lt on_k on_n =
    let x = passing (is_gate_on q) ops k on_k in
    let y = passing (is_gate_on q) ops n on_n in
    let gx = gate_on x.op q x.pass in
    let gy = gate_on y.op q y.pass in
    record { a = x.op; b = y.op; a_is = x.is; b_is = y.is; reason = inl (gx.0, gy.0, lt, inl (q, gx.1, gy.1)) }

pub follows_fenced : (ops : List Op) (k n : ℕ) (y : Op) → slice_get ops n ≡ Some y → IsGate y → passes is_gate (slice_get ops k) ≡ true → IsFencedBetween ops k n → MustFollow ops k n
follows_fenced ops k n y y_is gate open_gate fenced =
    let x = passing is_gate ops k open_gate in
    record { a = x.op; b = y; a_is = x.is; b_is = y_is; reason = inl (gate_from_test x.op x.pass, gate, omega (arith, fenced.1, fenced.2), inr fenced) }

-- why a gate must follow an op
pub gate_follows : (ops : List Op) (k n : ℕ) (y : Op) (p : ℕ × ℕ) → slice_get ops n ≡ Some y → gate_qubits y ≡ Some p → MustFollow ops k n →
    (k < n) × (passes is_gate (slice_get ops k) ≡ true) × ((passes (is_gate_on p.0) (slice_get ops k) ≡ true) ⊎ ((passes (is_gate_on p.1) (slice_get ops k) ≡ true) ⊎ IsFencedBetween ops k n))
gate_follows ops k n y p y_is qubits must =
    let same : must.b ≡ y = same_Some must.b y (sym must.b_is ∙ y_is) in
    ⊎_elim
    (λ gates. (
      gates.2,
      passes_at is_gate ops k must.a must.a_is (test_from_gate must.a gates.0),
      ⊎_elim
          (λ shared.
          let on_k = passes_at (is_gate_on shared.0) ops k must.a must.a_is (on_gate must.a shared.0 gates.0 shared.1) in
          let on_y : is_gate_on shared.0 y ≡ true = subst (λ (o : Op). is_gate_on shared.0 o ≡ true) same (on_gate must.b shared.0 gates.1 shared.2) in
          ⊎_elim
          (λ (e : p.0 ≡ shared.0). inl (subst (λ (q : ℕ). passes (is_gate_on q) (slice_get ops k) ≡ true) (sym e) on_k))
          (λ (e : p.1 ≡ shared.0). inr (inl (subst (λ (q : ℕ). passes (is_gate_on q) (slice_get ops k) ≡ true) (sym e) on_k)))
          (either_cases p shared.0 (sym (ap (is_either shared.0) qubits) ∙ on_y)))
          (λ fenced. inr (inr fenced))
          gates.3,
    ))
    (λ reads. absurd (gate_is_no_read y (gate_of_qubits y p qubits) (subst IsRead same reads.0)))
    must.reason

-- why a read must follow an op
pub read_follows : (ops : List Op) (k n : ℕ) (y : Op) → slice_get ops n ≡ Some y → IsRead y → MustFollow ops k n →
    (passes is_gate (slice_get ops k) ≡ true) ⊎ ((passes is_read (slice_get ops k) ≡ true) × (k < n))
read_follows ops k n y y_is read must =
    let same : must.b ≡ y = same_Some must.b y (sym must.b_is ∙ y_is) in
    ⊎_elim
    (λ gates. absurd (gate_is_no_read y (subst IsGate same gates.1) read))
    (λ reads. ⊎_elim
    (λ gate. inl (passes_at is_gate ops k must.a must.a_is (test_from_gate must.a gate)))
    (λ both. inr (passes_at is_read ops k must.a must.a_is (test_from_read must.a both.0), both.1))
    reads.1)
    must.reason

pub read_follows_gate : (ops : List Op) (k n : ℕ) (y : Op) → slice_get ops n ≡ Some y → IsRead y → passes is_gate (slice_get ops k) ≡ true → MustFollow ops k n
read_follows_gate ops k n y y_is read pass =
    let x = passing is_gate ops k pass in
    record { a = x.op; b = y; a_is = x.is; b_is = y_is; reason = inr (read, inl (gate_from_test x.op x.pass)) }

pub read_follows_read : (ops : List Op) (k n : ℕ) (y : Op) → slice_get ops n ≡ Some y → IsRead y → k < n → passes is_read (slice_get ops k) ≡ true → MustFollow ops k n
read_follows_read ops k n y y_is read lt pass =
    let x = passing is_read ops k pass in
    record { a = x.op; b = y; a_is = x.is; b_is = y_is; reason = inr (read, inr (read_from_test x.op x.pass, lt)) }

-- the places before which a fence stands, one place on
pub fenced_more : (ops : List Op) (k : ℕ) (op : Op) (last next : ℕ) → slice_get ops k ≡ Some op → ((i : ℕ) → IsFencedBetween ops i k ↔ (i < last)) →
    (is_fence op ≡ true → next ≡ k) → (is_fence op ≡ false → next ≡ last) → (i : ℕ) → IsFencedBetween ops i (k + 1) ↔ (i < next)
fenced_more ops k op last next is now here there i =
    ⊎_elim
    (λ (fence : is_fence op ≡ true).
    let next_is = here fence in (
      (λ (f : IsFencedBetween ops i (k + 1)). omega (arith, f.1, f.2, next_is)),
      (λ (lt : i < next). (k, omega (arith, next_is), omega arith, is ∙ ap (λ (o : Op). Some o) (fence_from_test op fence))),
    ))
    (λ (none : is_fence op ≡ false).
    let next_is = there none in (
      (λ (f : IsFencedBetween ops i (k + 1)).
          let apart : f.0 ≢ k = λ same. let it : op ≡ Fence = same_Some op Fence (sym is ∙ ap (slice_get ops) (sym same) ∙ f.3) in let test : is_fence op ≡ true = ap is_fence it in cc in
          let before = (now i).0 (f.0, f.1, omega (arith, f.2, apart), f.3) in
          omega (arith, next_is)),
      (λ (lt : i < next). let f = (now i).1 (omega (arith, next_is)) in (f.0, f.1, omega (arith, f.2), f.3)),
    ))
    (cases_Bool (is_fence op))

-- an open op passes the test and has no mark
pub open_parts : (test : Op → Bool) (ops : List Op) (marks : List Bool) (k : ℕ) → is_open test ops marks k ≡ true → (passes test (slice_get ops k) ≡ true) × IsUnmarked marks k
open_parts test ops marks k is =
    let parts = and_parts (passes test (slice_get ops k)) (not (get_or marks k false)) is in
    (parts.0, ⊎_elim (λ (m : get_or marks k false ≡ true). let n = not_from_true (get_or marks k false) m in cc) (λ (m : get_or marks k false ≡ false). m) (cases_Bool (get_or marks k false)))

pub open_from : (test : Op → Bool) (ops : List Op) (marks : List Bool) (k : ℕ) → passes test (slice_get ops k) ≡ true → IsUnmarked marks k → is_open test ops marks k ≡ true
open_from test ops marks k pass unmarked =
    and_from (passes test (slice_get ops k)) (not (get_or marks k false)) pass (not_from_false (get_or marks k false) unmarked)

-- what passes and isn't open has a mark
pub closed_mark : (test : Op → Bool) (ops : List Op) (marks : List Bool) (k : ℕ) → is_open test ops marks k ≡ false → passes test (slice_get ops k) ≡ true → IsMarked marks k
closed_mark test ops marks k shut pass =
    ⊎_elim (λ (m : get_or marks k false ≡ true). m)
    (λ (m : get_or marks k false ≡ false). let it = open_from test ops marks k pass m in cc)
    (cases_Bool (get_or marks k false))

pub closed_from_mark : (test : Op → Bool) (ops : List Op) (marks : List Bool) (k : ℕ) → IsMarked marks k → is_open test ops marks k ≡ false
closed_from_mark test ops marks k marked =
    and_right (passes test (slice_get ops k)) (not (get_or marks k false)) (not_from_true (get_or marks k false) marked)

pub closed_from_test : (test : Op → Bool) (ops : List Op) (marks : List Bool) (k : ℕ) → passes test (slice_get ops k) ≡ false → is_open test ops marks k ≡ false
closed_from_test test ops marks k fails =
    and_left (passes test (slice_get ops k)) (not (get_or marks k false)) fails

-- one mark more
module _ (ops : List Op) (marks : List Bool) (n : ℕ) (n_in : n < length marks) where
  pub mark_same : IsMarked (set marks n true) n
  mark_same = get_or-set_same marks n true false n_in

  pub mark_other : (k : ℕ) → k ≢ n → get_or (set marks n true) k false ≡ get_or marks k false
  mark_other k apart = get_or-set_other marks n k true false apart

  pub mark_stays : (k : ℕ) → IsMarked marks k → IsMarked (set marks n true) k
  mark_stays k marked =
      ⊎_elim (λ (e : k ≡ n). ap (λ (i : ℕ). get_or (set marks n true) i false) e ∙ mark_same) (λ apart. mark_other k apart ∙ marked) (cases_eq k n)

  pub shut_stays : (test : Op → Bool) (k : ℕ) → is_open test ops marks k ≡ false → is_open test ops (set marks n true) k ≡ false
  shut_stays test k shut =
      ⊎_elim (λ (pass : passes test (slice_get ops k) ≡ true). closed_from_mark test ops (set marks n true) k (mark_stays k (closed_mark test ops marks k shut pass)))
      (λ (fails : passes test (slice_get ops k) ≡ false). closed_from_test test ops (set marks n true) k fails)
      (cases_Bool (passes test (slice_get ops k)))

  pub open_stays : (test : Op → Bool) (k : ℕ) → k ≢ n → is_open test ops marks k ≡ true → is_open test ops (set marks n true) k ≡ true
  open_stays test k apart is =
      let parts = open_parts test ops marks k is in
      open_from test ops (set marks n true) k parts.0 (mark_other k apart ∙ parts.1)

  -- a first op that isn't the one marked stays the first
  pub front_kept : (test : Op → Bool) (f : ℕ) → f ≢ n → IsFirst (is_open test ops marks) 0 (length ops) f → IsFirst (is_open test ops (set marks n true)) 0 (length ops) f
  front_kept test f apart first =
      record {
        behind = first.behind;
        within = first.within;
        here = λ lt. open_stays test f apart (first.here lt);
        before = λ k low lt. shut_stays test k (first.before k low lt);
      }

  -- behind the first op that is marked stands the next one
  pub front_moved : (test : Op → Bool) (f next : ℕ) → f ≡ n → IsFirst (is_open test ops marks) 0 (length ops) f → IsFirst (is_open test ops marks) (n + 1) (length ops) next →
      IsFirst (is_open test ops (set marks n true)) 0 (length ops) next
  front_moved test f next same first later =
      record {
        behind = omega arith;
        within = later.within;
        here = λ lt. open_stays test next (λ e. omega (arith, later.behind, e)) (later.here lt);
        before = λ k low lt.
            ⊎_elim (λ (l : k < n). shut_stays test k (first.before k low (omega (arith, same))))
            (λ (l : n ≤ k). ⊎_elim
            (λ (e : k ≡ n). closed_from_mark test ops (set marks n true) k (ap (λ (i : ℕ). get_or (set marks n true) i false) e ∙ mark_same))
            (λ apart. shut_stays test k (later.before k (omega (arith, apart)) lt))
            (cases_eq k n))
            (cases_lt k n);
      }

-- a first gate on a qubit behind an op without a mark is the first one without a mark, where what a marked op must
-- follow is marked
pub next_is_open : (ops : List Op) (marks : List Bool) (n q next : ℕ) → IsClosed ops marks → IsUnmarked marks n → passes (is_gate_on q) (slice_get ops n) ≡ true →
    IsFirst (λ i. passes (is_gate_on q) (slice_get ops i)) (n + 1) (length ops) next → IsFirst (is_open (is_gate_on q) ops marks) (n + 1) (length ops) next
next_is_open ops marks n q next closed unmarked on first =
    record {
      behind = first.behind;
      within = first.within;
      here = λ lt. open_from (is_gate_on q) ops marks next (first.here lt)
          (false_from_ne_true (get_or marks next false) (λ marked.
          let m : IsMarked marks n = closed n next (follows_shared ops n next q (omega (arith, first.behind)) on (first.here lt)) marked in cc));
      before = λ k low lt. closed_from_test (is_gate_on q) ops marks k (first.before k low lt);
    }

-- the first gate on the qubit of an op that waits for nothing is that op
pub front_is : (ops : List Op) (marks : List Bool) (n q f : ℕ) → n < length ops → IsReady ops marks n → IsUnmarked marks n → passes (is_gate_on q) (slice_get ops n) ≡ true →
    IsFirst (is_open (is_gate_on q) ops marks) 0 (length ops) f → f ≡ n
front_is ops marks n q f n_in ready unmarked on first =
    ⊎_elim
    (λ (lt : f < n).
    let parts = open_parts (is_gate_on q) ops marks f (first.here (omega arith)) in
    let m : IsMarked marks f = ready f (follows_shared ops f n q lt parts.0 on) in
    absurd (let u : IsUnmarked marks f = parts.1 in cc))
    (λ (le : n ≤ f). ⊎_elim
    (λ (lt : n < f). absurd (let shut = first.before n (omega arith) lt in let is = open_from (is_gate_on q) ops marks n on unmarked in cc))
    (λ (le' : f ≤ n). omega arith)
    (cases_lt n f))
    (cases_lt f n)

-- no fence before an op stands behind it
pub fence_below : (ops : List Op) (links : Links) (n : ℕ) → AreLinks ops links → n < length ops → get_or links.fences.items n 0 ≤ n
fence_below ops links n are within =
    ⊎_elim (λ (lt : n < get_or links.fences.items n 0). let f = (are.fences n n within).1 lt in absurd (omega (arith, f.1, f.2))) (λ le. le) (cases_lt n (get_or links.fences.items n 0))

-- what a gate waits for
module _ (ops : List Op) (links : Links) (p : Progress) (n : ℕ) (y : Op) (qubits : ℕ × ℕ) (are : AreLinks ops links) (progress : IsProgress ops p) (n_in : n < length ops)
    (is : slice_get ops n ≡ Some y) (has : gate_qubits y ≡ Some qubits) (left_in : qubits.0 < length p.on_qubit.items) (right_in : qubits.1 < length p.on_qubit.items) where
  fence : ℕ
  fence = get_or links.fences.items n 0

  -- below such a number each op that the gate must follow has a mark
  gate_below : (w : ℕ) → (p.gate < get_or links.fences.items n 0 → w ≤ p.gate) → w ≤ get_or p.on_qubit.items qubits.0 0 → w ≤ get_or p.on_qubit.items qubits.1 0 →
      (k : ℕ) → k < w → MustFollow ops k n → IsMarked p.marks.items k
  gate_below w gate left right k lt must =
      let why = gate_follows ops k n y qubits is has must in
      ⊎_elim
      (λ on. closed_mark (is_gate_on qubits.0) ops p.marks.items k ((progress.on_qubit qubits.0 left_in).before k (omega arith) (omega arith)) on)
      (λ other. ⊎_elim
      (λ on. closed_mark (is_gate_on qubits.1) ops p.marks.items k ((progress.on_qubit qubits.1 right_in).before k (omega arith) (omega arith)) on)
      (λ fenced.
      let low : k < get_or links.fences.items n 0 = (are.fences k n n_in).0 fenced in
      ⊎_elim
      (λ (l : k < p.gate). closed_mark is_gate ops p.marks.items k (progress.gate.before k (omega arith) l) why.1)
      (λ (l : p.gate ≤ k). absurd (omega (arith, gate (omega arith))))
      (cases_lt k p.gate))
      other)
      why.2

  pub gate_awaited : (r : Option ℕ) (f a b : ℕ) → f ≡ get_or links.fences.items n 0 → a ≡ get_or p.on_qubit.items qubits.0 0 → b ≡ get_or p.on_qubit.items qubits.1 0 →
      MatchOption r ((f ≤ p.gate) × (n ≤ a) × (n ≤ b)) (λ w. (w < n) × (p.gate < f → w ≤ p.gate) × (w ≤ a) × (w ≤ b) × (((w ≡ p.gate) × (p.gate < f)) ⊎ ((w ≡ a) ⊎ (w ≡ b)))) →
      MatchOption r (IsReady ops p.marks.items n) (IsLeastUnmarked ops p.marks.items n)
  gate_awaited None f a b f_is a_is b_is said =
      λ k must. gate_below n (λ lt. absurd (omega (arith, said.0, f_is))) (omega (arith, said.1, a_is)) (omega (arith, said.2, b_is)) k ((gate_follows ops k n y qubits is has must).0) must
  gate_awaited (Some w) f a b f_is a_is b_is said =
      let below = gate_below w (λ lt. said.1 (omega (arith, f_is))) (omega (arith, said.2, a_is)) (omega (arith, said.3, b_is)) in
      let low : w < n = said.0 in
      let on_left : passes (is_gate_on qubits.0) (slice_get ops n) ≡ true = passes_at (is_gate_on qubits.0) ops n y is (ap (is_either qubits.0) has ∙ either_left qubits) in
      let on_right : passes (is_gate_on qubits.1) (slice_get ops n) ≡ true = passes_at (is_gate_on qubits.1) ops n y is (ap (is_either qubits.1) has ∙ either_right qubits) in
      ⊎_elim
      (λ (g : (w ≡ p.gate) × (p.gate < f)).
      let first : p.gate < length ops = omega (arith, g.0) in
      let parts = open_parts is_gate ops p.marks.items p.gate (progress.gate.here first) in
      record {
        must = subst (λ (k : ℕ). MustFollow ops k n) (sym g.0) (follows_fenced ops p.gate n y is (gate_of_qubits y qubits has) parts.0 ((are.fences p.gate n n_in).1 (omega (arith, g.1, f_is))));
        unmarked = subst (IsUnmarked p.marks.items) (sym g.0) parts.1;
        least = below;
      })
      (λ either. ⊎_elim
      (λ (e : w ≡ a).
      let same : w ≡ get_or p.on_qubit.items qubits.0 0 = e ∙ a_is in
      let parts = open_parts (is_gate_on qubits.0) ops p.marks.items (get_or p.on_qubit.items qubits.0 0) ((progress.on_qubit qubits.0 left_in).here (omega arith)) in
      record {
        must = follows_shared ops w n qubits.0 low (subst (λ (k : ℕ). passes (is_gate_on qubits.0) (slice_get ops k) ≡ true) (sym same) parts.0) on_left;
        unmarked = subst (IsUnmarked p.marks.items) (sym same) parts.1;
        least = below;
      })
      (λ (e : w ≡ b).
      let same : w ≡ get_or p.on_qubit.items qubits.1 0 = e ∙ b_is in
      let parts = open_parts (is_gate_on qubits.1) ops p.marks.items (get_or p.on_qubit.items qubits.1 0) ((progress.on_qubit qubits.1 right_in).here (omega arith)) in
      record {
        must = follows_shared ops w n qubits.1 low (subst (λ (k : ℕ). passes (is_gate_on qubits.1) (slice_get ops k) ≡ true) (sym same) parts.0) on_right;
        unmarked = subst (IsUnmarked p.marks.items) (sym same) parts.1;
        least = below;
      })
      either)
      said.4

-- what a read waits for
module _ (ops : List Op) (p : Progress) (n : ℕ) (y : Op) (progress : IsProgress ops p) (n_in : n < length ops) (is : slice_get ops n ≡ Some y) (read : IsRead y) where
  read_below : (w : ℕ) → w ≤ length ops → (p.gate < length ops → w ≤ p.gate) → (p.read < n → w ≤ p.read) → (k : ℕ) → k < w → MustFollow ops k n → IsMarked p.marks.items k
  read_below w w_in gate reads k lt must =
      ⊎_elim
      (λ pass. ⊎_elim
      (λ (l : k < p.gate). closed_mark is_gate ops p.marks.items k (progress.gate.before k (omega arith) l) pass)
      (λ (l : p.gate ≤ k). absurd (omega (arith, gate (omega arith))))
      (cases_lt k p.gate))
      (λ both. ⊎_elim
      (λ (l : k < p.read). closed_mark is_read ops p.marks.items k (progress.read.before k (omega arith) l) both.0)
      (λ (l : p.read ≤ k). absurd (omega (arith, reads (omega (arith, both.1)))))
      (cases_lt k p.read))
      (read_follows ops k n y is read must)

  pub read_awaited : (r : Option ℕ) →
      MatchOption r ((length ops ≤ p.gate) × (n ≤ p.read)) (λ w. (w < length ops) × (w ≤ p.gate) × (p.read < n → w ≤ p.read) × ((w ≡ p.gate) ⊎ ((w ≡ p.read) × (p.read < n)))) →
      MatchOption r (IsReady ops p.marks.items n) (IsLeastUnmarked ops p.marks.items n)
  read_awaited None said =
      λ k must. read_below (length ops) (omega arith) (λ lt. absurd (omega (arith, said.0))) (λ lt. absurd (omega (arith, said.1))) k (slice_get_within ops k must.a must.a_is) must
  read_awaited (Some w) said =
      let below = read_below w (omega (arith, said.0)) (λ lt. said.1) said.2 in
      ⊎_elim
      (λ (e : w ≡ p.gate).
      let parts = open_parts is_gate ops p.marks.items p.gate (progress.gate.here (omega (arith, said.0, e))) in
      record {
        must = subst (λ (k : ℕ). MustFollow ops k n) (sym e) (read_follows_gate ops p.gate n y is read parts.0);
        unmarked = subst (IsUnmarked p.marks.items) (sym e) parts.1;
        least = below;
      })
      (λ (e : (w ≡ p.read) × (p.read < n)).
      let parts = open_parts is_read ops p.marks.items p.read (progress.read.here (omega (arith, e.1))) in
      record {
        must = subst (λ (k : ℕ). MustFollow ops k n) (sym e.0) (read_follows_read ops p.read n y is read e.1 parts.0);
        unmarked = subst (IsUnmarked p.marks.items) (sym e.0) parts.1;
        least = below;
      })
      said.3

-- the first gates on the qubits behind an op that is performed
module _ (ops : List Op) (marks : List Bool) (on : List ℕ) (n : ℕ) (y : Op) (len : length marks ≡ length ops) (n_in : n < length ops) (is : slice_get ops n ≡ Some y)
    (firsts : (q : ℕ) → q < length on → IsFirst (is_open (is_gate_on q) ops marks) 0 (length ops) (get_or on q 0))
    (ready : IsReady ops marks n) (unmarked : IsUnmarked marks n) (closed : IsClosed ops marks) where
  kept_on : (q : ℕ) → q < length on → is_gate_on q y ≡ false → IsFirst (is_open (is_gate_on q) ops (set marks n true)) 0 (length ops) (get_or on q 0)
  kept_on q q_in off =
      let first = firsts q q_in in
      front_kept ops marks n (omega (arith, len)) (is_gate_on q) (get_or on q 0)
      (λ (e : get_or on q 0 ≡ n).
      let it : passes (is_gate_on q) (slice_get ops n) ≡ true = subst (λ (k : ℕ). passes (is_gate_on q) (slice_get ops k) ≡ true) e ((open_parts (is_gate_on q) ops marks (get_or on q 0) (first.here (omega (arith, e)))).0) in
      let no : passes (is_gate_on q) (slice_get ops n) ≡ false = ap (passes (is_gate_on q)) is ∙ off in cc)
      first

  moved_on : (q next : ℕ) → q < length on → is_gate_on q y ≡ true → IsFirst (λ i. passes (is_gate_on q) (slice_get ops i)) (n + 1) (length ops) next →
      IsFirst (is_open (is_gate_on q) ops (set marks n true)) 0 (length ops) next
  moved_on q next q_in here first =
      let on_n = passes_at (is_gate_on q) ops n y is here in
      front_moved ops marks n (omega (arith, len)) (is_gate_on q) (get_or on q 0) next (front_is ops marks n q (get_or on q 0) n_in ready unmarked on_n (firsts q q_in)) (firsts q q_in)
      (next_is_open ops marks n q next closed unmarked on_n first)

  pub firsts_after : (qubits : Option (ℕ × ℕ)) (next : ℕ × ℕ) → qubits ≡ gate_qubits y → ((p : ℕ × ℕ) → gate_qubits y ≡ Some p → (p.0 < length on) × (p.1 < length on) × AreNext ops n p next) →
      (q : ℕ) → q < length (passed_on on qubits next) → IsFirst (is_open (is_gate_on q) ops (set marks n true)) 0 (length ops) (get_or (passed_on on qubits next) q 0)
  firsts_after None next has nexts q q_in = kept_on q q_in (sym (ap (is_either q) has))
  firsts_after (Some p) next has nexts q q_in =
      let known = nexts p (sym has) in
      let First : ℕ → Type 0 = λ f. IsFirst (is_open (is_gate_on q) ops (set marks n true)) 0 (length ops) f in
      let q_low : q < length on = omega (arith, length-set (set on p.0 next.0) p.1 next.1, length-set on p.0 next.0) in
      ⊎_elim
      (λ (e : q ≡ p.1).
      let value : get_or (set (set on p.0 next.0) p.1 next.1) q 0 ≡ next.1 = ap (λ (i : ℕ). get_or (set (set on p.0 next.0) p.1 next.1) i 0) e ∙ get_or-set_same (set on p.0 next.0) p.1 next.1 0 (omega (arith, length-set on p.0 next.0, known.1)) in
      subst First (sym value)
      (subst (λ (r : ℕ). IsFirst (is_open (is_gate_on r) ops (set marks n true)) 0 (length ops) next.1) (sym e)
      (moved_on p.1 next.1 known.1 (sym (ap (is_either p.1) has) ∙ either_right p) known.2.1)))
      (λ other. ⊎_elim
      (λ (e : q ≡ p.0).
      let value : get_or (set (set on p.0 next.0) p.1 next.1) q 0 ≡ next.0 =
      get_or-set_other (set on p.0 next.0) p.1 q next.1 0 other ∙ ap (λ (i : ℕ). get_or (set on p.0 next.0) i 0) e ∙ get_or-set_same on p.0 next.0 0 known.0 in
      subst First (sym value)
      (subst (λ (r : ℕ). IsFirst (is_open (is_gate_on r) ops (set marks n true)) 0 (length ops) next.0) (sym e)
      (moved_on p.0 next.0 known.0 (sym (ap (is_either p.0) has) ∙ either_left p) known.2.0)))
      (λ apart.
      let value : get_or (set (set on p.0 next.0) p.1 next.1) q 0 ≡ get_or on q 0 = get_or-set_other (set on p.0 next.0) p.1 q next.1 0 other ∙ get_or-set_other on p.0 q next.0 0 apart in
      let off : is_gate_on q y ≡ false = false_from_ne_true (is_gate_on q y) (λ here. ⊎_elim (λ (e : p.0 ≡ q). apart (sym e)) (λ (e : p.1 ≡ q). other (sym e)) (either_cases p q (ap (is_either q) has ∙ here))) in
      subst First (sym value) (kept_on q q_low off))
      (cases_eq q p.0))
      (cases_eq q p.1)

-- one op more is linked, from the back
module _ (ops : List Op) (next : List (ℕ × ℕ)) (first : List ℕ) (k : ℕ) (y : Op) (k_in : k < length ops) (is : slice_get ops k ≡ Some y) (linked : AreNextFrom ops next first (k + 1)) where
  first_here : (q : ℕ) → is_gate_on q y ≡ true → IsFirst (λ i. passes (is_gate_on q) (slice_get ops i)) k (length ops) k
  first_here q on =
      record { behind = omega arith; within = omega arith; here = λ lt. passes_at (is_gate_on q) ops k y is on; before = λ i low lt. absurd (omega arith) }

  first_later : (q f : ℕ) → is_gate_on q y ≡ false → IsFirst (λ i. passes (is_gate_on q) (slice_get ops i)) (k + 1) (length ops) f → IsFirst (λ i. passes (is_gate_on q) (slice_get ops i)) k (length ops) f
  first_later q f off later =
      record {
        behind = omega (arith, later.behind);
        within = later.within;
        here = later.here;
        before = λ i low lt. ⊎_elim
            (λ (e : i ≡ k). ap (λ (j : ℕ). passes (is_gate_on q) (slice_get ops j)) e ∙ ap (passes (is_gate_on q)) is ∙ off)
            (λ apart. later.before i (omega (arith, apart)) lt)
            (cases_eq i k);
      }

  pub linked_none : gate_qubits y ≡ None → AreNextFrom ops next first k
  linked_none none =
      record {
        len = linked.len;
        nexts = λ i op p low at has. ⊎_elim
            (λ (e : i ≡ k). let same : op ≡ y = same_Some op y (sym at ∙ ap (slice_get ops) e ∙ is) in let has' : gate_qubits y ≡ Some p = sym (ap gate_qubits same) ∙ has in cc)
            (λ apart. linked.nexts i op p (omega (arith, apart)) at has)
            (cases_eq i k);
        firsts = λ q q_in. first_later q (get_or first q 0) (ap (is_either q) none) (linked.firsts q q_in);
      }

  pub linked_gate : (p : ℕ × ℕ) → gate_qubits y ≡ Some p → p.0 < length first → p.1 < length first →
      AreNextFrom ops (set next k (get_or first p.0 0, get_or first p.1 0)) (set (set first p.0 k) p.1 k) k
  linked_gate p has left_in right_in =
      let pair : ℕ × ℕ = (get_or first p.0 0, get_or first p.1 0) in
      record {
        len = length-set next k pair ∙ linked.len;
        nexts = λ i op r low at has'. ⊎_elim
            (λ (e : i ≡ k).
            let same : op ≡ y = same_Some op y (sym at ∙ ap (slice_get ops) e ∙ is) in
            let same_p : p ≡ r = same_Some p r (sym has ∙ sym (ap gate_qubits same) ∙ has') in
            let value : get_or (set next k pair) i (0, 0) ≡ pair = ap (λ (j : ℕ). get_or (set next k pair) j (0, 0)) e ∙ get_or-set_same next k pair (0, 0) (omega (arith, linked.len)) in
            subst (λ (v : ℕ × ℕ). AreNext ops i r v) (sym value)
            (subst (λ (s : ℕ × ℕ). AreNext ops i s pair) same_p
            (subst (λ (j : ℕ). AreNext ops j p pair) (sym e) (linked.firsts p.0 left_in, linked.firsts p.1 right_in))))
            (λ apart.
            subst (λ (v : ℕ × ℕ). AreNext ops i r v) (sym (get_or-set_other next k i pair (0, 0) apart)) (linked.nexts i op r (omega (arith, apart)) at has'))
            (cases_eq i k);
        firsts = λ q q_in.
            let First : ℕ → Type 0 = λ f. IsFirst (λ i. passes (is_gate_on q) (slice_get ops i)) k (length ops) f in
            let q_low : q < length first = omega (arith, length-set (set first p.0 k) p.1 k, length-set first p.0 k) in
            ⊎_elim
            (λ (e : q ≡ p.1).
            let value : get_or (set (set first p.0 k) p.1 k) q 0 ≡ k = ap (λ (i : ℕ). get_or (set (set first p.0 k) p.1 k) i 0) e ∙ get_or-set_same (set first p.0 k) p.1 k 0 (omega (arith, length-set first p.0 k)) in
            subst First (sym value) (first_here q (ap (is_either q) has ∙ ap (λ (r : ℕ). is_either r (Some p)) e ∙ either_right p)))
            (λ other. ⊎_elim
            (λ (e : q ≡ p.0).
            let value : get_or (set (set first p.0 k) p.1 k) q 0 ≡ k = get_or-set_other (set first p.0 k) p.1 q k 0 other ∙ ap (λ (i : ℕ). get_or (set first p.0 k) i 0) e ∙ get_or-set_same first p.0 k 0 left_in in
            subst First (sym value) (first_here q (ap (is_either q) has ∙ ap (λ (r : ℕ). is_either r (Some p)) e ∙ either_left p)))
            (λ apart.
            let value : get_or (set (set first p.0 k) p.1 k) q 0 ≡ get_or first q 0 = get_or-set_other (set first p.0 k) p.1 q k 0 other ∙ get_or-set_other first p.0 q k 0 apart in
            let off : is_gate_on q y ≡ false = false_from_ne_true (is_gate_on q y) (λ here. ⊎_elim (λ (e : p.0 ≡ q). apart (sym e)) (λ (e : p.1 ≡ q). other (sym e)) (either_cases p q (sym (ap (is_either q) has) ∙ here))) in
            subst First (sym value) (first_later q (get_or first q 0) off (linked.firsts q q_low)))
            (cases_eq q p.0))
            (cases_eq q p.1);
      }

-- the next gates of an op that were read
pub next_at : (ops : List Op) (links : Links) (n : ℕ) (op : Op) (p next : ℕ × ℕ) → AreLinks ops links → n < length ops → slice_get ops n ≡ Some op → gate_qubits op ≡ Some p →
    next ≡ get_or links.next.items n next → AreNext ops n p next
next_at ops links n op p next are within is has read =
    let same : get_or links.next.items n (0, 0) ≡ next = get_or_any links.next.items n (0, 0) next (omega (arith, are.next_len)) ∙ sym read in
    subst (λ (v : ℕ × ℕ). AreNext ops n p v) same (are.next n op p is has)
  where
    -- inside a list the default isn't read
    get_or_any : (xs : List (ℕ × ℕ)) (i : ℕ) (d e : ℕ × ℕ) → i < length xs → get_or xs i d ≡ get_or xs i e
    get_or_any [] i d e lt = absurd (omega arith)
    get_or_any (x ∷ xs) zero d e lt = refl
    get_or_any (x ∷ xs) (suc i) d e lt = get_or_any xs i d e (omega arith)

-- the fence before the next op is added
pub fenced_pushed : (ops : List Op) (fences : List ℕ) (n last : ℕ) → length fences ≡ n → ((i k : ℕ) → k < n → IsFencedBetween ops i k ↔ (i < get_or fences k 0)) →
    ((i : ℕ) → IsFencedBetween ops i n ↔ (i < last)) → (i k : ℕ) → k < n + 1 → IsFencedBetween ops i k ↔ (i < get_or (fences ++ last ∷ []) k 0)
fenced_pushed ops fences n last len before now i k lt =
    ⊎_elim
    (λ (low : k < n). subst (λ (f : ℕ). IsFencedBetween ops i k ↔ (i < f)) (sym (get_or_append_left fences (last ∷ []) 0 k (omega (arith, len)))) (before i k low))
    (λ (high : n ≤ k).
    let here : k ≡ n = omega arith in
    let value : get_or (fences ++ last ∷ []) k 0 ≡ last = get_or_push fences last 0 k (len ∙ sym here) in
    subst (λ (f : ℕ). IsFencedBetween ops i k ↔ (i < f)) (sym value) (subst (λ (j : ℕ). IsFencedBetween ops i j ↔ (i < last)) (sym here) (now i)))
    (cases_lt k n)
