-- Right numbers: they follow the order of the ops, there is one numbering, and what a pulse has.
use Rattle.std.proofs.Common.{◌≡◌, ◌==◌, ℕ, zero, suc, ◌+◌, ◌<◌, ◌≤◌, ◌⊎◌, Bool, true, false, cond, ◌&&◌, IsTrue, List, [], ◌∷◌, ◌++◌, length, get_or, Option, Some, None, refl, sym, ap, ◌∙◌, subst, inl, inr, ⊎_elim, arith}
use Rattle.std.specs.List.{slice_get, range_with_len, count_by}
use Rattle.std.proofs.lemmas.Bool.{cases_lt, cases_eq, cases_Bool, and_parts, and_from, eqb-true, eq-eqb}
use Rattle.std.proofs.lemmas.List.Sums.{sum_by-append}
use Rattle.std.proofs.lemmas.Option.{same_Some, slice_get-get_or}
use Rattle.zac_gates.specs.declared.circuit.Op.{Op}
use Rattle.zac_gates.specs.declared.circuit.Op.TheVariants.{One, Two, Fence, Read}
use Rattle.zac_gates.specs.Ops.{MustFollow, IsGate, IsRead, Names, IsFencedBetween}
use Rattle.zac_stage.specs.Numbers.{is_pair, is_one, is_pair_of, pairs_before, IsFloor, IsPulseNumber, IsNumbering, NumbersFollow}

-- the op at a place where a pair stands
pub record Standing (ops : List Op) (k : ℕ) : Type 0 where
  pub op : Op
  pub is : slice_get ops k ≡ Some op
  pub gate : IsGate op

pub pair_stands : (ops : List Op) (k : ℕ) → IsTrue (is_pair (slice_get ops k)) → Standing ops k
pair_stands ops k pair = by_case (slice_get ops k) refl pair
  where
    by_case : (o : Option Op) → slice_get ops k ≡ o → is_pair o ≡ true → Standing ops k
    by_case None is pair = cc
    by_case (Some (One q angles)) is pair = cc
    by_case (Some (Two a b)) is pair = record { op = Two a b; is = is; gate = tt }
    by_case (Some Fence) is pair = cc
    by_case (Some (Read q bit)) is pair = cc

pub one_stands : (ops : List Op) (k : ℕ) → IsTrue (is_one (slice_get ops k)) → Standing ops k
one_stands ops k one = by_case (slice_get ops k) refl one
  where
    by_case : (o : Option Op) → slice_get ops k ≡ o → is_one o ≡ true → Standing ops k
    by_case None is one = cc
    by_case (Some (One q angles)) is one = record { op = One q angles; is = is; gate = tt }
    by_case (Some (Two a b)) is one = cc
    by_case (Some Fence) is one = cc
    by_case (Some (Read q bit)) is one = cc

pair_or_one : (ops : List Op) (k : ℕ) (op : Op) → slice_get ops k ≡ Some op → IsGate op → (is_pair (slice_get ops k) ≡ true) ⊎ (is_one (slice_get ops k) ≡ true)
pair_or_one ops k (One q angles) is gate = inr (ap is_one is)
pair_or_one ops k (Two a b) is gate = inl (ap is_pair is)
pair_or_one ops k Fence is gate = absurd gate
pair_or_one ops k (Read q bit) is gate = absurd gate

gate_is_no_read : (op : Op) → IsGate op → IsRead op → ⊥
gate_is_no_read (One q angles) gate read = read
gate_is_no_read (Two a b) gate read = read
gate_is_no_read Fence gate read = gate
gate_is_no_read (Read q bit) gate read = gate

-- what a gate must follow
pub record Following (ops : List Op) (j k : ℕ) : Type 0 where
  pub before : j < k
  pub a : Op
  pub b : Op
  pub a_is : slice_get ops j ≡ Some a
  pub b_is : slice_get ops k ≡ Some b
  pub a_gate : IsGate a
  pub b_gate : IsGate b
  pub why : ((q : ℕ) × Names a q × Names b q) ⊎ IsFencedBetween ops j k

pub following : (ops : List Op) (j k : ℕ) (op : Op) → slice_get ops k ≡ Some op → IsGate op → MustFollow ops j k → Following ops j k
following ops j k op is gate must =
    ⊎_elim
    (λ gates. record { before = gates.2; a = must.a; b = must.b; a_is = must.a_is; b_is = must.b_is; a_gate = gates.0; b_gate = gates.1; why = gates.3 })
    (λ reads. absurd (gate_is_no_read op gate (subst IsRead (same_Some must.b op (sym must.b_is ∙ is)) reads.0)))
    must.reason

pub must : (ops : List Op) (j k : ℕ) → Following ops j k → MustFollow ops j k
must ops j k f = record { a = f.a; b = f.b; a_is = f.a_is; b_is = f.b_is; reason = inl (f.a_gate, f.b_gate, f.before, f.why) }

-- a pair that a one-qubit gate must follow is one that each gate must follow that must follow the one-qubit gate
follows_through : (ops : List Op) (j i k : ℕ) → IsTrue (is_one (slice_get ops i)) → Following ops j i → Following ops i k → Following ops j k
follows_through ops j i k one f g =
    record {
      before = omega (arith, f.before, g.before);
      a = f.a;
      b = g.b;
      a_is = f.a_is;
      b_is = g.b_is;
      a_gate = f.a_gate;
      b_gate = g.b_gate;
      why = ⊎_elim
          (λ (shared : (q : ℕ) × Names f.a q × Names f.b q). ⊎_elim
          (λ (later : (q : ℕ) × Names g.a q × Names g.b q).
          let same : f.b ≡ g.a = same_Some f.b g.a (sym f.b_is ∙ g.a_is) in
          let one_qubit : later.0 ≡ shared.0 = one_name g.a later.0 shared.0 (ap is_one (sym g.a_is) ∙ one) later.1 (subst (λ (o : Op). Names o shared.0) same shared.2) in
          inl (shared.0, shared.1, subst (λ (q : ℕ). Names g.b q) one_qubit later.2))
          (λ (fenced : IsFencedBetween ops i k). inr (fenced.0, omega (arith, fenced.1, f.before), fenced.2, fenced.3))
          g.why)
          (λ (fenced : IsFencedBetween ops j i). inr (fenced.0, fenced.1, omega (arith, fenced.2, g.before), fenced.3))
          f.why;
    }
  where
    one_name : (op : Op) (p q : ℕ) → is_one (Some op) ≡ true → Names op p → Names op q → p ≡ q
    one_name (One r angles) p q one at_p at_q = sym at_p ∙ at_q
    one_name (Two a b) p q one at_p at_q = cc
    one_name Fence p q one at_p at_q = cc
    one_name (Read r bit) p q one at_p at_q = cc

-- a gate has its floor, and a pair is not below it
pub record Based (ops : List Op) (numbers : List ℕ) (k : ℕ) : Type 0 where
  pub floor : ℕ
  pub is_floor : IsFloor ops numbers k floor
  pub from_floor : floor ≤ get_or numbers k 0

pub based : (ops : List Op) (sites : ℕ) (numbers : List ℕ) → IsNumbering ops sites numbers → (k : ℕ) (op : Op) → slice_get ops k ≡ Some op → IsGate op → Based ops numbers k
based ops sites numbers numbering k op is gate =
    ⊎_elim
    (λ pair. let p = numbering.pairs k pair in record { floor = p.floor; is_floor = p.is_floor; from_floor = p.from_floor })
    (λ one. record { floor = get_or numbers k 0; is_floor = numbering.ones k one; from_floor = omega arith })
    (pair_or_one ops k op is gate)

-- numbers follow what must follow
pub numbers_follow : (ops : List Op) (sites : ℕ) (numbers : List ℕ) → IsNumbering ops sites numbers → NumbersFollow ops numbers
numbers_follow ops sites numbers numbering i j op follows is gate =
    let f = following ops i j op is gate follows in
    let later = based ops sites numbers numbering j op is gate in
    let behind_pair : IsTrue (is_pair (slice_get ops i)) → get_or numbers i 0 < get_or numbers j 0 = λ pair. omega (arith, later.is_floor.above i pair follows, later.from_floor) in (
      ⊎_elim
          (λ (pair : is_pair (slice_get ops i) ≡ true). omega (arith, behind_pair pair))
          (λ (one : is_one (slice_get ops i) ≡ true).
          let floor = numbering.ones i one in
          ⊎_elim
          (λ (none : get_or numbers i 0 ≡ 0). omega (arith, none))
          (λ found.
          let before = following ops found.0 i f.a f.a_is f.a_gate found.2 in
          omega (arith, found.3, later.from_floor, later.is_floor.above found.0 found.1 (must ops found.0 j (follows_through ops found.0 i j one before f))))
          floor.reached)
          (pair_or_one ops i f.a f.a_is f.a_gate),
      behind_pair,
    )

-- 1 where the test passes
abbrev pub one_if : Bool → ℕ
one_if b = cond b 1 0

-- how many pairs before the next place have a number
range_push : (a n : ℕ) → range_with_len a (suc n) ≡ range_with_len a n ++ (a + n) ∷ []
range_push a zero = let here : a ≡ a + 0 = omega arith in ap (λ (x : ℕ). x ∷ []) here
range_push a (suc n) =
    let here : (a + 1) + n ≡ a + suc n = omega arith in
    ap (λ (l : List ℕ). a ∷ l) (range_push (a + 1) n ∙ ap (λ (x : ℕ). range_with_len (a + 1) n ++ x ∷ []) here)

pub range_more : (n : ℕ) → range_with_len 0 (n + 1) ≡ range_with_len 0 n ++ n ∷ []
range_more n =
    let one : n + 1 ≡ suc n = omega arith in
    let none : 0 + n ≡ n = omega arith in
    ap (range_with_len 0) one ∙ range_push 0 n ∙ ap (λ (x : ℕ). range_with_len 0 n ++ x ∷ []) none

pub pairs_before_more : (ops : List Op) (numbers : List ℕ) (t i : ℕ) → pairs_before ops numbers t (i + 1) ≡ pairs_before ops numbers t i + one_if (is_pair_of ops numbers t i)
pairs_before_more ops numbers t i =
    let one : ℕ → ℕ = λ k. one_if (is_pair_of ops numbers t k) in
    ap (λ (l : List ℕ). count_by (is_pair_of ops numbers t) l) (range_more i) ∙ sum_by-append one (range_with_len 0 i) (i ∷ []) ∙ last (pairs_before ops numbers t i) (one i)
  where
    last : (a b : ℕ) → a + (0 + b) ≡ a + b
    last a b = omega arith

-- numbers that agree below a place agree in what was counted there
pub pairs_before_agree : (ops : List Op) (a b : List ℕ) (t i : ℕ) → ((k : ℕ) → k < i → get_or a k 0 ≡ get_or b k 0) → pairs_before ops a t i ≡ pairs_before ops b t i
pairs_before_agree ops a b t zero agree = refl
pairs_before_agree ops a b t (suc i) agree =
    let one : suc i ≡ i + 1 = omega arith in
    let here : is_pair_of ops a t i ≡ is_pair_of ops b t i = ap (λ (n : ℕ). is_pair (slice_get ops i) && (n == t)) (agree i (omega arith)) in
    ap (pairs_before ops a t) one ∙ pairs_before_more ops a t i
    ∙ ap (λ (n : ℕ). n + one_if (is_pair_of ops a t i)) (pairs_before_agree ops a b t i (λ k lt. agree k (omega arith)))
    ∙ ap (λ (x : Bool). pairs_before ops b t i + one_if x) here
    ∙ sym (ap (pairs_before ops b t) one ∙ pairs_before_more ops b t i)

-- and in floors and pulse numbers
pub floor_agrees : (ops : List Op) (a b : List ℕ) (k floor : ℕ) (op : Op) → slice_get ops k ≡ Some op → IsGate op → ((j : ℕ) → j < k → get_or a j 0 ≡ get_or b j 0) → IsFloor ops a k floor → IsFloor ops b k floor
floor_agrees ops a b k floor op is gate agree f =
    record {
      above = λ j pair follows. omega (arith, f.above j pair follows, agree j (following ops j k op is gate follows).before);
      reached = ⊎_elim (λ none. inl none) (λ found. inr (found.0, found.1, found.2, omega (arith, found.3, agree found.0 (following ops found.0 k op is gate found.2).before))) f.reached;
    }

pub pulse_agrees : (ops : List Op) (sites : ℕ) (a b : List ℕ) (k : ℕ) → IsTrue (is_pair (slice_get ops k)) → ((j : ℕ) → j < k + 1 → get_or a j 0 ≡ get_or b j 0) → IsPulseNumber ops sites a k → IsPulseNumber ops sites b k
pulse_agrees ops sites a b k pair agree p =
    let s = pair_stands ops k pair in
    let same : get_or a k 0 ≡ get_or b k 0 = agree k (omega arith) in
    let below : (j : ℕ) → j < k → get_or a j 0 ≡ get_or b j 0 = λ j lt. agree j (omega arith) in
    record {
      floor = p.floor;
      is_floor = floor_agrees ops a b k p.floor s.op s.is s.gate below p.is_floor;
      from_floor = omega (arith, p.from_floor, same);
      room = subst (λ (n : ℕ). pairs_before ops b n k < sites) same (omega (arith, p.room, pairs_before_agree ops a b (get_or a k 0) k below));
      full = λ t low lt. sym (pairs_before_agree ops a b t k below) ∙ p.full t low (omega (arith, same));
    }

floors_same : (ops : List Op) (numbers : List ℕ) (k f g : ℕ) → IsFloor ops numbers k f → IsFloor ops numbers k g → f ≤ g
floors_same ops numbers k f g one other =
    ⊎_elim (λ none. omega (arith, none)) (λ found. omega (arith, found.3, other.above found.0 found.1 found.2)) one.reached

pulses_same : (ops : List Op) (sites : ℕ) (a b : List ℕ) (k : ℕ) → IsTrue (is_pair (slice_get ops k)) → ((j : ℕ) → j < k → get_or a j 0 ≡ get_or b j 0) → IsPulseNumber ops sites a k → IsPulseNumber ops sites b k → get_or a k 0 ≤ get_or b k 0
pulses_same ops sites a b k pair agree p q =
    let s = pair_stands ops k pair in
    ⊎_elim
    (λ (lt : get_or b k 0 < get_or a k 0).
    let low : p.floor ≤ q.floor = floors_same ops b k p.floor q.floor (floor_agrees ops a b k p.floor s.op s.is s.gate agree p.is_floor) q.is_floor in
    let full = p.full (get_or b k 0) (omega (arith, low, q.from_floor)) lt in
    absurd (omega (arith, full, q.room, pairs_before_agree ops a b (get_or b k 0) k agree)))
    (λ le. le)
    (cases_lt (get_or b k 0) (get_or a k 0))

-- two right numberings of a list are the same below each place
same_below : (ops : List Op) (sites : ℕ) (a b : List ℕ) → IsNumbering ops sites a → IsNumbering ops sites b → (n k : ℕ) → k < n → k < length ops → get_or a k 0 ≡ get_or b k 0
same_below ops sites a b one other zero k lt k_in = absurd (omega arith)
same_below ops sites a b one other (suc n) k lt k_in =
    ⊎_elim
    (λ (l : k < n). same_below ops sites a b one other n k l k_in)
    (λ (l : n ≤ k).
    let agree : (j : ℕ) → j < k → get_or a j 0 ≡ get_or b j 0 = λ j j_lt. same_below ops sites a b one other n j (omega arith) (omega arith) in
    let back : (j : ℕ) → j < k → get_or b j 0 ≡ get_or a j 0 = λ j j_lt. sym (agree j j_lt) in
    let op = get_or ops k Fence in
    let is : slice_get ops k ≡ Some op = slice_get-get_or ops k Fence k_in in
    at op is agree back)
    (cases_lt k n)
  where
    at : (op : Op) → slice_get ops k ≡ Some op → ((j : ℕ) → j < k → get_or a j 0 ≡ get_or b j 0) → ((j : ℕ) → j < k → get_or b j 0 ≡ get_or a j 0) → get_or a k 0 ≡ get_or b k 0
    at (One q angles) is agree back =
        let p = one.ones k (ap is_one is) in
        let r = other.ones k (ap is_one is) in
        let low = floors_same ops b k (get_or a k 0) (get_or b k 0) (floor_agrees ops a b k (get_or a k 0) (One q angles) is tt agree p) r in
        let high = floors_same ops b k (get_or b k 0) (get_or a k 0) r (floor_agrees ops a b k (get_or a k 0) (One q angles) is tt agree p) in
        omega (arith, low, high)
    at (Two c d) is agree back =
        let p = one.pairs k (ap is_pair is) in
        let r = other.pairs k (ap is_pair is) in
        omega (arith, pulses_same ops sites a b k (ap is_pair is) agree p r, pulses_same ops sites b a k (ap is_pair is) back r p)
    at Fence is agree back = one.others k Fence is (λ gate. gate) ∙ sym (other.others k Fence is (λ gate. gate))
    at (Read q bit) is agree back = one.others k (Read q bit) is (λ gate. gate) ∙ sym (other.others k (Read q bit) is (λ gate. gate))

same_lists : (a b : List ℕ) (n : ℕ) → length a ≡ n → length b ≡ n → ((k : ℕ) → k < n → get_or a k 0 ≡ get_or b k 0) → a ≡ b
same_lists [] [] n la lb agree = refl
same_lists [] (y ∷ b) n la lb agree = absurd (omega arith)
same_lists (x ∷ a) [] n la lb agree = absurd (omega arith)
same_lists (x ∷ a) (y ∷ b) zero la lb agree = absurd (omega arith)
same_lists (x ∷ a) (y ∷ b) (suc n) la lb agree =
    let head : x ≡ y = agree 0 (omega arith) in
    ap (λ (z : ℕ). z ∷ a) head ∙ ap (λ (l : List ℕ). y ∷ l) (same_lists a b n (omega arith) (omega arith) (λ k lt. agree (suc k) (omega arith)))

-- there is one right numbering at most
pub one_numbering : (ops : List Op) (sites : ℕ) (a b : List ℕ) → IsNumbering ops sites a → IsNumbering ops sites b → a ≡ b
one_numbering ops sites a b one other =
    same_lists a b (length ops) one.each other.each (λ k lt. same_below ops sites a b one other (length ops) k lt lt)

-- no pulse gets more pairs than sites
pub at_most_sites : (ops : List Op) (sites : ℕ) (numbers : List ℕ) → IsNumbering ops sites numbers → (t i : ℕ) → pairs_before ops numbers t i ≤ sites
at_most_sites ops sites numbers numbering t zero = omega arith
at_most_sites ops sites numbers numbering t (suc i) =
    let one : suc i ≡ i + 1 = omega arith in
    let more = ap (pairs_before ops numbers t) one ∙ pairs_before_more ops numbers t i in
    ⊎_elim
    (λ (here : is_pair_of ops numbers t i ≡ true).
    let parts = and_parts (is_pair (slice_get ops i)) (get_or numbers i 0 == t) here in
    let number : get_or numbers i 0 ≡ t = eqb-true (get_or numbers i 0) t parts.1 in
    let room : pairs_before ops numbers t i < sites = subst (λ (n : ℕ). pairs_before ops numbers n i < sites) number (numbering.pairs i parts.0).room in
    let step : one_if (is_pair_of ops numbers t i) ≡ 1 = ap one_if here in
    omega (arith, more, step, room))
    (λ (none : is_pair_of ops numbers t i ≡ false).
    let step : one_if (is_pair_of ops numbers t i) ≡ 0 = ap one_if none in
    omega (arith, more, step, at_most_sites ops sites numbers numbering t i))
    (cases_Bool (is_pair_of ops numbers t i))

-- a pair that has the number t, before the place i
pub record Found (ops : List Op) (numbers : List ℕ) (t i : ℕ) : Type 0 where
  pub place : ℕ
  pub before : place < i
  pub is : is_pair_of ops numbers t place ≡ true

found_counted : (ops : List Op) (numbers : List ℕ) (t i : ℕ) → 1 ≤ pairs_before ops numbers t i → Found ops numbers t i
found_counted ops numbers t zero some = absurd (omega arith)
found_counted ops numbers t (suc i) some =
    let one : suc i ≡ i + 1 = omega arith in
    let more = ap (pairs_before ops numbers t) one ∙ pairs_before_more ops numbers t i in
    ⊎_elim
    (λ (here : is_pair_of ops numbers t i ≡ true). record { place = i; before = omega arith; is = here })
    (λ (none : is_pair_of ops numbers t i ≡ false).
    let step : one_if (is_pair_of ops numbers t i) ≡ 0 = ap one_if none in
    let f = found_counted ops numbers t i (omega (arith, more, step, some)) in
    record { place = f.place; before = omega (arith, f.before); is = f.is })
    (cases_Bool (is_pair_of ops numbers t i))

-- each number up to that of a pair is that of a pair
pub no_gap : (ops : List Op) (sites : ℕ) (numbers : List ℕ) → 1 ≤ sites → IsNumbering ops sites numbers → (n k t : ℕ) → k < n → IsTrue (is_pair (slice_get ops k)) → t ≤ get_or numbers k 0 → Found ops numbers t n
no_gap ops sites numbers some numbering zero k t lt pair le = absurd (omega arith)
no_gap ops sites numbers some numbering (suc n) k t lt pair le =
    let p = numbering.pairs k pair in
    let wider : (i : ℕ) → i ≤ n → Found ops numbers t i → Found ops numbers t (suc n) = λ i i_le f. record { place = f.place; before = omega (arith, f.before); is = f.is } in
    ⊎_elim
    (λ (same : t ≡ get_or numbers k 0). record { place = k; before = lt; is = and_from (is_pair (slice_get ops k)) (get_or numbers k 0 == t) pair (eq-eqb (get_or numbers k 0) t (sym same)) })
    (λ apart. ⊎_elim
    (λ (low : t < p.floor). ⊎_elim
    (λ (none : p.floor ≡ 0). absurd (omega (arith, none)))
    (λ found.
    let s = pair_stands ops k pair in
    let before = following ops found.0 k s.op s.is s.gate found.2 in
    wider n (omega arith) (no_gap ops sites numbers some numbering n found.0 t (omega (arith, before.before)) found.1 (omega (arith, found.3))))
    p.is_floor.reached)
    (λ (high : p.floor ≤ t).
    let full = p.full t high (omega (arith, apart)) in
    wider k (omega arith) (found_counted ops numbers t k (omega (arith, full, some))))
    (cases_lt t p.floor))
    (cases_eq t (get_or numbers k 0))

-- a pair that was found is counted
pub counted_found : (ops : List Op) (numbers : List ℕ) (t i : ℕ) → Found ops numbers t i → 1 ≤ pairs_before ops numbers t i
counted_found ops numbers t zero f = absurd (omega (arith, f.before))
counted_found ops numbers t (suc i) f =
    let one : suc i ≡ i + 1 = omega arith in
    let more = ap (pairs_before ops numbers t) one ∙ pairs_before_more ops numbers t i in
    ⊎_elim
    (λ (here : f.place ≡ i).
    let step : one_if (is_pair_of ops numbers t i) ≡ 1 = ap (λ (k : ℕ). one_if (is_pair_of ops numbers t k)) (sym here) ∙ ap one_if f.is in
    omega (arith, more, step))
    (λ other. omega (arith, more, counted_found ops numbers t i (record { place = f.place; before = omega (arith, f.before, other); is = f.is })))
    (cases_eq f.place i)

-- of two pairs on a qubit the later one has the greater number
pub rises : (ops : List Op) (sites : ℕ) (numbers : List ℕ) → IsNumbering ops sites numbers → (i j q : ℕ) (a b : Op) → i < j → IsTrue (is_pair (slice_get ops i)) → IsTrue (is_pair (slice_get ops j)) →
    slice_get ops i ≡ Some a → slice_get ops j ≡ Some b → Names a q → Names b q → get_or numbers i 0 < get_or numbers j 0
rises ops sites numbers numbering i j q a b lt i_pair j_pair a_is b_is a_names b_names =
    let s = pair_stands ops i i_pair in
    let r = pair_stands ops j j_pair in
    let a_gate : IsGate a = subst IsGate (same_Some s.op a (sym s.is ∙ a_is)) s.gate in
    let b_gate : IsGate b = subst IsGate (same_Some r.op b (sym r.is ∙ b_is)) r.gate in
    (numbers_follow ops sites numbers numbering i j b (must ops i j (record { before = lt; a = a; b = b; a_is = a_is; b_is = b_is; a_gate = a_gate; b_gate = b_gate; why = inl (q, a_names, b_names) })) b_is b_gate).1 i_pair
