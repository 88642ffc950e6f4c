-- One op more has its number.
use Rattle.std.proofs.Common.{◌≡◌, ◌≢◌, ◌==◌, ℕ, ◌+◌, ◌<◌, ◌≤◌, ◌⊎◌, Bool, true, false, ◌&&◌, IsTrue, List, [], ◌∷◌, ◌++◌, length, get_or, set, Option, Some, None, refl, sym, ap, ◌∙◌, subst, inl, inr, ⊎_elim, arith}
use Rattle.std.specs.List.{slice_get}
use Rattle.std.proofs.lemmas.Bool.{cases_eq, or_left, or_right, or_cases, eqb-true, eq-eqb, ne_eqb}
use Rattle.std.proofs.lemmas.List.{get_or_append_left, get_or_push, length-append, get_or-set_same, get_or-set_other, length-set}
use Rattle.std.proofs.lemmas.Option.{same_Some}
use Rattle.zac_gates.specs.declared.circuit.Op.{Op}
use Rattle.zac_gates.specs.declared.circuit.Op.TheVariants.{One, Two, Fence, Read}
use Rattle.zac_gates.specs.Ops.{IsGate, is_gate}
use Rattle.zac_gates.specs.Waiting.{gate_qubits, is_either, is_gate_on, passes}
use Rattle.zac_gates.proofs.WaitingFacts.{gate_follows, follows_shared, follows_fenced, passes_at, test_from_gate}
use Rattle.zac_stage.specs.Numbers.{is_pair, is_one, is_pair_of, pairs_before, IsFloor, IsPulseNumber}
use Rattle.zac_stage.specs.Rooms.{IsLeastRoom, IsRaised}
use Rattle.zac_stage.specs.Tops.{IsTop, IsPairBefore, IsPairOn, IsPairFenced, AreNumbered, AreTops}
use Rattle.zac_stage.proofs.NumbersFacts.{one_if, pair_stands, floor_agrees, pulse_agrees, pairs_before_more, pairs_before_agree}

top_agrees : (P Q : ℕ → Type 0) (a b : List ℕ) (top : ℕ) → ((j : ℕ) → P j → Q j) → ((j : ℕ) → Q j → P j) → ((j : ℕ) → P j → get_or a j 0 ≡ get_or b j 0) → IsTop P a top → IsTop Q b top
top_agrees P Q a b top there back agree t =
    record {
      above = λ j q. let p = back j q in omega (arith, t.above j p, agree j p);
      reached = ⊎_elim (λ none. inl none) (λ found. inr (found.0, there found.0 found.1, omega (arith, found.2, agree found.0 found.1))) t.reached;
    }

-- the floor of a gate, by the tops of its qubits and of the last fence
pub floor_from_tops : (ops : List Op) (numbers : List ℕ) (i : ℕ) (y : Op) (p : ℕ × ℕ) (left right fence r : ℕ) → slice_get ops i ≡ Some y → gate_qubits y ≡ Some p → IsGate y →
    IsTop (IsPairOn ops p.0 i) numbers left → IsTop (IsPairOn ops p.1 i) numbers right → IsTop (IsPairFenced ops i) numbers fence →
    fence ≤ r → left ≤ r → right ≤ r → ((r ≡ fence) ⊎ ((r ≡ left) ⊎ (r ≡ right))) → IsFloor ops numbers i r
floor_from_tops ops numbers i y p left right fence r is has gate at_left at_right at_fence fence_le left_le right_le which =
    let on_left : passes (is_gate_on p.0) (slice_get ops i) ≡ true = passes_at (is_gate_on p.0) ops i y is (ap (is_either p.0) has ∙ or_left (p.0 == p.0) (p.1 == p.0) (eq-eqb p.0 p.0 refl)) in
    let on_right : passes (is_gate_on p.1) (slice_get ops i) ≡ true = passes_at (is_gate_on p.1) ops i y is (ap (is_either p.1) has ∙ or_right (p.0 == p.1) (p.1 == p.1) (eq-eqb p.1 p.1 refl)) in
    record {
      above = λ j pair must.
          let why = gate_follows ops j i y p is has must in
          ⊎_elim
          (λ on. omega (arith, at_left.above j (why.0, pair, on)))
          (λ other. ⊎_elim (λ on. omega (arith, at_right.above j (why.0, pair, on))) (λ fenced. omega (arith, at_fence.above j (pair, fenced))) other)
          why.2;
      reached = ⊎_elim
          (λ (e : r ≡ fence). ⊎_elim (λ (none : fence ≡ 0). inl (e ∙ none))
          (λ found.
          let s = pair_stands ops found.0 found.1.0 in
          inr (found.0, found.1.0, follows_fenced ops found.0 i y is gate (passes_at is_gate ops found.0 s.op s.is (test_from_gate s.op s.gate)) found.1.1, found.2 ∙ sym e))
          at_fence.reached)
          (λ other. ⊎_elim
          (λ (e : r ≡ left). ⊎_elim (λ (none : left ≡ 0). inl (e ∙ none))
          (λ found. inr (found.0, found.1.1, follows_shared ops found.0 i p.0 found.1.0 found.1.2 on_left, found.2 ∙ sym e))
          at_left.reached)
          (λ (e : r ≡ right). ⊎_elim (λ (none : right ≡ 0). inl (e ∙ none))
          (λ found. inr (found.0, found.1.1, follows_shared ops found.0 i p.1 found.1.0 found.1.2 on_right, found.2 ∙ sym e))
          at_right.reached)
          other)
          which;
    }

-- one number more
module _ (ops : List Op) (sites : ℕ) (numbers : List ℕ) (i n : ℕ) (y : Op) (is : slice_get ops i ≡ Some y) (numbered : AreNumbered ops sites numbers i) where
  pub below : (j : ℕ) → j < i → get_or numbers j 0 ≡ get_or (numbers ++ n ∷ []) j 0
  below j lt = sym (get_or_append_left numbers (n ∷ []) 0 j (omega (arith, numbered.len)))

  pub here : get_or (numbers ++ n ∷ []) i 0 ≡ n
  here = get_or_push numbers n 0 i numbered.len

  pub numbered_more : (IsTrue (is_pair (slice_get ops i)) → IsPulseNumber ops sites (numbers ++ n ∷ []) i) →
      (IsTrue (is_one (slice_get ops i)) → IsFloor ops (numbers ++ n ∷ []) i n) →
      (¬ IsGate y → n ≡ 0) → AreNumbered ops sites (numbers ++ n ∷ []) (i + 1)
  numbered_more pair one other =
      record {
        len = length-append numbers (n ∷ []) ∙ ap (λ (l : ℕ). l + 1) numbered.len;
        pairs = λ k lt is_pair_k. ⊎_elim
            (λ (e : k ≡ i). subst (λ (j : ℕ). IsPulseNumber ops sites (numbers ++ n ∷ []) j) (sym e) (pair (subst (λ (j : ℕ). IsTrue (is_pair (slice_get ops j))) e is_pair_k)))
            (λ apart. pulse_agrees ops sites numbers (numbers ++ n ∷ []) k is_pair_k (λ j j_lt. below j (omega (arith, apart))) (numbered.pairs k (omega (arith, apart)) is_pair_k))
            (cases_eq k i);
        ones = λ k lt is_one_k. ⊎_elim
            (λ (e : k ≡ i).
            let one_i = subst (λ (j : ℕ). IsTrue (is_one (slice_get ops j))) e is_one_k in
            subst (λ (j : ℕ). IsFloor ops (numbers ++ n ∷ []) j (get_or (numbers ++ n ∷ []) j 0)) (sym e) (subst (λ (f : ℕ). IsFloor ops (numbers ++ n ∷ []) i f) (sym here) (one one_i)))
            (λ apart.
            let low : k < i = omega (arith, apart) in
            let s = one_at ops k is_one_k in
            subst (λ (f : ℕ). IsFloor ops (numbers ++ n ∷ []) k f) (below k low)
            (floor_agrees ops numbers (numbers ++ n ∷ []) k (get_or numbers k 0) s.0 s.1 s.2 (λ j j_lt. below j (omega arith)) (numbered.ones k low is_one_k)))
            (cases_eq k i);
        others = λ k op lt at none. ⊎_elim
            (λ (e : k ≡ i).
            let same : op ≡ y = same_Some op y (sym at ∙ ap (slice_get ops) e ∙ is) in
            ap (λ (j : ℕ). get_or (numbers ++ n ∷ []) j 0) e ∙ here ∙ other (subst (λ (o : Op). ¬ IsGate o) same none))
            (λ apart. sym (below k (omega (arith, apart))) ∙ numbered.others k op (omega (arith, apart)) at none)
            (cases_eq k i);
      }
    where
      one_at : (ops : List Op) (k : ℕ) → IsTrue (is_one (slice_get ops k)) → (op : Op) × (slice_get ops k ≡ Some op) × IsGate op
      one_at ops k one = by_case (slice_get ops k) refl one
        where
          by_case : (o : Option Op) → slice_get ops k ≡ o → is_one o ≡ true → (op : Op) × (slice_get ops k ≡ Some op) × IsGate op
          by_case None is one = cc
          by_case (Some (One q angles)) is one = (One q angles, is, tt)
          by_case (Some (Two a b)) is one = cc
          by_case (Some Fence) is one = cc
          by_case (Some (Read q bit)) is one = cc

  -- a fence keeps its top where no fence comes
  pub fence_stays : (fence : ℕ) → y ≢ Fence → IsTop (IsPairFenced ops i) numbers fence → IsTop (IsPairFenced ops (i + 1)) (numbers ++ n ∷ []) fence
  fence_stays fence no_fence top =
      top_agrees (IsPairFenced ops i) (IsPairFenced ops (i + 1)) numbers (numbers ++ n ∷ []) fence
      (λ j p. (p.0, (p.1.0, p.1.1, omega (arith, p.1.2), p.1.3)))
      (λ j p.
      let apart : p.1.0 ≢ i = λ e. no_fence (same_Some y Fence (sym is ∙ ap (slice_get ops) (sym e) ∙ p.1.3)) in
      (p.0, (p.1.0, p.1.1, omega (arith, p.1.2, apart), p.1.3)))
      (λ j p. below j (omega (arith, p.1.1, p.1.2)))
      top

  -- behind a fence stand all pairs so far
  pub fence_moves : (pulses : ℕ) → y ≡ Fence → IsTop (IsPairBefore ops i) numbers pulses → IsTop (IsPairFenced ops (i + 1)) (numbers ++ n ∷ []) pulses
  fence_moves pulses fence top =
      top_agrees (IsPairBefore ops i) (IsPairFenced ops (i + 1)) numbers (numbers ++ n ∷ []) pulses
      (λ j p. (p.1, (i, p.0, omega arith, is ∙ ap (λ (o : Op). Some o) fence)))
      (λ j p. (omega (arith, p.1.1, p.1.2), p.0))
      (λ j p. below j p.0)
      top

  -- an op that is no pair changes no count and no top
  module _ (no_pair : is_pair (slice_get ops i) ≡ false) where
    not_here : (j : ℕ) → j < i + 1 → IsTrue (is_pair (slice_get ops j)) → j < i
    not_here j lt pair =
        ⊎_elim (λ (e : j ≡ i). let it : is_pair (slice_get ops i) ≡ true = ap (λ (k : ℕ). is_pair (slice_get ops k)) (sym e) ∙ pair in cc) (λ apart. omega (arith, apart)) (cases_eq j i)

    pub counts_stay : (t : ℕ) → pairs_before ops (numbers ++ n ∷ []) t (i + 1) ≡ pairs_before ops numbers t i
    counts_stay t =
        let off : is_pair_of ops (numbers ++ n ∷ []) t i ≡ false = ap (λ (b : Bool). b && (get_or (numbers ++ n ∷ []) i 0 == t)) no_pair in
        let step : one_if (is_pair_of ops (numbers ++ n ∷ []) t i) ≡ 0 = ap one_if off in
        omega (arith, pairs_before_more ops (numbers ++ n ∷ []) t i, step, pairs_before_agree ops numbers (numbers ++ n ∷ []) t i below)

    pub tops_stay : (counts tops : List ℕ) (fence later : ℕ) → AreTops ops numbers counts tops fence i → IsTop (IsPairFenced ops (i + 1)) (numbers ++ n ∷ []) later → AreTops ops (numbers ++ n ∷ []) counts tops later (i + 1)
    tops_stay counts tops fence later t fenced =
        record {
          counts_are = λ k. t.counts_are k ∙ sym (counts_stay k);
          pulses = top_agrees (IsPairBefore ops i) (IsPairBefore ops (i + 1)) numbers (numbers ++ n ∷ []) (length counts)
              (λ j p. (omega (arith, p.0), p.1)) (λ j p. (not_here j p.0 p.1, p.1)) (λ j p. below j p.0) t.pulses;
          on_qubits = λ q q_in. top_agrees (IsPairOn ops q i) (IsPairOn ops q (i + 1)) numbers (numbers ++ n ∷ []) (get_or tops q 0)
              (λ j p. (omega (arith, p.0), p.1, p.2)) (λ j p. (not_here j p.0 p.1, p.1, p.2)) (λ j p. below j p.0) (t.on_qubits q q_in);
          fenced = fenced;
        }

  -- a pair takes the least pulse that has room
  module _ (p : ℕ × ℕ) (has : gate_qubits y ≡ Some p) (pair : is_pair (slice_get ops i) ≡ true) (counts later tops : List ℕ) (fence floor : ℕ) (t : AreTops ops numbers counts tops fence i)
      (is_floor : IsFloor ops numbers i floor) (least : IsLeastRoom counts sites floor n) (raised : IsRaised counts later n) where
    pair_gate : IsGate y
    pair_gate = let s = pair_stands ops i pair in subst IsGate (same_Some s.op y (sym s.is ∙ is)) s.gate

    pub pulse_number : IsPulseNumber ops sites (numbers ++ n ∷ []) i
    pulse_number =
        record {
          floor = floor;
          is_floor = floor_agrees ops numbers (numbers ++ n ∷ []) i floor y is pair_gate below is_floor;
          from_floor = omega (arith, least.from_floor, here);
          room = subst (λ (m : ℕ). pairs_before ops (numbers ++ n ∷ []) m i < sites) (sym here) (omega (arith, pairs_before_agree ops numbers (numbers ++ n ∷ []) n i below, t.counts_are n, least.room));
          full = λ k low lt. sym (pairs_before_agree ops numbers (numbers ++ n ∷ []) k i below) ∙ sym (t.counts_are k) ∙ least.full k low (omega (arith, here));
        }

    counts_raised : (k : ℕ) → get_or later k 0 ≡ pairs_before ops (numbers ++ n ∷ []) k (i + 1)
    counts_raised k =
        let more = pairs_before_more ops (numbers ++ n ∷ []) k i in
        let same = pairs_before_agree ops numbers (numbers ++ n ∷ []) k i below in
        let test : is_pair_of ops (numbers ++ n ∷ []) k i ≡ (n == k) = ap (λ (b : Bool). b && (get_or (numbers ++ n ∷ []) i 0 == k)) pair ∙ ap (λ (m : ℕ). m == k) here in
        ⊎_elim
        (λ (e : k ≡ n).
        let step : one_if (is_pair_of ops (numbers ++ n ∷ []) k i) ≡ 1 = ap one_if (test ∙ eq-eqb n k (sym e)) in
        let value : get_or later k 0 ≡ get_or counts k 0 + 1 = ap (λ (j : ℕ). get_or later j 0) e ∙ raised.here ∙ ap (λ (j : ℕ). get_or counts j 0 + 1) (sym e) in
        omega (arith, value, t.counts_are k, same, more, step))
        (λ apart.
        let step : one_if (is_pair_of ops (numbers ++ n ∷ []) k i) ≡ 0 = ap one_if (test ∙ ne_eqb n k (λ e. apart (sym e))) in
        omega (arith, raised.others k apart, t.counts_are k, same, more, step))
        (cases_eq k n)

    pulses_more : IsTop (IsPairBefore ops (i + 1)) (numbers ++ n ∷ []) (length later)
    pulses_more =
        record {
          above = λ j q. ⊎_elim
              (λ (e : j ≡ i). let value : get_or (numbers ++ n ∷ []) j 0 ≡ n = ap (λ (k : ℕ). get_or (numbers ++ n ∷ []) k 0) e ∙ here in omega (arith, value, raised.there))
              (λ apart. let low : j < i = omega (arith, q.0, apart) in omega (arith, below j low, t.pulses.above j (low, q.1), raised.longer))
              (cases_eq j i);
          reached = ⊎_elim
              (λ (same : length later ≡ length counts). ⊎_elim (λ (none : length counts ≡ 0). inl (same ∙ none))
              (λ found. inr (found.0, (omega (arith, found.1.0), found.1.1), omega (arith, below found.0 found.1.0, found.2, same)))
              t.pulses.reached)
              (λ (last : length later ≡ n + 1). inr (i, (omega arith, pair), omega (arith, here, last)))
              raised.size;
        }

    -- on its own qubits the pair is the last one
    own : (q top : ℕ) → top ≤ n → passes (is_gate_on q) (slice_get ops i) ≡ true → IsTop (IsPairOn ops q i) numbers top → IsTop (IsPairOn ops q (i + 1)) (numbers ++ n ∷ []) (n + 1)
    own q top le on top_is =
        record {
          above = λ j r. ⊎_elim
              (λ (e : j ≡ i). let value : get_or (numbers ++ n ∷ []) j 0 ≡ n = ap (λ (k : ℕ). get_or (numbers ++ n ∷ []) k 0) e ∙ here in omega (arith, value))
              (λ apart. let low : j < i = omega (arith, r.0, apart) in omega (arith, below j low, top_is.above j (low, r.1, r.2)))
              (cases_eq j i);
          reached = inr (i, (omega arith, pair, on), omega (arith, here));
        }

    -- on the others nothing changes
    other : (q top : ℕ) → q ≢ p.0 → q ≢ p.1 → IsTop (IsPairOn ops q i) numbers top → IsTop (IsPairOn ops q (i + 1)) (numbers ++ n ∷ []) top
    other q top not_left not_right top_is =
        let before : (j : ℕ) → IsPairOn ops q (i + 1) j → j < i = λ j r. ⊎_elim
        (λ (e : j ≡ i).
        let on : is_either q (Some p) ≡ true = sym (ap (is_either q) has) ∙ sym (ap (passes (is_gate_on q)) is) ∙ ap (λ (k : ℕ). passes (is_gate_on q) (slice_get ops k)) (sym e) ∙ r.2 in
        absurd (⊎_elim (λ (l : (p.0 == q) ≡ true). not_left (sym (eqb-true p.0 q l))) (λ (l : (p.1 == q) ≡ true). not_right (sym (eqb-true p.1 q l))) (or_cases (p.0 == q) (p.1 == q) on)))
        (λ apart. omega (arith, r.0, apart))
        (cases_eq j i) in
        top_agrees (IsPairOn ops q i) (IsPairOn ops q (i + 1)) numbers (numbers ++ n ∷ []) top (λ j r. (omega (arith, r.0), r.1, r.2)) (λ j r. (before j r, r.1, r.2)) (λ j r. below j r.0) top_is

    pub tops_more : p.0 < length tops → p.1 < length tops → get_or tops p.0 0 ≤ floor → get_or tops p.1 0 ≤ floor → y ≢ Fence →
        AreTops ops (numbers ++ n ∷ []) later (set (set tops p.0 (n + 1)) p.1 (n + 1)) fence (i + 1)
    tops_more left_in right_in left_le right_le no_fence =
        record {
          counts_are = counts_raised;
          pulses = pulses_more;
          on_qubits = λ q q_in.
              let Top : ℕ → Type 0 = λ f. IsTop (IsPairOn ops q (i + 1)) (numbers ++ n ∷ []) f in
              let tops' = set (set tops p.0 (n + 1)) p.1 (n + 1) in
              let q_low : q < length tops = omega (arith, length-set (set tops p.0 (n + 1)) p.1 (n + 1), length-set tops p.0 (n + 1)) in
              ⊎_elim
              (λ (e : q ≡ p.1).
              let value : get_or (set (set tops p.0 (n + 1)) p.1 (n + 1)) q 0 ≡ n + 1 = ap (λ (k : ℕ). get_or (set (set tops p.0 (n + 1)) p.1 (n + 1)) k 0) e ∙ get_or-set_same (set tops p.0 (n + 1)) p.1 (n + 1) 0 (omega (arith, length-set tops p.0 (n + 1), right_in)) in
              let on : passes (is_gate_on p.1) (slice_get ops i) ≡ true = passes_at (is_gate_on p.1) ops i y is (ap (is_either p.1) has ∙ or_right (p.0 == p.1) (p.1 == p.1) (eq-eqb p.1 p.1 refl)) in
              subst Top (sym value) (subst (λ (r : ℕ). IsTop (IsPairOn ops r (i + 1)) (numbers ++ n ∷ []) (n + 1)) (sym e) (own p.1 (get_or tops p.1 0) (omega (arith, least.from_floor)) on (t.on_qubits p.1 right_in))))
              (λ not_right. ⊎_elim
              (λ (e : q ≡ p.0).
              let value : get_or (set (set tops p.0 (n + 1)) p.1 (n + 1)) q 0 ≡ n + 1 =
              get_or-set_other (set tops p.0 (n + 1)) p.1 q (n + 1) 0 not_right ∙ ap (λ (k : ℕ). get_or (set tops p.0 (n + 1)) k 0) e ∙ get_or-set_same tops p.0 (n + 1) 0 left_in in
              let on : passes (is_gate_on p.0) (slice_get ops i) ≡ true = passes_at (is_gate_on p.0) ops i y is (ap (is_either p.0) has ∙ or_left (p.0 == p.0) (p.1 == p.0) (eq-eqb p.0 p.0 refl)) in
              subst Top (sym value) (subst (λ (r : ℕ). IsTop (IsPairOn ops r (i + 1)) (numbers ++ n ∷ []) (n + 1)) (sym e) (own p.0 (get_or tops p.0 0) (omega (arith, least.from_floor)) on (t.on_qubits p.0 left_in))))
              (λ not_left.
              let value : get_or (set (set tops p.0 (n + 1)) p.1 (n + 1)) q 0 ≡ get_or tops q 0 =
              get_or-set_other (set tops p.0 (n + 1)) p.1 q (n + 1) 0 not_right ∙ get_or-set_other tops p.0 q (n + 1) 0 not_left in
              subst Top (sym value) (other q (get_or tops q 0) not_left not_right (t.on_qubits q q_low)))
              (cases_eq q p.0))
              (cases_eq q p.1);
          fenced = fence_stays fence no_fence t.fenced;
        }
