-- Each list has right numbers.
use Rattle.std.proofs.Common.{◌≡◌, ℕ, zero, suc, ◌+◌, ◌-◌, ◌<◌, ◌≤◌, ◌⊎◌, List, [], ◌∷◌, ◌++◌, length, get_or, set, replicate, Some, refl, sym, ap, ◌∙◌, subst, inl, inr, ⊎_elim, arith}
use Rattle.std.specs.List.{slice_get}
use Rattle.std.proofs.lemmas.Bool.{cases_lt, cases_eq}
use Rattle.std.proofs.lemmas.List.{get_or_append_left, get_or_push, length-append, length-set, get_or-set_same, get_or-set_other, get_or-replicate, length-replicate}
use Rattle.std.proofs.lemmas.Option.{slice_get-get_or}
use Rattle.zac_gates.specs.declared.circuit.Op.{Op}
use Rattle.zac_gates.specs.declared.circuit.Op.TheVariants.{One, Two, Fence, Read}
use Rattle.zac_gates.specs.Waiting.{HasQubitsBelow}
use Rattle.zac_stage.specs.Numbers.{IsNumbering}
use Rattle.zac_stage.specs.Rooms.{IsLeastRoom, IsRaised}
use Rattle.zac_stage.specs.Tops.{AreNumbered, AreTops}
use Rattle.zac_stage.proofs.WalkFacts.{fence_within, top_of_within, one_step, pair_step, fence_step, read_step, numbered_all}

past_end : (xs : List ℕ) (k : ℕ) → length xs ≤ k → get_or xs k 0 ≡ 0
past_end [] k le = refl
past_end (x ∷ xs) zero le = absurd (omega arith)
past_end (x ∷ xs) (suc k) le = past_end xs k (omega arith)

-- from each number on some pulse has room
room_from : (counts : List ℕ) (sites floor gap : ℕ) → 1 ≤ sites → ((t : ℕ) → get_or counts t 0 ≤ sites) → floor + gap ≡ length counts → (n : ℕ) × IsLeastRoom counts sites floor n
room_from counts sites floor zero some most e =
    (floor, record { from_floor = omega arith; within = omega arith; room = omega (arith, past_end counts floor (omega arith)); full = λ k low lt. absurd (omega arith) })
room_from counts sites floor (suc gap) some most e =
    ⊎_elim
    (λ (lt : get_or counts floor 0 < sites). (floor, record { from_floor = omega arith; within = omega arith; room = lt; full = λ k low l. absurd (omega arith) }))
    (λ (le : sites ≤ get_or counts floor 0).
    let r = room_from counts sites (floor + 1) gap some most (omega arith) in (
      r.0,
      record {
        from_floor = omega (arith, r.1.from_floor);
        within = r.1.within;
        room = r.1.room;
        full = λ k low l. ⊎_elim
            (λ (same : k ≡ floor). ap (λ (j : ℕ). get_or counts j 0) same ∙ omega (arith, most floor, le))
            (λ apart. r.1.full k (omega (arith, apart)) l)
            (cases_eq k floor);
      },
    ))
    (cases_lt (get_or counts floor 0) sites)

raise : (counts : List ℕ) (n : ℕ) → n ≤ length counts → (later : List ℕ) × IsRaised counts later n
raise counts n le =
    ⊎_elim
    (λ (lt : n < length counts).
    let c = get_or counts n 0 + 1 in (
      set counts n c,
      record {
        here = get_or-set_same counts n c 0 lt;
        others = λ k apart. get_or-set_other counts n k c 0 apart;
        there = omega (arith, lt, length-set counts n c);
        longer = omega (arith, length-set counts n c);
        size = inl (length-set counts n c);
      },
    ))
    (λ (ge : length counts ≤ n).
    let size = length-append counts (1 ∷ []) in (
      counts ++ 1 ∷ [],
      record {
        here = get_or_push counts 1 0 n (omega arith) ∙ omega (arith, past_end counts n ge);
        others = λ k apart. ⊎_elim
            (λ (l : k < length counts). get_or_append_left counts (1 ∷ []) 0 k l)
            (λ (l : length counts ≤ k). past_end (counts ++ 1 ∷ []) k (omega (arith, size, apart, ge)) ∙ sym (past_end counts k l))
            (cases_lt k (length counts));
        there = omega (arith, size, ge);
        longer = omega (arith, size);
        size = inr (omega (arith, size, ge));
      },
    ))
    (cases_lt n (length counts))

greatest : (a b c : ℕ) → (r : ℕ) × ((a ≤ r) × (b ≤ r) × (c ≤ r) × ((r ≡ a) ⊎ ((r ≡ b) ⊎ (r ≡ c))))
greatest a b c =
    ⊎_elim
    (λ (l : a < b). ⊎_elim (λ (m : b < c). (c, (omega arith, omega arith, omega arith, inr (inr refl)))) (λ (m : c ≤ b). (b, (omega arith, omega arith, omega arith, inr (inl refl)))) (cases_lt b c))
    (λ (l : b ≤ a). ⊎_elim (λ (m : a < c). (c, (omega arith, omega arith, omega arith, inr (inr refl)))) (λ (m : c ≤ a). (a, (omega arith, omega arith, omega arith, inl refl))) (cases_lt a c))
    (cases_lt a b)

-- the first i ops can be numbered
record Walked (ops : List Op) (sites qubits i : ℕ) : Type 0 where
  numbers : List ℕ
  counts : List ℕ
  tops : List ℕ
  fence : ℕ
  numbered : AreNumbered ops sites numbers i
  are : AreTops ops numbers counts tops fence i
  size : length tops ≡ qubits
  most : (t : ℕ) → get_or counts t 0 ≤ sites

module _ (ops : List Op) (sites qubits : ℕ) (some : 1 ≤ sites) (in_range : HasQubitsBelow ops qubits) where
  start : Walked ops sites qubits 0
  start =
      let zeroes : List ℕ = replicate qubits 0 in
      record {
        numbers = [];
        counts = [];
        tops = zeroes;
        fence = 0;
        numbered = record {
          len = refl;
          pairs = λ k lt pair. absurd (omega arith);
          ones = λ k lt one. absurd (omega arith);
          others = λ k op lt at none. absurd (omega arith);
        };
        are = record {
          counts_are = λ t. refl;
          pulses = record { above = λ j p. absurd (omega (arith, p.0)); reached = inl refl };
          on_qubits = λ q q_in. record { above = λ j p. absurd (omega (arith, p.0)); reached = inl (get_or-replicate {A = ℕ} qubits q 0 0 (omega (arith, length-replicate {A = ℕ} qubits 0))) };
          fenced = record { above = λ j p. absurd (omega (arith, p.1.1, p.1.2)); reached = inl refl };
        };
        size = length-replicate {A = ℕ} qubits 0;
        most = λ t. omega arith;
      }

  step : (i : ℕ) (op : Op) → slice_get ops i ≡ Some op → Walked ops sites qubits i → Walked ops sites qubits (i + 1)
  step i (One q angles) is w =
      let q_in : q < length w.tops = omega (arith, (in_range i (One q angles) (q, q) is refl).0, w.size) in
      let g = greatest w.fence (get_or w.tops q 0) (get_or w.tops q 0) in
      let s = one_step ops sites w.numbers w.counts w.tops w.fence i g.0 w.numbered w.are q angles is q_in g.1.0 g.1.1 g.1.3 in
      record { numbers = w.numbers ++ g.0 ∷ []; counts = w.counts; tops = w.tops; fence = w.fence; numbered = s.0; are = s.1; size = w.size; most = w.most }
  step i (Two a b) is w =
      let range = in_range i (Two a b) (a, b) is refl in
      let a_in : a < length w.tops = omega (arith, range.0, w.size) in
      let b_in : b < length w.tops = omega (arith, range.1, w.size) in
      let g = greatest w.fence (get_or w.tops a 0) (get_or w.tops b 0) in
      let floor = g.0 in
      let floor_in : floor ≤ length w.counts = ⊎_elim
      (λ (e : floor ≡ w.fence). omega (arith, e, fence_within ops w.numbers w.counts w.tops w.fence i w.are))
      (λ other. ⊎_elim
      (λ (e : floor ≡ get_or w.tops a 0). omega (arith, e, top_of_within ops w.numbers w.counts w.tops w.fence i a w.are a_in))
      (λ (e : floor ≡ get_or w.tops b 0). omega (arith, e, top_of_within ops w.numbers w.counts w.tops w.fence i b w.are b_in))
      other)
      g.1.3 in
      let r = room_from w.counts sites floor (length w.counts - floor) some w.most (omega arith) in
      let n = r.0 in
      let u = raise w.counts n r.1.within in
      let s = pair_step ops sites w.numbers w.counts w.tops w.fence i n w.numbered w.are a b floor u.0 is a_in b_in g.1.0 g.1.1 g.1.2 g.1.3 r.1 u.1 in
      record {
        numbers = w.numbers ++ n ∷ [];
        counts = u.0;
        tops = set (set w.tops a (n + 1)) b (n + 1);
        fence = w.fence;
        numbered = s.0;
        are = s.1;
        size = length-set (set w.tops a (n + 1)) b (n + 1) ∙ length-set w.tops a (n + 1) ∙ w.size;
        most = λ t. ⊎_elim
            (λ (same : t ≡ n). let value : get_or u.0 t 0 ≡ get_or w.counts n 0 + 1 = ap (λ (k : ℕ). get_or u.0 k 0) same ∙ u.1.here in omega (arith, value, r.1.room))
            (λ apart. omega (arith, u.1.others t apart, w.most t))
            (cases_eq t n);
      }
  step i Fence is w =
      let s = fence_step ops sites w.numbers w.counts w.tops w.fence i 0 w.numbered w.are is refl in
      record { numbers = w.numbers ++ 0 ∷ []; counts = w.counts; tops = w.tops; fence = length w.counts; numbered = s.0; are = s.1; size = w.size; most = w.most }
  step i (Read q bit) is w =
      let s = read_step ops sites w.numbers w.counts w.tops w.fence i 0 w.numbered w.are q bit is refl in
      record { numbers = w.numbers ++ 0 ∷ []; counts = w.counts; tops = w.tops; fence = w.fence; numbered = s.0; are = s.1; size = w.size; most = w.most }

walked : (ops : List Op) (sites qubits : ℕ) → 1 ≤ sites → HasQubitsBelow ops qubits → (i : ℕ) → i ≤ length ops → Walked ops sites qubits i
walked ops sites qubits some in_range zero le = start ops sites qubits some in_range
walked ops sites qubits some in_range (suc i) le =
    let one : i + 1 ≡ suc i = omega arith in
    subst (Walked ops sites qubits) one
    (step ops sites qubits some in_range i (get_or ops i Fence) (slice_get-get_or ops i Fence (omega arith)) (walked ops sites qubits some in_range i (omega arith)))

-- there are right numbers
pub numbering_exists : (ops : List Op) (sites qubits : ℕ) → 1 ≤ sites → HasQubitsBelow ops qubits → (numbers : List ℕ) × IsNumbering ops sites numbers
numbering_exists ops sites qubits some in_range =
    let w = walked ops sites qubits some in_range (length ops) (omega arith) in
    (w.numbers, numbered_all ops sites w.numbers w.numbered)
