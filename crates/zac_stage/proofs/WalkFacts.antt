-- One step of the walk, for each kind of op.
use Rattle.std.proofs.Common.{◌≡◌, ℕ, ◌+◌, ◌<◌, ◌≤◌, ◌⊎◌, true, false, List, [], ◌∷◌, ◌++◌, length, get_or, set, Some, refl, ap, inl, inr, ⊎_elim, arith}
use Rattle.std.specs.List.{slice_get}
use Rattle.std.proofs.lemmas.Option.{slice_get_within}
use Rattle.zac_gates.specs.declared.circuit.Op.{Op}
use Rattle.zac_gates.specs.declared.circuit.Op.TheVariants.{One, Two, Fence, Read}
use Rattle.zac_gates.specs.declared.angle.Angles.{Angles}
use Rattle.zac_stage.specs.Numbers.{is_pair, is_one, IsFloor, IsNumbering, IsPulseCount}
use Rattle.zac_stage.specs.Rooms.{IsLeastRoom, IsRaised}
use Rattle.zac_stage.specs.Tops.{IsTop, IsPairBefore, AreNumbered, AreTops}
use Rattle.zac_stage.proofs.NumbersFacts.{pair_stands, one_stands, floor_agrees}
use Rattle.zac_stage.proofs.TopsFacts.{floor_from_tops, below, numbered_more, fence_stays, fence_moves, tops_stay, pulse_number, tops_more}

-- no top is past the pulses
top_within : (P Q : ℕ → Type 0) (numbers : List ℕ) (top pulses : ℕ) → ((j : ℕ) → P j → Q j) → IsTop P numbers top → IsTop Q numbers pulses → top ≤ pulses
top_within P Q numbers top pulses inside one all =
    ⊎_elim (λ none. omega (arith, none)) (λ found. omega (arith, found.2, all.above found.0 (inside found.0 found.1))) one.reached

pub fence_within : (ops : List Op) (numbers counts tops : List ℕ) (fence i : ℕ) → AreTops ops numbers counts tops fence i → fence ≤ length counts
fence_within ops numbers counts tops fence i t =
    top_within _ (IsPairBefore ops i) numbers fence (length counts) (λ j p. (omega (arith, p.1.1, p.1.2), p.0)) t.fenced t.pulses

pub top_of_within : (ops : List Op) (numbers counts tops : List ℕ) (fence i q : ℕ) → AreTops ops numbers counts tops fence i → q < length tops → get_or tops q 0 ≤ length counts
top_of_within ops numbers counts tops fence i q t q_in =
    top_within _ (IsPairBefore ops i) numbers (get_or tops q 0) (length counts) (λ j p. (p.0, p.1)) (t.on_qubits q q_in) t.pulses

module _ (ops : List Op) (sites : ℕ) (numbers counts tops : List ℕ) (fence i n : ℕ) (numbered : AreNumbered ops sites numbers i) (t : AreTops ops numbers counts tops fence i) where
  pub one_step : (q : ℕ) (angles : Angles) → slice_get ops i ≡ Some (One q angles) → q < length tops → fence ≤ n → get_or tops q 0 ≤ n → ((n ≡ fence) ⊎ ((n ≡ get_or tops q 0) ⊎ (n ≡ get_or tops q 0))) →
      AreNumbered ops sites (numbers ++ n ∷ []) (i + 1) × AreTops ops (numbers ++ n ∷ []) counts tops fence (i + 1)
  one_step q angles is q_in fence_le top_le which =
      let y : Op = One q angles in
      let no_pair : is_pair (slice_get ops i) ≡ false = ap is_pair is in
      let floor : IsFloor ops numbers i n = floor_from_tops ops numbers i y (q, q) (get_or tops q 0) (get_or tops q 0) fence n is refl tt (t.on_qubits q q_in) (t.on_qubits q q_in) t.fenced fence_le top_le top_le which in
      let later : IsFloor ops (numbers ++ n ∷ []) i n = floor_agrees ops numbers (numbers ++ n ∷ []) i n y is tt (below ops sites numbers i n y is numbered) floor in (
        numbered_more ops sites numbers i n y is numbered (λ pair. cc) (λ one. later) (λ none. absurd (none tt)),
        tops_stay ops sites numbers i n y is numbered no_pair counts tops fence fence t (fence_stays ops sites numbers i n y is numbered fence (λ e. cc) t.fenced),
      )

  pub pair_step : (a b floor : ℕ) (later : List ℕ) → slice_get ops i ≡ Some (Two a b) → a < length tops → b < length tops → fence ≤ floor → get_or tops a 0 ≤ floor → get_or tops b 0 ≤ floor →
      ((floor ≡ fence) ⊎ ((floor ≡ get_or tops a 0) ⊎ (floor ≡ get_or tops b 0))) → IsLeastRoom counts sites floor n → IsRaised counts later n →
      AreNumbered ops sites (numbers ++ n ∷ []) (i + 1) × AreTops ops (numbers ++ n ∷ []) later (set (set tops a (n + 1)) b (n + 1)) fence (i + 1)
  pair_step a b floor later is a_in b_in fence_le left_le right_le which least raised =
      let y : Op = Two a b in
      let pair : is_pair (slice_get ops i) ≡ true = ap is_pair is in
      let is_floor : IsFloor ops numbers i floor = floor_from_tops ops numbers i y (a, b) (get_or tops a 0) (get_or tops b 0) fence floor is refl tt (t.on_qubits a a_in) (t.on_qubits b b_in) t.fenced fence_le left_le right_le which in
      let no_one : is_one (slice_get ops i) ≡ false = ap is_one is in (
        numbered_more ops sites numbers i n y is numbered (λ p. pulse_number ops sites numbers i n y is numbered (a, b) refl pair counts later tops fence floor t is_floor least raised)
            (λ one. cc) (λ none. absurd (none tt)),
        tops_more ops sites numbers i n y is numbered (a, b) refl pair counts later tops fence floor t is_floor least raised a_in b_in left_le right_le (λ e. cc),
      )

  pub fence_step : slice_get ops i ≡ Some Fence → n ≡ 0 →
      AreNumbered ops sites (numbers ++ n ∷ []) (i + 1) × AreTops ops (numbers ++ n ∷ []) counts tops (length counts) (i + 1)
  fence_step is none =
      let no_pair : is_pair (slice_get ops i) ≡ false = ap is_pair is in
      let no_one : is_one (slice_get ops i) ≡ false = ap is_one is in (
        numbered_more ops sites numbers i n Fence is numbered (λ pair. cc) (λ one. cc) (λ gate. none),
        tops_stay ops sites numbers i n Fence is numbered no_pair counts tops fence (length counts) t (fence_moves ops sites numbers i n Fence is numbered (length counts) refl t.pulses),
      )

  pub read_step : (q bit : ℕ) → slice_get ops i ≡ Some (Read q bit) → n ≡ 0 →
      AreNumbered ops sites (numbers ++ n ∷ []) (i + 1) × AreTops ops (numbers ++ n ∷ []) counts tops fence (i + 1)
  read_step q bit is none =
      let no_pair : is_pair (slice_get ops i) ≡ false = ap is_pair is in
      let no_one : is_one (slice_get ops i) ≡ false = ap is_one is in (
        numbered_more ops sites numbers i n (Read q bit) is numbered (λ pair. cc) (λ one. cc) (λ gate. none),
        tops_stay ops sites numbers i n (Read q bit) is numbered no_pair counts tops fence fence t (fence_stays ops sites numbers i n (Read q bit) is numbered fence (λ e. cc) t.fenced),
      )

-- all ops have their numbers
pub numbered_all : (ops : List Op) (sites : ℕ) (numbers : List ℕ) → AreNumbered ops sites numbers (length ops) → IsNumbering ops sites numbers
numbered_all ops sites numbers a =
    record {
      each = a.len;
      pairs = λ k pair. let s = pair_stands ops k pair in a.pairs k (slice_get_within ops k s.op s.is) pair;
      ones = λ k one. let s = one_stands ops k one in a.ones k (slice_get_within ops k s.op s.is) one;
      others = λ k op is none. a.others k op (slice_get_within ops k op is) is none;
    }

pub counted_all : (ops : List Op) (numbers counts tops : List ℕ) (fence : ℕ) → AreTops ops numbers counts tops fence (length ops) → IsPulseCount ops numbers (length counts)
counted_all ops numbers counts tops fence t =
    record {
      above = λ k pair. let s = pair_stands ops k pair in t.pulses.above k (slice_get_within ops k s.op s.is, pair);
      reached = ⊎_elim (λ none. inl none) (λ found. inr (found.0, found.1.1, found.2)) t.pulses.reached;
    }
