-- Pulse numbers of pairs, slots of one-qubit gates, and which of them are right.
use Rattle.std.specs.Prelude.{◌≡◌, ◌==◌, ℕ, ◌+◌, ◌<◌, ◌≤◌, ◌⊎◌, ◌&&◌, Bool, true, false, IsTrue, List, length, Option, Some, None, slice_index, filter, count_by}
use Rattle.std.specs.List.{slice_get, range_with_len}
use Rattle.zac_gates.specs.declared.circuit.Op.{Op}
use Rattle.zac_gates.specs.declared.circuit.Op.TheVariants.{One, Two, Fence, Read}
use Rattle.zac_gates.specs.Ops.{IsGate, MustFollow}

-- The op, if there is one, is a pair.
abbrev pub is_pair : Option Op → Bool
is_pair None = false
is_pair (Some (One q angles)) = false
is_pair (Some (Two a b)) = true
is_pair (Some Fence) = false
is_pair (Some (Read q bit)) = false

-- The op, if there is one, is a one-qubit gate.
abbrev pub is_one : Option Op → Bool
is_one None = false
is_one (Some (One q angles)) = true
is_one (Some (Two a b)) = false
is_one (Some Fence) = false
is_one (Some (Read q bit)) = false

-- The op at this place is a pair, and its number is t.
abbrev pub is_pair_of : List Op → List ℕ → ℕ → ℕ → Bool
is_pair_of ops numbers t k = is_pair (slice_get ops k) && (slice_index numbers k == t)

-- The op at this place is a one-qubit gate, and its number is t.
abbrev pub is_one_of : List Op → List ℕ → ℕ → ℕ → Bool
is_one_of ops numbers t k = is_one (slice_get ops k) && (slice_index numbers k == t)

-- How many pairs before the place i have the number t.
abbrev pub pairs_before : List Op → List ℕ → ℕ → ℕ → ℕ
pairs_before ops numbers t i = count_by (is_pair_of ops numbers t) (range_with_len 0 i)

-- The floor of the gate at the place i: one more than the greatest number of a pair that the gate must follow, and 0
-- where it must follow none.
pub record IsFloor (ops : List Op) (numbers : List ℕ) (i floor : ℕ) : Type 0 where
  -- each pair that the gate must follow has a number below it
  pub above : (j : ℕ) → IsTrue (is_pair (slice_get ops j)) → MustFollow ops j i → slice_index numbers j < floor
  -- it is 0, or one more than the number of such a pair
  pub reached : (floor ≡ 0) ⊎ ((j : ℕ) × IsTrue (is_pair (slice_get ops j)) × MustFollow ops j i × (slice_index numbers j + 1 ≡ floor))

-- The number of the pair at the place i is the least one from its floor on that has room: fewer than `sites` earlier
-- pairs have it, and each number from the floor up to it is had by `sites` earlier pairs.
pub record IsPulseNumber (ops : List Op) (sites : ℕ) (numbers : List ℕ) (i : ℕ) : Type 0 where
  pub floor : ℕ
  pub is_floor : IsFloor ops numbers i floor
  pub from_floor : floor ≤ slice_index numbers i
  pub room : pairs_before ops numbers (slice_index numbers i) i < sites
  pub full : (t : ℕ) → floor ≤ t → t < slice_index numbers i → pairs_before ops numbers t i ≡ sites

-- The numbers of the ops of a list, for pulses of this many sites, after ZAC's earliest stages (Lin, Tan and Cong, HPCA
-- 2025). A pair has the number of its pulse. A one-qubit gate has its floor, which is the number of its slot: it is
-- performed before the pulse of that number. A fence and a read have 0.
pub record IsNumbering (ops : List Op) (sites : ℕ) (numbers : List ℕ) : Type 0 where
  pub each : length numbers ≡ length ops
  pub pairs : (i : ℕ) → IsTrue (is_pair (slice_get ops i)) → IsPulseNumber ops sites numbers i
  pub ones : (i : ℕ) → IsTrue (is_one (slice_get ops i)) → IsFloor ops numbers i (slice_index numbers i)
  pub others : (i : ℕ) (op : Op) → slice_get ops i ≡ Some op → ¬ IsGate op → slice_index numbers i ≡ 0

-- The number of pulses: one more than the greatest number of a pair, and 0 where there is no pair.
pub record IsPulseCount (ops : List Op) (numbers : List ℕ) (pulses : ℕ) : Type 0 where
  pub above : (i : ℕ) → IsTrue (is_pair (slice_get ops i)) → slice_index numbers i < pulses
  pub reached : (pulses ≡ 0) ⊎ ((i : ℕ) × IsTrue (is_pair (slice_get ops i)) × (slice_index numbers i + 1 ≡ pulses))

-- The numbers of the pairs of pulse t, rising.
abbrev pub pairs_of : List Op → List ℕ → ℕ → List ℕ
pairs_of ops numbers t = filter (is_pair_of ops numbers t) (range_with_len 0 (length ops))

-- The numbers of the one-qubit gates of slot t, rising.
abbrev pub ones_of : List Op → List ℕ → ℕ → List ℕ
ones_of ops numbers t = filter (is_one_of ops numbers t) (range_with_len 0 (length ops))

-- Numbers follow what must follow: of two gates of which the second must follow the first, the second has no smaller
-- number, and a greater one where the first is a pair.
abbrev pub NumbersFollow : List Op → List ℕ → Type 0
NumbersFollow ops numbers =
    (i j : ℕ) (op : Op) → MustFollow ops i j → slice_get ops j ≡ Some op → IsGate op →
    (slice_index numbers i ≤ slice_index numbers j) × (IsTrue (is_pair (slice_get ops i)) → slice_index numbers i < slice_index numbers j)
