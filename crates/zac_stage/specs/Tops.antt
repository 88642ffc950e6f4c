-- What is known of the numbers while a list of ops is gone through.
use Rattle.std.specs.Prelude.{◌≡◌, ℕ, ◌+◌, ◌<◌, ◌⊎◌, true, IsTrue, List, length, Some, slice_index}
use Rattle.std.specs.List.{slice_get}
use Rattle.zac_gates.specs.declared.circuit.Op.{Op}
use Rattle.zac_gates.specs.Ops.{IsGate, IsFencedBetween}
use Rattle.zac_gates.specs.Waiting.{is_gate_on, passes}
use Rattle.zac_stage.specs.Numbers.{is_pair, is_one, pairs_before, IsFloor, IsPulseNumber}

-- one more than the greatest number of the places of a set, and 0 where it is empty
pub record IsTop (P : ℕ → Type 0) (numbers : List ℕ) (top : ℕ) : Type 0 where
  pub above : (j : ℕ) → P j → slice_index numbers j < top
  pub reached : (top ≡ 0) ⊎ ((j : ℕ) × P j × (slice_index numbers j + 1 ≡ top))

-- a pair stands at this place, and before i
abbrev pub IsPairBefore : List Op → ℕ → ℕ → Type 0
IsPairBefore ops i j = (j < i) × IsTrue (is_pair (slice_get ops j))

-- a pair on the qubit stands at this place, and before i
abbrev pub IsPairOn : List Op → ℕ → ℕ → ℕ → Type 0
IsPairOn ops q i j = (j < i) × IsTrue (is_pair (slice_get ops j)) × (passes (is_gate_on q) (slice_get ops j) ≡ true)

-- a pair stands at this place, and a fence between it and i
abbrev pub IsPairFenced : List Op → ℕ → ℕ → Type 0
IsPairFenced ops i j = IsTrue (is_pair (slice_get ops j)) × IsFencedBetween ops j i

-- the numbers of the first i ops are right
pub record AreNumbered (ops : List Op) (sites : ℕ) (numbers : List ℕ) (i : ℕ) : Type 0 where
  pub len : length numbers ≡ i
  pub pairs : (k : ℕ) → k < i → IsTrue (is_pair (slice_get ops k)) → IsPulseNumber ops sites numbers k
  pub ones : (k : ℕ) → k < i → IsTrue (is_one (slice_get ops k)) → IsFloor ops numbers k (slice_index numbers k)
  pub others : (k : ℕ) (op : Op) → k < i → slice_get ops k ≡ Some op → ¬ IsGate op → slice_index numbers k ≡ 0

-- how many pairs each pulse has, and how far each qubit and the last fence have come, after the first i ops
pub record AreTops (ops : List Op) (numbers counts tops : List ℕ) (fence i : ℕ) : Type 0 where
  pub counts_are : (t : ℕ) → slice_index counts t ≡ pairs_before ops numbers t i
  pub pulses : IsTop (IsPairBefore ops i) numbers (length counts)
  pub on_qubits : (q : ℕ) → q < length tops → IsTop (IsPairOn ops q i) numbers (slice_index tops q)
  pub fenced : IsTop (IsPairFenced ops i) numbers fence
