-- Native ops, which of them are valid, and which op waits for which.
use Rattle.std.specs.Prelude.{◌≡◌, ◌≢◌, ℕ, suc, ◌<◌, ◌^◌, ◌⊎◌, length, Bool, true, false, List, [], ◌∷◌, Some}
use Rattle.std.specs.List.{slice_get}
use Rattle.zac_gates.specs.declared.circuit.Op.{Op}
use Rattle.zac_gates.specs.declared.circuit.Op.TheVariants.{One, Two, Fence, Read}
use Rattle.zac_gates.specs.declared.circuit.CircuitFault as faults
use Rattle.zac_gates.specs.declared.circuit.CircuitFault.{CircuitFault}

-- A number of qubits, a number of bits, and a list of ops. The number of an op is its place in the list. It is the
-- model of a `Circuit`.
pub record NativeCircuit : Type 0 where
  pub qubits : ℕ
  pub bits : ℕ
  pub ops : List Op

-- The op is a one-qubit gate or a pair.
abbrev pub IsGate : Op → Type 0
IsGate (One q angles) = Unit {0}
IsGate (Two a b) = Unit {0}
IsGate Fence = ⊥
IsGate (Read q bit) = ⊥

-- The op is a read.
abbrev pub IsRead : Op → Type 0
IsRead (One q angles) = ⊥
IsRead (Two a b) = ⊥
IsRead Fence = ⊥
IsRead (Read q bit) = Unit {0}

-- The same as IsGate, as a test.
abbrev pub is_gate : Op → Bool
is_gate (One q angles) = true
is_gate (Two a b) = true
is_gate Fence = false
is_gate (Read q bit) = false

-- The same as IsRead, as a test.
abbrev pub is_read : Op → Bool
is_read (One q angles) = false
is_read (Two a b) = false
is_read Fence = false
is_read (Read q bit) = true

-- The op is a fence.
abbrev pub is_fence : Op → Bool
is_fence (One q angles) = false
is_fence (Two a b) = false
is_fence Fence = true
is_fence (Read q bit) = false

-- How many of these ops are pairs.
abbrev pub pairs_in : List Op → ℕ
pairs_in [] = 0
pairs_in (Two a b ∷ ops) = suc (pairs_in ops)
pairs_in (other ∷ ops) = pairs_in ops

-- The op names the qubit. A pair names both of its qubits, and a fence names none.
abbrev pub Names : Op → ℕ → Type 0
Names (One p angles) q = p ≡ q
Names (Two a b) q = (a ≡ q) ⊎ (b ≡ q)
Names Fence q = ⊥
Names (Read p bit) q = p ≡ q

-- A fence stands strictly between these two places of the list.
abbrev pub IsFencedBetween : List Op → ℕ → ℕ → Type 0
IsFencedBetween ops i j = (k : ℕ) × (i < k) × (k < j) × (slice_get ops k ≡ Some Fence)

-- The second op must come after the first. A gate must follow an earlier gate that shares a qubit with it or has a
-- fence between; a read must follow every gate, wherever that stands, and every earlier read.
pub record MustFollow (ops : List Op) (first second : ℕ) : Type 0 where
  pub a : Op
  pub b : Op
  pub a_is : slice_get ops first ≡ Some a
  pub b_is : slice_get ops second ≡ Some b
  pub reason :
      (IsGate a × IsGate b × (first < second) × (((q : ℕ) × Names a q × Names b q) ⊎ IsFencedBetween ops first second))
      ⊎ (IsRead b × (IsGate a ⊎ (IsRead a × (first < second))))

-- The op's qubits and its bit are below their counts, and a pair has two different qubits.
abbrev pub IsInRange : ℕ → ℕ → Op → Type 0
IsInRange qubits bits (One q angles) = q < qubits
IsInRange qubits bits (Two a b) = (a < qubits) × (b < qubits) × (a ≢ b)
IsInRange qubits bits Fence = Unit {0}
IsInRange qubits bits (Read q bit) = (q < qubits) × (bit < bits)

-- An op before this place reads the qubit.
abbrev pub IsReadBefore : List Op → ℕ → ℕ → Type 0
IsReadBefore ops n q = (i : ℕ) × (bit : ℕ) × (i < n) × (slice_get ops i ≡ Some (Read q bit))

-- The op at this place is in range, and names no qubit that was read before it.
pub record IsValidAt (c : NativeCircuit) (n : ℕ) (op : Op) : Type 0 where
  pub in_range : IsInRange c.qubits c.bits op
  pub unread : (q : ℕ) → Names op q → ¬ IsReadBefore c.ops n q

-- Each op before this place is valid.
abbrev pub AreValidBelow : NativeCircuit → ℕ → Type 0
AreValidBelow c n = (k : ℕ) (op : Op) → k < n → slice_get c.ops k ≡ Some op → IsValidAt c k op

-- Each op is valid.
abbrev pub IsValid : NativeCircuit → Type 0
IsValid c = (k : ℕ) (op : Op) → slice_get c.ops k ≡ Some op → IsValidAt c k op

-- Each op is valid, and there are fewer than 2³² ops. It is the invariant of a `Circuit`.
pub record IsCircuit (c : NativeCircuit) : Type 0 where
  pub valid : IsValid c
  pub few : length c.ops < 2 ^ 32

-- Each op before this place is valid, and the op at it is not.
abbrev pub IsFirstInvalid : NativeCircuit → ℕ → Type 0
IsFirstInvalid c n = AreValidBelow c n × ((op : Op) × (slice_get c.ops n ≡ Some op) × ¬ IsValidAt c n op)

-- Why a list of ops is refused: the fault names the first op that isn't valid, or memory was wanting, of which nothing
-- more is said.
abbrev pub IsCauseOf : NativeCircuit → CircuitFault → Type 0
IsCauseOf c (faults.TheVariants.Op n) = IsFirstInvalid c n
IsCauseOf c faults.TheVariants.Memory = Unit {0}
