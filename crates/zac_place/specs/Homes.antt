-- Which storage trap each qubit rests in at first.
use Rattle.std.specs.Prelude.{ℕ, ◌≡◌, ◌≢◌, ◌==◌, ◌+◌, ◌<◌, ◌||◌, ◌⊎◌, Bool, false, List, [], ◌∷◌, length, Some, if◌then◌else◌}
use Rattle.std.specs.List.{All, AllPairs, Contains, slice_get}
use Rattle.zac_arch.specs.Architecture.{Architecture, storage_count, left_trap}
use Rattle.zac_arch.specs.Distances.{difference}
use Rattle.zac_arch.specs.declared.place.TrapId.{TrapId}
use Rattle.zac_gates.specs.Ops.{NativeCircuit}
use Rattle.zac_gates.specs.declared.circuit.Op.{Op}
use Rattle.zac_gates.specs.declared.circuit.Op.TheVariants.{One, Two, Fence, Read}
use Rattle.zac_world.specs.Nearest.{point_of}

-- The op is a pair on the qubit.
abbrev pub is_pair_on : ℕ → Op → Bool
is_pair_on q (One r angles) = false
is_pair_on q (Two a b) = (a == q) || (b == q)
is_pair_on q Fence = false
is_pair_on q (Read r bit) = false

-- The number of the first pair on the qubit, and the count of all ops where there is none.
abbrev pub first_pair : List Op → ℕ → ℕ
first_pair [] q = 0
first_pair (op ∷ ops) q = if is_pair_on q op then 0 else first_pair ops q + 1

-- The first qubit is used before the second one: its first pair comes earlier, a qubit without one coming last; where
-- these are equal, its number is smaller.
abbrev pub IsUsedBefore : List Op → ℕ → ℕ → Type 0
IsUsedBefore ops q r = (first_pair ops q < first_pair ops r) ⊎ ((first_pair ops q ≡ first_pair ops r) × (q < r))

-- How far a trap and the left trap of site 0 are apart in y.
abbrev pub rise : Architecture → ℕ → ℕ
rise a t = difference (point_of a t).y (point_of a (left_trap a 0)).y

-- How far they are apart in x.
abbrev pub run : Architecture → ℕ → ℕ
run a t = difference (point_of a t).x (point_of a (left_trap a 0)).x

-- The first trap is filled before the second one: it is nearer to site 0 in y; where these are equal, in x; where these
-- are too, its number is smaller.
abbrev pub IsFilledBefore : Architecture → ℕ → ℕ → Type 0
IsFilledBefore a t u =
    (rise a t < rise a u) ⊎ ((rise a t ≡ rise a u) × ((run a t < run a u) ⊎ ((run a t ≡ run a u) × (t < u))))

-- All numbers below a count, and no others, each before those that it comes before.
pub record IsOrderBelow (Before : ℕ → ℕ → Type 0) (count : ℕ) (numbers : List ℕ) : Type 0 where
  pub all : (n : ℕ) → n < count → Contains numbers n
  pub below : All (λ n. n < count) numbers
  pub in_order : AllPairs Before numbers

-- Each qubit has a home: in the order of their use, the qubits rest in the storage traps in the order of their filling.
pub record AreHomesByUse (a : Architecture) (c : NativeCircuit) (homes : List TrapId) : Type 0 where
  -- the qubits in the order of their use
  pub qubits : List ℕ
  pub used : IsOrderBelow (IsUsedBefore c.ops) c.qubits qubits
  -- the storage traps in the order of their filling
  pub traps : List ℕ
  pub filled : IsOrderBelow (IsFilledBefore a) (storage_count a) traps
  -- each qubit has a home, and the k-th qubit rests in the k-th trap
  pub each : length homes ≡ c.qubits
  pub rest : (k q t : ℕ) → slice_get qubits k ≡ Some q → slice_get traps k ≡ Some t → slice_get homes q ≡ Some (record { 0 = t })

-- Each of so many qubits has a home, a storage trap of its own.
pub record AreApartInStorage (a : Architecture) (qubits : ℕ) (homes : List TrapId) : Type 0 where
  pub each : length homes ≡ qubits
  pub in_storage : All (λ h. h.0 < storage_count a) homes
  pub distinct : AllPairs (λ g h. g.0 ≢ h.0) homes
