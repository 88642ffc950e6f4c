-- Inside: which gates of two pulses share a qubit, by their places in the pulses.
use Rattle.std.specs.Prelude.{◌≡◌, ◌≢◌, ℕ, ◌<◌, ◌^◌, IsTrue, List, length, Option, Some, slice_index, map}
use Rattle.std.specs.List.{All, AllPairs, Contains, slice_get}
use Rattle.zac_gates.specs.declared.circuit.Op.{Op}
use Rattle.zac_gates.specs.Ops.{Names}
use Rattle.zac_stage.specs.Numbers.{is_pair}

-- the gate at this place of the pulse is on the qubit
pub record IsOn (ops : List Op) (pulse : List ℕ) (qubit place : ℕ) : Type 0 where
  pub within : place < length pulse
  pub op : Op
  pub op_is : slice_get ops (slice_index pulse place) ≡ Some op
  pub names : Names op qubit

-- each gate of the pulse is a pair, none comes twice, no two are on one qubit, and there are fewer than 2³²
pub record IsPulse (ops : List Op) (pulse : List ℕ) : Type 0 where
  pub few : length pulse < 2 ^ 32
  pub pairs : All (λ n. IsTrue (is_pair (slice_get ops n))) pulse
  pub once : AllPairs (λ a b. a ≢ b) pulse
  pub apart : (qubit i j : ℕ) → IsOn ops pulse qubit i → IsOn ops pulse qubit j → i ≡ j

-- what is found for a qubit is the place of the gate on it, of the first so many places
pub record ArePlaces (ops : List Op) (pulse : List ℕ) (found : ℕ → Option ℕ) (n : ℕ) : Type 0 where
  pub sound : (qubit place : ℕ) → found qubit ≡ Some place → IsOn ops pulse qubit place × (place < n)
  pub complete : (qubit place : ℕ) → IsOn ops pulse qubit place → place < n → found qubit ≡ Some place

-- the gates at these places of the two pulses share a qubit
abbrev pub IsShared : List Op → List ℕ → List ℕ → ℕ → ℕ → Type 0
IsShared ops first second i j = (qubit : ℕ) × IsOn ops first qubit i × IsOn ops second qubit j

-- the edges are the places of the gates that share a qubit, of the first so many places of the second pulse
pub record AreShared (ops : List Op) (first second : List ℕ) (edges : List (ℕ × ℕ)) (n : ℕ) : Type 0 where
  pub sound : All (λ e. IsShared ops first second e.0 e.1 × (e.1 < n)) edges
  pub complete : (i j : ℕ) → IsShared ops first second i j → j < n → Contains edges (i, j)

-- pairs of places as pairs of op numbers
abbrev pub in_numbers : List ℕ → List ℕ → List (ℕ × ℕ) → List (ℕ × ℕ)
in_numbers first second pairs = map (λ e. (slice_index first e.0, slice_index second e.1)) pairs
