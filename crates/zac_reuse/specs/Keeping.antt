-- Which gates may stay at their site from one pulse to the next, and how many at most. A pulse is the list of the op
-- numbers of its gates.
use Rattle.std.specs.Prelude.{◌≡◌, ℕ, ◌+◌, ◌≤◌, List, [], length, Some, slice_index_or}
use Rattle.std.specs.List.{All, Contains, slice_get}
use Rattle.zac_gates.specs.declared.circuit.Op.{Op}
use Rattle.zac_gates.specs.Ops.{Names}
use Rattle.zac_match.specs.Choice.{NoEndTwice}
use Rattle.zac_stage.specs.Staging.{Staging}

-- The ops of these two numbers share a qubit.
pub record ShareQubit (ops : List Op) (first second : ℕ) : Type 0 where
  pub a : Op
  pub b : Op
  pub qubit : ℕ
  pub a_is : slice_get ops first ≡ Some a
  pub b_is : slice_get ops second ≡ Some b
  pub a_names : Names a qubit
  pub b_names : Names b qubit

-- A gate of the first pulse and a gate of the second pulse that share a qubit: the second gate may take the first one's
-- site, where that qubit stays.
pub record MayKeep (ops : List Op) (first second : List ℕ) (pair : ℕ × ℕ) : Type 0 where
  pub old : Contains first pair.0
  pub new : Contains second pair.1
  pub shared : ShareQubit ops pair.0 pair.1

-- A set of such pairs in which no gate comes twice.
pub record IsKeeping (ops : List Op) (first second : List ℕ) (pairs : List (ℕ × ℕ)) : Type 0 where
  pub each : All (MayKeep ops first second) pairs
  pub no_gate_twice : NoEndTwice pairs

-- No such set has more pairs than this one.
abbrev pub IsGreatest : List Op → List ℕ → List ℕ → List (ℕ × ℕ) → Type 0
IsGreatest ops first second pairs =
    (others : List (ℕ × ℕ)) → IsKeeping ops first second others → length others ≤ length pairs

-- The keepable number of two pulses: how many pairs a greatest set has.
pub record IsKeepableNumber (ops : List Op) (first second : List ℕ) (number : ℕ) : Type 0 where
  pub pairs : List (ℕ × ℕ)
  pub keeping : IsKeeping ops first second pairs
  pub greatest : IsGreatest ops first second pairs
  pub size : length pairs ≡ number

-- The gates of pulse t, and none where there is no such pulse.
abbrev pub pulse_of : Staging → ℕ → List ℕ
pulse_of s t = slice_index_or s.pairs t []

-- The keepable number of pulse t: that of it and of the next pulse.
abbrev pub IsKeepableNumberOf : Staging → ℕ → ℕ → Type 0
IsKeepableNumberOf s t number = IsKeepableNumber s.circuit.ops (pulse_of s t) (pulse_of s (t + 1)) number
