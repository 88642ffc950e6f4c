-- What stages show, and when they are those of their circuit.
use Rattle.std.specs.Prelude.{◌≡◌, ℕ, ◌+◌, ◌<◌, ◌^◌, List, length, map}
use Rattle.std.specs.List.{range_with_len}
use Rattle.zac_gates.specs.Ops.{NativeCircuit}
use Rattle.zac_stage.specs.Numbers.{IsNumbering, IsPulseCount, pairs_of, ones_of}

-- A circuit, a number of sites, the number of each op, and for each pulse the numbers of its pairs and for each slot the
-- numbers of its one-qubit gates. It is the model of `Stages`.
pub record Staging : Type 0 where
  pub circuit : NativeCircuit
  pub sites : ℕ
  pub numbers : List ℕ
  pub pairs : List (List ℕ)
  pub gates : List (List ℕ)

-- The stages are those of their circuit: the numbers are right, there is one list of pairs for each pulse, and one list
-- of one-qubit gates for the slot before each pulse and for the slot after the last one. It is the invariant of `Stages`.
pub record IsStaging (s : Staging) : Type 0 where
  pub numbered : IsNumbering s.circuit.ops s.sites s.numbers
  pub counted : IsPulseCount s.circuit.ops s.numbers (length s.pairs)
  pub pairs_are : s.pairs ≡ map (pairs_of s.circuit.ops s.numbers) (range_with_len 0 (length s.pairs))
  pub gates_are : s.gates ≡ map (ones_of s.circuit.ops s.numbers) (range_with_len 0 (length s.pairs + 1))
  pub few : length s.pairs < 2 ^ 32
