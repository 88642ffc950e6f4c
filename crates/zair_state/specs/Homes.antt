-- Where qubits rest at first.
use Rattle.std.specs.Prelude.{◌≡◌, ◌≢◌, ℕ, ◌<◌, List, length}
use Rattle.std.specs.List.{All, AllPairs}
use Rattle.zac_arch.specs.Architecture.{Architecture, storage_count}
use Rattle.zac_arch.specs.declared.place.TrapId.{TrapId}

-- There is a trap for each qubit, each is a storage trap, and no two are the same.
pub record AreHomes (a : Architecture) (qubits : ℕ) (traps : List TrapId) : Type 0 where
  pub each : length traps ≡ qubits
  pub in_storage : All (λ t. t.0 < storage_count a) traps
  pub distinct : AllPairs (λ t u. t ≢ u) traps
