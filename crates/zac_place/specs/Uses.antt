-- Inside: which qubits were come upon when the ops are gone through.
use Rattle.std.specs.Prelude.{ℕ, ◌≡◌, ◌<◌, ◌⊎◌, ◌++◌, ◌∷◌, [], true, false, List, length, slice_index_or, slice_set, if◌then◌else◌}
use Rattle.std.specs.List.{All, AllPairs, Contains}
use Rattle.zac_gates.specs.declared.circuit.Op.{Op}
use Rattle.zac_place.specs.Homes.{first_pair, IsUsedBefore}
use Rattle.zac_place.specs.declared.uses.Uses.{Uses}

-- the qubit's first pair is before the place i, or at it and the qubit's number is below r
abbrev pub IsReached : List Op → ℕ → ℕ → ℕ → Type 0
IsReached ops i r q = (first_pair ops q < i) ⊎ ((first_pair ops q ≡ i) × (q < r))

-- the qubits that are reached are there, and no others, in the order of their use
pub record AreUsed (ops : List Op) (qubits i r : ℕ) (uses : Uses) : Type 0 where
  pub len : length uses.seen.items ≡ qubits
  pub seen : (q : ℕ) → q < qubits → slice_index_or uses.seen.items q false ≡ true → IsReached ops i r q × Contains uses.order.items q
  pub unseen : (q : ℕ) → q < qubits → slice_index_or uses.seen.items q false ≡ false → ¬ IsReached ops i r q
  pub below : All (λ q. (q < qubits) × IsReached ops i r q) uses.order.items
  pub in_order : AllPairs (IsUsedBefore ops) uses.order.items

-- the qubit is there now
pub record IsVisited (old new : Uses) (q : ℕ) : Type 0 where
  pub order : new.order.items ≡ (if slice_index_or old.seen.items q false then old.order.items else (old.order.items ++ q ∷ []))
  pub seen : new.seen.items ≡ slice_set old.seen.items q true
