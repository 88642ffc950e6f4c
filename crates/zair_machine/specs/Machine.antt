-- What a machine is seen as, and what it keeps.
use Rattle.std.specs.Prelude.{◌≡◌, ℕ, ◌*◌, ◌≤◌, ◌<◌, ◌⊎◌, Some, List, [], ◌∷◌, length, slice_get, slice_set}
use Rattle.zac_arch.specs.Architecture.{Architecture, storage_count, trap_count}
use Rattle.zac_arch.specs.declared.place.TrapId.{TrapId}
use Rattle.zair_state.specs.declared.fault.NewFault.{NewFault}
use Rattle.zair_state.specs.declared.fault.NewFault.TheVariants as fault
use Rattle.zair_state.specs.Least.{IsLeastOf}
use Rattle.zair_machine.specs.Crossings.{crossing_number}
use Rattle.zair_state.specs.declared.place.Place.{Place}
use Rattle.zair_state.specs.declared.place.Place.TheVariants.{Trap, Held}
use Rattle.zair_state.specs.State.{State}
use Rattle.zair_state.specs.Invariant.{IsSound}

-- The card of a machine, and the state that it is in.
pub record Running : Type 0 where
  pub card : Architecture
  pub state : State

-- The index tells of each of these places that is a trap the qubit.
abbrev pub TellsTraps : List Place → List ℕ → Type 0
TellsTraps places index = (q : ℕ) (t : TrapId) → slice_get places q ≡ Some (Trap t) → slice_get index t.0 ≡ Some q

-- The index tells of each of these places that is a crossing the qubit; the ids of its row and its column are below 256.
abbrev pub TellsCrossings : List Place → List ℕ → Type 0
TellsCrossings places index =
    (q aod row column : ℕ) → slice_get places q ≡ Some (Held aod row column)
    → (row < 256) × (column < 256) × (slice_get index (crossing_number aod row column) ≡ Some q)

-- The state is sound, and has at most 65,536 qubits; and two indexes, the one with a number for each trap of the card, the other
-- with one for each crossing that AODs can have, tell of each trap and each crossing with an atom the qubit.
pub record IsKept (a : Architecture) (s : State) (traps crossings : List ℕ) : Type 0 where
  pub sound : IsSound a s
  pub few : length s.places ≤ 65536
  pub all_traps : length traps ≡ trap_count a
  pub all_crossings : length crossings ≡ length s.aods * 65536
  pub traps_told : TellsTraps s.places traps
  pub crossings_told : TellsCrossings s.places crossings

-- The list once the number of each item is written at the item's place, one item after another.
abbrev pub after_writing : {X : Type 0} → (X → ℕ) → (X → ℕ) → List X → List ℕ → List ℕ
after_writing place number [] ns = ns
after_writing place number (x ∷ xs) ns = after_writing place number xs (slice_set ns (place x) (number x))

-- The home of the qubit of this number is no storage trap, or that of a qubit of smaller number.
abbrev pub IsWrongHome : Architecture → List TrapId → ℕ → Type 0
IsWrongHome a homes q =
    (home : TrapId) × (slice_get homes q ≡ Some home) × ((storage_count a ≤ home.0) ⊎ ((p : ℕ) × (p < q) × (slice_get homes p ≡ Some home)))

-- The fault tells the least qubit with a wrong home; of a want of memory nothing is said.
abbrev pub TellsHome : Architecture → List TrapId → NewFault → Type 0
TellsHome a homes (fault.Home q) = IsLeastOf (IsWrongHome a homes) (Some q)
TellsHome a homes fault.Memory = Unit {0}
