-- First fit: which moves go into which group.
use Rattle.std.specs.Prelude.{◌≡◌, ℕ, ◌==◌, ◌<◌, ◌⊎◌, Some, List, [], ◌∷◌, length, take, All, slice_index, if◌then◌else◌}
use Rattle.std.specs.List.{AllPairs, slice_get}
use Rattle.std.specs.List.Sorted.{IsPermutation}
use Rattle.zac_arch.specs.Architecture.{Architecture}
use Rattle.zac_group.specs.declared.shift.Shift.{Shift}
use Rattle.zac_group.specs.Groups.{MoveGroup, IsGroup, IsWithinLimits}
use Rattle.zac_group.specs.Moves.{IsCompatible, distance}

-- The first move is taken before the second: its distance is greater, or the same and its qubit has the smaller number.
abbrev pub IsTakenBefore : Architecture → Shift → Shift → Type 0
IsTakenBefore a s t = (distance a t < distance a s) ⊎ ((distance a s ≡ distance a t) × (s.q < t.q))

-- Of moves that have a group number each, those of one group.
abbrev pub members : List Shift → List ℕ → ℕ → List Shift
members [] numbers group = []
members (s ∷ ss) [] group = []
members (s ∷ ss) (n ∷ numbers) group =
    if n == group then s ∷ members ss numbers group else members ss numbers group

-- The move fits these: all are compatible with it, and with it they are within the limits of an AOD.
pub record Fits (a : Architecture) (others : List Shift) (s : Shift) : Type 0 where
  pub compatible : All (IsCompatible a s) others
  pub within : IsWithinLimits a (s ∷ others)

-- The moves that come before place k and are in one group.
abbrev pub members_before : List Shift → List ℕ → ℕ → ℕ → List Shift
members_before ordered numbers k group = members (take k ordered) numbers group

-- The group numbers of ordered moves are those of first fit: there is one for each move; each move fits the earlier ones
-- of its group; in no group of smaller number does it fit the earlier ones; and each group of smaller number has an
-- earlier move, so that groups are numbered by their first moves.
pub record IsFirstFit (a : Architecture) (ordered : List Shift) (numbers : List ℕ) : Type 0 where
  pub each : length numbers ≡ length ordered
  pub fits : (k : ℕ) (s : Shift) → slice_get ordered k ≡ Some s → Fits a (members_before ordered numbers k (slice_index numbers k)) s
  pub passed : (k group : ℕ) (s : Shift) → slice_get ordered k ≡ Some s → group < slice_index numbers k
      → ¬ Fits a (members_before ordered numbers k group) s
  pub in_turn : (k group : ℕ) → k < length ordered → group < slice_index numbers k
      → (j : ℕ) × (j < k) × (slice_index numbers j ≡ group)

-- The groups of moves on a card: the moves are taken in their order, and get the numbers of first fit; and the group of
-- each number, of which there are no others, has just the moves that got it.
pub record IsGrouping (a : Architecture) (shifts : List Shift) (groups : List MoveGroup) : Type 0 where
  pub ordered : List Shift
  pub numbers : List ℕ
  pub permutes : IsPermutation shifts ordered
  pub in_order : AllPairs (IsTakenBefore a) ordered
  pub first_fit : IsFirstFit a ordered numbers
  pub below : (k : ℕ) → k < length numbers → slice_index numbers k < length groups
  pub cards : All (λ (g : MoveGroup). g.card ≡ a) groups
  pub shifts_are : (n : ℕ) (g : MoveGroup) → slice_get groups n ≡ Some g → IsPermutation (members ordered numbers n) g.shifts
  pub kept : All IsGroup groups
