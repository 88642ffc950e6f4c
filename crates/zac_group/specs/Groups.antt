-- Phases of moves, and groups of moves that one AOD makes together.
use Rattle.std.specs.Prelude.{◌≡◌, ◌≢◌, ℕ, ◌+◌, ◌==◌, ◌<◌, ◌≤◌, ◌⊎◌, List, [], ◌∷◌, length, map, All, if◌then◌else◌}
use Rattle.std.specs.List.{AllPairs, list_any}
use Rattle.zac_arch.specs.Architecture.{Architecture}
use Rattle.zac_group.specs.declared.shift.Shift.{Shift}
use Rattle.zac_group.specs.Moves.{IsBetweenKinds, IsCompatible, source_x, source_y}

-- Moves of one phase: no two have one qubit, one source or one target, and each goes between a storage zone and an
-- entangling zone.
pub record IsPhase (a : Architecture) (shifts : List Shift) : Type 0 where
  pub qubits : AllPairs (λ (s t : Shift). s.q ≢ t.q) shifts
  pub sources : AllPairs (λ (s t : Shift). s.from ≢ t.from) shifts
  pub targets : AllPairs (λ (s t : Shift). s.to ≢ t.to) shifts
  pub between : All (IsBetweenKinds a) shifts

-- How many different numbers a list has: each is counted where it stands last.
abbrev pub count_distinct : List ℕ → ℕ
count_distinct [] = 0
count_distinct (n ∷ ns) = if list_any (λ m. m == n) ns then count_distinct ns else count_distinct ns + 1

-- The moves are within the limits of an AOD: they have no more distinct source y values than it has rows, and no more
-- distinct source x values than it has columns.
pub record IsWithinLimits (a : Architecture) (shifts : List Shift) : Type 0 where
  pub rows : count_distinct (map (source_y a) shifts) ≤ a.figures.rows
  pub columns : count_distinct (map (source_x a) shifts) ≤ a.figures.columns

-- The first move's source comes before that of the second: it has the smaller y, or the same y and the smaller x.
abbrev pub StartsBefore : Architecture → Shift → Shift → Type 0
StartsBefore a s t = (source_y a s < source_y a t) ⊎ ((source_y a s ≡ source_y a t) × (source_x a s < source_x a t))

-- A card, and moves on it. It is the model of a `Group`.
pub record MoveGroup : Type 0 where
  pub card : Architecture
  pub shifts : List Shift

-- There is at least one move; the moves are of one phase; any two are compatible; they are within the limits of an AOD;
-- and they stand by source y, then source x. It is the invariant of a `Group`.
pub record IsGroup (g : MoveGroup) : Type 0 where
  pub some : 1 ≤ length g.shifts
  pub phase : IsPhase g.card g.shifts
  pub compatible : AllPairs (IsCompatible g.card) g.shifts
  pub within : IsWithinLimits g.card g.shifts
  pub in_order : AllPairs (StartsBefore g.card) g.shifts
