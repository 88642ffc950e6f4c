-- Moves of atoms, and which two of them one AOD can make together.
use Rattle.std.specs.Prelude.{◌≡◌, ℕ, ◌+◌, ◌<◌, ◌≤◌, ◌⊎◌}
use Rattle.std.specs.List.{slice_index_or}
use Rattle.std.specs.Ordering.{nat_cmp}
use Rattle.zac_arch.specs.Architecture.{Architecture, IsInZone, trap_points, trap_count, storage_count}
use Rattle.zac_arch.specs.Distances.{difference}
use Rattle.zac_arch.specs.declared.place.Point.{Point}
use Rattle.zac_arch.specs.declared.place.TrapId.{TrapId}
use Rattle.zac_group.specs.declared.shift.Shift.{Shift}

-- Where a trap stands; (0,0) where there is no such trap.
abbrev pub point_at : Architecture → TrapId → Point
point_at a t = slice_index_or (trap_points a) t.0 (record { x = 0; y = 0 })

-- One zone has both traps.
abbrev pub AreInOneZone : Architecture → TrapId → TrapId → Type 0
AreInOneZone a t u = (zone : ℕ) × IsInZone a t.0 zone × IsInZone a u.0 zone

-- The move goes from a trap of the card to one.
pub record HasTraps (a : Architecture) (s : Shift) : Type 0 where
  pub from_in : s.from.0 < trap_count a
  pub to_in : s.to.0 < trap_count a

-- The trap is one of storage: these have the first numbers.
abbrev pub IsStorageTrap : Architecture → TrapId → Type 0
IsStorageTrap a t = t.0 < storage_count a

-- The trap is one of an entangling zone.
abbrev pub IsEntanglingTrap : Architecture → TrapId → Type 0
IsEntanglingTrap a t = (storage_count a ≤ t.0) × (t.0 < trap_count a)

-- The move goes between a storage zone and an entangling zone, in either direction.
abbrev pub IsBetweenKinds : Architecture → Shift → Type 0
IsBetweenKinds a s =
    (IsStorageTrap a s.from × IsEntanglingTrap a s.to) ⊎ (IsEntanglingTrap a s.from × IsStorageTrap a s.to)

-- The x of a move's source.
abbrev pub source_x : Architecture → Shift → ℕ
source_x a s = (point_at a s.from).x

-- The y of a move's source.
abbrev pub source_y : Architecture → Shift → ℕ
source_y a s = (point_at a s.from).y

-- The x of a move's target.
abbrev pub target_x : Architecture → Shift → ℕ
target_x a s = (point_at a s.to).x

-- The y of a move's target.
abbrev pub target_y : Architecture → Shift → ℕ
target_y a s = (point_at a s.to).y

-- The distance of a move: how far its traps are apart in x, and how far in y, added.
abbrev pub distance : Architecture → Shift → ℕ
distance a s = difference (source_x a s) (target_x a s) + difference (source_y a s) (target_y a s)

-- Two moves are compatible: one zone has both sources, one zone has both targets, and on each axis their sources compare
-- as their targets do, less, equal or greater.
pub record IsCompatible (a : Architecture) (s t : Shift) : Type 0 where
  pub one_source : AreInOneZone a s.from t.from
  pub one_target : AreInOneZone a s.to t.to
  pub columns : nat_cmp (source_x a s) (source_x a t) ≡ nat_cmp (target_x a s) (target_x a t)
  pub rows : nat_cmp (source_y a s) (source_y a t) ≡ nat_cmp (target_y a s) (target_y a t)
