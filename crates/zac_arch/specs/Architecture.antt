-- An architecture: its figures, and its zones as product grids of traps.
use Rattle.std.specs.Prelude.{◌≡◌, ℕ, ◌+◌, ◌-◌, ◌*◌, ◌<◌, ◌≤◌, ◌⊎◌, Bool, true, false, Some, List, [], ◌∷◌, length, filter, take, if◌then◌else◌}
use Rattle.std.specs.List.{flat_map, range_with_len, slice_get, Any, sum_by}
use Rattle.zac_arch.specs.declared.place.Point.{Point}
use Rattle.zac_arch.specs.declared.card.Figures.{Figures}
use Rattle.zac_arch.specs.declared.card.Zone.{Zone}
use Rattle.zac_arch.specs.declared.card.ZoneKind.{ZoneKind}
use Rattle.zac_arch.specs.declared.card.ZoneKind.TheVariants.{Storage, Entangling}

-- The figures of a machine, and its zones in the order of their numbers. It is the model of a `Card`.
pub record Architecture : Type 0 where
  pub figures : Figures
  pub zones : List Zone

-- The kind of zone is storage.
abbrev pub is_storage : ZoneKind → Bool
is_storage Storage = true
is_storage Entangling = false

-- How many traps stand at one place of a zone's grid: 1 in storage, 2 in an entangling zone.
abbrev pub traps_per_place : ZoneKind → ℕ
traps_per_place Storage = 1
traps_per_place Entangling = 2

-- The traps at one place: in storage the point itself; in an entangling zone the left trap at the point, and the right
-- one further in x by the pair distance.
abbrev pub traps_at : ZoneKind → ℕ → ℕ → ℕ → List Point
traps_at Storage pair x y = record { x = x; y = y } ∷ []
traps_at Entangling pair x y = record { x = x; y = y } ∷ record { x = x + pair; y = y } ∷ []

-- The traps of one row of a zone, by rising column.
abbrev pub row_traps : Zone → ℕ → List Point
row_traps z row =
    flat_map (λ column. traps_at z.kind z.pair (z.x + column * z.dx) (z.y + row * z.dy)) (range_with_len 0 z.columns)

-- The traps of a zone: its rows from the first on, one after another.
abbrev pub zone_traps : Zone → List Point
zone_traps z = flat_map (row_traps z) (range_with_len 0 z.rows)

-- The points of all traps, zone by zone. A trap's number is its place in this list.
abbrev pub trap_points : Architecture → List Point
trap_points a = flat_map zone_traps a.zones

-- The trap of this number stands at this point.
abbrev pub StandsAt : Architecture → ℕ → Point → Type 0
StandsAt a t p = slice_get (trap_points a) t ≡ Some p

-- How many traps there are.
abbrev pub trap_count : Architecture → ℕ
trap_count a = length (trap_points a)

-- How many traps the zones before the one of this number have.
abbrev pub traps_before : Architecture → ℕ → ℕ
traps_before a zone = length (flat_map zone_traps (take zone a.zones))

-- The trap's number is at least the count of traps before this zone, and below the count before the next one.
pub record IsInZone (a : Architecture) (t zone : ℕ) : Type 0 where
  pub from : traps_before a zone ≤ t
  pub below : t < traps_before a (zone + 1)

-- How many traps the storage zones have.
abbrev pub storage_count : Architecture → ℕ
storage_count a = length (flat_map zone_traps (filter (λ z. is_storage z.kind) a.zones))

-- How many sites a zone has: none in storage, else columns times rows.
abbrev pub zone_sites : Zone → ℕ
zone_sites z = if is_storage z.kind then 0 else z.columns * z.rows

-- How many sites all zones have together.
abbrev pub site_count : Architecture → ℕ
site_count a = sum_by zone_sites a.zones

-- The number of a site's left trap: the count of storage traps, and twice the site's number.
abbrev pub left_trap : Architecture → ℕ → ℕ
left_trap a site = storage_count a + 2 * site

-- The number of a site's right trap: one more than that of the left one.
abbrev pub right_trap : Architecture → ℕ → ℕ
right_trap a site = storage_count a + 2 * site + 1

-- The trap is the left or the right one of the site.
abbrev pub IsTrapOf : Architecture → ℕ → ℕ → Type 0
IsTrapOf a site t = (t ≡ left_trap a site) ⊎ (t ≡ right_trap a site)

-- How far the last trap at one place is from the first: 0 in storage, else the pair distance.
abbrev pub place_width : Zone → ℕ
place_width z = if is_storage z.kind then 0 else z.pair

-- The x of a zone's first column, and as many column distances as there are further columns, and the width of a place.
-- It is the greatest x of the zone's traps, where it has one.
abbrev pub last_x : Zone → ℕ
last_x z = z.x + (z.columns - 1) * z.dx + place_width z

-- The y of a zone's first row, and as many row distances as there are further rows. It is the greatest y of the zone's
-- traps, where it has one.
abbrev pub last_y : Zone → ℕ
last_y z = z.y + (z.rows - 1) * z.dy

-- The point lies in the box from the zone's x and y to its last x and y, widened by the radius on all sides, border
-- included.
pub record IsInWidenedBox (radius : ℕ) (z : Zone) (p : Point) : Type 0 where
  pub left : z.x ≤ p.x + radius
  pub right : p.x ≤ last_x z + radius
  pub bottom : z.y ≤ p.y + radius
  pub top : p.y ≤ last_y z + radius

-- The point lies in the box of some entangling zone, widened by the blockade radius.
abbrev pub IsLit : Architecture → Point → Type 0
IsLit a p = Any (λ z. (z.kind ≡ Entangling) × IsInWidenedBox a.figures.radius z p) a.zones
