-- The JSON value of an architecture, and the architecture of a JSON value. The members of an object stand in byte order of
-- their keys.
use Rattle.std.specs.Prelude.{ℕ, ◌≤◌, not, List, ◌++◌, map, filter, codes}
use Rattle.std.specs.List.{AllByRecursion}
use Rattle.serde_json.specs.Data.{Data, number, unsigned, array, object, member, no_members}
use Rattle.serde_json.specs.View.{items_of}
use Rattle.zac_arch.specs.Architecture.{Architecture, is_storage}
use Rattle.zac_arch.specs.declared.card.Figures.{Figures}
use Rattle.zac_arch.specs.declared.card.Zone.{Zone}
use Rattle.zac_arch.specs.declared.card.ZoneKind.TheVariants as kind
use Rattle.zac_archfile.specs.declared.field.Field.{Field}
use Rattle.zac_archfile.specs.declared.field.Field.TheVariants.{Gap, Park, Reach, Radius, Accel, Activate, Deactivate, One, Pulse, Readout, Aods, Rows, Columns, Storage, StorageX, StorageY, StorageDx, StorageDy, StorageColumns, StorageRows, Entangling, EntanglingX, EntanglingY, EntanglingDx, EntanglingDy, EntanglingPair, EntanglingColumns, EntanglingRows}
use Rattle.zac_archfile.specs.declared.found.Found.{Found}
use Rattle.zac_archfile.specs.declared.found.Found.TheVariants.{Whole}
use Rattle.zac_archfile.specs.Entries.{found_at, zones_at}
use Rattle.zac_archfile.specs.Fields.{range_of}

-- A number as a JSON number.
abbrev pub number_value : ℕ → Data
number_value n = number (unsigned n)

-- A storage zone: an object with its figures.
abbrev pub storage_value : Zone → Data
storage_value z = object
    (member (codes "columns") (number_value z.columns)
    (member (codes "dx") (number_value z.dx)
    (member (codes "dy") (number_value z.dy)
    (member (codes "rows") (number_value z.rows)
    (member (codes "x") (number_value z.x)
    (member (codes "y") (number_value z.y)
    no_members))))))

-- An entangling zone: an object with its figures, the pair distance among them.
abbrev pub entangling_value : Zone → Data
entangling_value z = object
    (member (codes "columns") (number_value z.columns)
    (member (codes "dx") (number_value z.dx)
    (member (codes "dy") (number_value z.dy)
    (member (codes "pair") (number_value z.pair)
    (member (codes "rows") (number_value z.rows)
    (member (codes "x") (number_value z.x)
    (member (codes "y") (number_value z.y)
    no_members)))))))

-- The array of the storage zones.
abbrev pub storage_list : List Zone → Data
storage_list zones = array (items_of (map storage_value (filter (λ z. is_storage z.kind) zones)))

-- The array of the entangling zones.
abbrev pub entangling_list : List Zone → Data
entangling_list zones = array (items_of (map entangling_value (filter (λ z. not (is_storage z.kind)) zones)))

-- An architecture: an object with its figures, its two lists of zones and the version, which is 1.
abbrev pub card_value : Architecture → Data
card_value a = object
    (member (codes "accel") (number_value a.figures.accel)
    (member (codes "activate") (number_value a.figures.activate)
    (member (codes "aods") (number_value a.figures.aods)
    (member (codes "columns") (number_value a.figures.columns)
    (member (codes "deactivate") (number_value a.figures.deactivate)
    (member (codes "entangling") (entangling_list a.zones)
    (member (codes "gap") (number_value a.figures.gap)
    (member (codes "one") (number_value a.figures.one)
    (member (codes "park") (number_value a.figures.park)
    (member (codes "pulse") (number_value a.figures.pulse)
    (member (codes "radius") (number_value a.figures.radius)
    (member (codes "reach") (number_value a.figures.reach)
    (member (codes "readout") (number_value a.figures.readout)
    (member (codes "rows") (number_value a.figures.rows)
    (member (codes "storage") (storage_list a.zones)
    (member (codes "version") (number_value 1)
    no_members))))))))))))))))

-- the whole number that was found, else 0
abbrev pub whole_or_zero : Found → ℕ
whole_or_zero (Whole n) = n
whole_or_zero _ = 0

-- The whole number that stands at a field, or 0 where none does.
abbrev pub number_at : Data → Field → ℕ
number_at d f = whole_or_zero (found_at d f)

-- The figures that a value tells.
abbrev pub figures_of : Data → Figures
figures_of d = record {
  gap = number_at d Gap;
  park = number_at d Park;
  reach = number_at d Reach;
  radius = number_at d Radius;
  accel = number_at d Accel;
  activate = number_at d Activate;
  deactivate = number_at d Deactivate;
  one = number_at d One;
  pulse = number_at d Pulse;
  readout = number_at d Readout;
  aods = number_at d Aods;
  rows = number_at d Rows;
  columns = number_at d Columns;
}

-- The storage zone that a value tells. Its pair distance is 0.
abbrev pub storage_zone : Data → Zone
storage_zone d = record {
  kind = kind.Storage;
  x = number_at d StorageX;
  y = number_at d StorageY;
  dx = number_at d StorageDx;
  dy = number_at d StorageDy;
  pair = 0;
  columns = number_at d StorageColumns;
  rows = number_at d StorageRows;
}

-- The entangling zone that a value tells.
abbrev pub entangling_zone : Data → Zone
entangling_zone d = record {
  kind = kind.Entangling;
  x = number_at d EntanglingX;
  y = number_at d EntanglingY;
  dx = number_at d EntanglingDx;
  dy = number_at d EntanglingDy;
  pair = number_at d EntanglingPair;
  columns = number_at d EntanglingColumns;
  rows = number_at d EntanglingRows;
}

-- The zones that a value tells, those of storage first.
abbrev pub zones_of : Data → List Zone
zones_of d = map storage_zone (zones_at d Storage) ++ map entangling_zone (zones_at d Entangling)

-- The architecture that a value tells: its figures and its zones.
abbrev pub architecture_of : Data → Architecture
architecture_of d = record { figures = figures_of d; zones = zones_of d }

-- Each number that stands at one of the fields is at most the greatest of the field's range.
abbrev pub HasSmallNumbers : List Field → Data → Type 0
HasSmallNumbers fields d = AllByRecursion (λ f. number_at d f ≤ (range_of f).most) fields
