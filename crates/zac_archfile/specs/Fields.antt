-- The fields of a card: their names, their keys and their ranges.
use Rattle.std.specs.Prelude.{ℕ, Bool, true, false, ◌&&◌, nat_le, List, [], ◌∷◌, codes}
use Rattle.zac_archfile.specs.declared.field.Field.{Field}
use Rattle.zac_archfile.specs.declared.field.Field.TheVariants.{Version, Gap, Park, Reach, Radius, Accel, Activate, Deactivate, One, Pulse, Readout, Aods, Rows, Columns, Storage, StorageX, StorageY, StorageDx, StorageDy, StorageColumns, StorageRows, Entangling, EntanglingX, EntanglingY, EntanglingDx, EntanglingDy, EntanglingPair, EntanglingColumns, EntanglingRows}

-- The key that a field has in its object.
abbrev pub key_of : Field → List ℕ
key_of Version = codes "version"
key_of Gap = codes "gap"
key_of Park = codes "park"
key_of Reach = codes "reach"
key_of Radius = codes "radius"
key_of Accel = codes "accel"
key_of Activate = codes "activate"
key_of Deactivate = codes "deactivate"
key_of One = codes "one"
key_of Pulse = codes "pulse"
key_of Readout = codes "readout"
key_of Aods = codes "aods"
key_of Rows = codes "rows"
key_of Columns = codes "columns"
key_of Storage = codes "storage"
key_of StorageX = codes "x"
key_of StorageY = codes "y"
key_of StorageDx = codes "dx"
key_of StorageDy = codes "dy"
key_of StorageColumns = codes "columns"
key_of StorageRows = codes "rows"
key_of Entangling = codes "entangling"
key_of EntanglingX = codes "x"
key_of EntanglingY = codes "y"
key_of EntanglingDx = codes "dx"
key_of EntanglingDy = codes "dy"
key_of EntanglingPair = codes "pair"
key_of EntanglingColumns = codes "columns"
key_of EntanglingRows = codes "rows"

-- The fields of the card's own object that are numbers, in the order in which faults are told.
abbrev pub figure_fields : List Field
figure_fields =
    Version ∷ Gap ∷ Park ∷ Reach ∷ Radius ∷ Accel ∷ Activate ∷ Deactivate ∷ One ∷ Pulse ∷ Readout ∷ Aods ∷ Rows ∷ Columns ∷ []

-- The fields of a storage zone, in the order in which faults are told.
abbrev pub storage_fields : List Field
storage_fields = StorageX ∷ StorageY ∷ StorageDx ∷ StorageDy ∷ StorageColumns ∷ StorageRows ∷ []

-- The fields of an entangling zone, in the order in which faults are told.
abbrev pub entangling_fields : List Field
entangling_fields =
    EntanglingX ∷ EntanglingY ∷ EntanglingDx ∷ EntanglingDy ∷ EntanglingPair ∷ EntanglingColumns ∷ EntanglingRows ∷ []

-- The field is a list of zones, and no number.
abbrev pub is_zone_list : Field → Bool
is_zone_list Storage = true
is_zone_list Entangling = true
is_zone_list _ = false

-- The name that faults tell: the field's key; before that of a zone's field stand the key of the zone's list and a point.
abbrev pub name_of : Field → List ℕ
name_of StorageX = codes "storage.x"
name_of StorageY = codes "storage.y"
name_of StorageDx = codes "storage.dx"
name_of StorageDy = codes "storage.dy"
name_of StorageColumns = codes "storage.columns"
name_of StorageRows = codes "storage.rows"
name_of EntanglingX = codes "entangling.x"
name_of EntanglingY = codes "entangling.y"
name_of EntanglingDx = codes "entangling.dx"
name_of EntanglingDy = codes "entangling.dy"
name_of EntanglingPair = codes "entangling.pair"
name_of EntanglingColumns = codes "entangling.columns"
name_of EntanglingRows = codes "entangling.rows"
name_of f = key_of f

-- The least and the greatest number that a field may have.
pub record Span : Type 0 where
  pub least : ℕ
  pub most : ℕ

-- the numbers from the one to the other, both included
abbrev pub from_to : ℕ → ℕ → Span
from_to least most = record { least = least; most = most }

-- The range of a field's number. A list of zones has none.
abbrev pub range_of : Field → Span
range_of Version = from_to 1 1
range_of Gap = from_to 1 100000
range_of Park = from_to 1 100000
range_of Reach = from_to 0 100000
range_of Radius = from_to 1 100000
range_of Accel = from_to 100 1000000
range_of Activate = from_to 1 1000000000
range_of Deactivate = from_to 1 1000000000
range_of One = from_to 1 1000000000
range_of Pulse = from_to 1 1000000000
range_of Readout = from_to 1 1000000000
range_of Aods = from_to 1 8
range_of Rows = from_to 1 64
range_of Columns = from_to 1 64
range_of Storage = from_to 0 0
range_of StorageX = from_to 0 1000000
range_of StorageY = from_to 0 1000000
range_of StorageDx = from_to 1 1000000
range_of StorageDy = from_to 1 1000000
range_of StorageColumns = from_to 1 65536
range_of StorageRows = from_to 1 65536
range_of Entangling = from_to 0 0
range_of EntanglingX = from_to 0 1000000
range_of EntanglingY = from_to 0 1000000
range_of EntanglingDx = from_to 1 1000000
range_of EntanglingDy = from_to 1 1000000
range_of EntanglingPair = from_to 1 1000000
range_of EntanglingColumns = from_to 1 65536
range_of EntanglingRows = from_to 1 65536

-- The number lies in the field's range.
abbrev pub is_in_range_of : Field → ℕ → Bool
is_in_range_of f n = nat_le (range_of f).least n && nat_le n (range_of f).most
