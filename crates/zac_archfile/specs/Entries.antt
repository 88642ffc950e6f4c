-- What stands in a JSON value at the fields of a card, and which keys it has besides.
use Rattle.std.specs.Prelude.{ℕ, Bool, not, ◌||◌, if◌then◌else◌, List, [], ◌∷◌, ◌++◌, map, filter, Option, Some, None, is_some, bytes_eq}
use Rattle.std.specs.List.{flat_map, list_all, list_any}
use Rattle.serde_json.specs.Data.{Num, unsigned, negative, float, Data, null, boolean, number, string, array, object, Items, no_items, item, Members, no_members, member}
use Rattle.serde_json.specs.Find.{get, as_object}
use Rattle.zac_archfile.specs.declared.field.Field.{Field}
use Rattle.zac_archfile.specs.declared.field.Field.TheVariants.{Storage, Entangling}
use Rattle.zac_archfile.specs.declared.found.Found.{Found}
use Rattle.zac_archfile.specs.declared.found.Found.TheVariants.{Absent, Whole, Objects, Other}
use Rattle.zac_archfile.specs.declared.found.Entry.{Entry}
use Rattle.zac_archfile.specs.Fields.{key_of, figure_fields, storage_fields, entangling_fields}

-- The items of an array, as a list.
abbrev pub list_of : Items → List Data
list_of no_items = []
list_of (item d ds) = d ∷ list_of ds

-- The value is an object.
abbrev pub is_object : Data → Bool
is_object d = is_some (as_object d)

-- What a number is: a whole number where `serde_json` reads it as one without a sign.
abbrev pub found_number : Num → Found
found_number (unsigned n) = Whole n
found_number (negative z) = Other
found_number (float x) = Other

-- What a value is.
abbrev pub found_value : Data → Found
found_value null = Other
found_value (boolean b) = Other
found_value (number n) = found_number n
found_value (string s) = Other
found_value (array ds) = if list_all is_object (list_of ds) then Objects else Other
found_value (object ms) = Other

-- what stands there, where anything does
abbrev pub found_in : Option Data → Found
found_in None = Absent
found_in (Some d) = found_value d

-- What stands at a field in an object.
abbrev pub found_at : Data → Field → Found
found_at d f = found_in (get (key_of f) d)

-- A field, and what stands there in an object.
abbrev pub entry_at : Data → Field → Entry
entry_at d f = record { field = f; found = found_at d f }

-- The items of an array that are objects.
abbrev pub objects_in : Option Data → List Data
objects_in (Some (array ds)) = filter is_object (list_of ds)
objects_in _ = []

-- The objects in a list of zones.
abbrev pub zones_at : Data → Field → List Data
zones_at d f = objects_in (get (key_of f) d)

-- A list of zones, and then the fields of its objects, zone by zone.
abbrev pub zone_entries : Data → Field → List Field → List Entry
zone_entries d f fields = entry_at d f ∷ flat_map (λ zone. map (entry_at zone) fields) (zones_at d f)

-- All fields of a card, in the order in which faults are told, with what stands there: the figures, the storage zones and
-- the entangling zones.
abbrev pub card_entries : Data → List Entry
card_entries d =
    map (entry_at d) figure_fields ++ zone_entries d Storage storage_fields ++ zone_entries d Entangling entangling_fields

-- the keys of these members
abbrev pub member_keys : Members → List (List ℕ)
member_keys no_members = []
member_keys (member k d ms) = k ∷ member_keys ms

-- The keys of an object.
abbrev pub keys_in : Data → List (List ℕ)
keys_in null = []
keys_in (boolean b) = []
keys_in (number n) = []
keys_in (string s) = []
keys_in (array ds) = []
keys_in (object ms) = member_keys ms

-- One of the fields has the key.
abbrev pub is_key_of : List Field → List ℕ → Bool
is_key_of fields k = list_any (λ f. bytes_eq k (key_of f)) fields

-- Some key of the object is that of no field.
abbrev pub has_other_key : List Field → Data → Bool
has_other_key fields d = list_any (λ k. not (is_key_of fields k)) (keys_in d)

-- The object, or an object in a list of zones, has a key that is that of none of its fields.
abbrev pub has_unknown_key : Data → Bool
has_unknown_key d =
    has_other_key (figure_fields ++ Storage ∷ Entangling ∷ []) d
    || list_any (has_other_key storage_fields) (zones_at d Storage)
    || list_any (has_other_key entangling_fields) (zones_at d Entangling)
