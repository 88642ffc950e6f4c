-- The first fault of a text that is no card.
use Rattle.std.specs.Prelude.{◌≡◌, ℕ, Bool, true, false, not, if◌then◌else◌, List, Option, Some, None, option_map, IsUtf8}
use Rattle.std.specs.Option.{option_or}
use Rattle.std.specs.List.{find}
use Rattle.serde_json.specs.Data.{Data}
use Rattle.serde_json.specs.Read.{read}
use Rattle.zac_arch.specs.Rules.{IsLeastBroken}
use Rattle.zac_archfile.specs.declared.fault.CardFault.{CardFault}
use Rattle.zac_archfile.specs.declared.fault.CardFault.TheVariants.{NotJson, Missing, Unknown, NotWhole, Range, Invalid, Memory}
use Rattle.zac_archfile.specs.declared.field.Field.{Field}
use Rattle.zac_archfile.specs.declared.found.Found.{Found}
use Rattle.zac_archfile.specs.declared.found.Found.TheVariants.{Absent, Whole, Objects, Other}
use Rattle.zac_archfile.specs.declared.found.Entry.{Entry}
use Rattle.zac_archfile.specs.Fields.{is_zone_list, is_in_range_of}
use Rattle.zac_archfile.specs.Entries.{card_entries, has_unknown_key, is_object}
use Rattle.zac_archfile.specs.Values.{architecture_of}

-- The bytes are UTF-8, and `serde_json` reads them as this value, which is an object.
pub record IsObjectText (bytes : List ℕ) (d : Data) : Type 0 where
  pub utf8 : IsUtf8 bytes
  pub value : read bytes ≡ Some d
  pub is_one : is_object d ≡ true

-- Nothing stands there.
abbrev pub is_absent : Found → Bool
is_absent Absent = true
is_absent (Whole n) = false
is_absent Objects = false
is_absent Other = false

-- A whole number stands there.
abbrev pub is_whole : Found → Bool
is_whole Absent = false
is_whole (Whole n) = true
is_whole Objects = false
is_whole Other = false

-- An array of objects stands there.
abbrev pub is_objects : Found → Bool
is_objects Absent = false
is_objects (Whole n) = false
is_objects Objects = true
is_objects Other = false

-- At a list of zones stands an array of objects, at any other field a whole number.
abbrev pub is_fitting : Entry → Bool
is_fitting e = if is_zone_list e.field then is_objects e.found else is_whole e.found

-- a whole number that stands there is in the field's range
abbrev pub is_found_in_range : Field → Found → Bool
is_found_in_range f Absent = true
is_found_in_range f (Whole n) = is_in_range_of f n
is_found_in_range f Objects = true
is_found_in_range f Other = true

-- A whole number that stands at the field is in its range.
abbrev pub is_in_range : Entry → Bool
is_in_range e = is_found_in_range e.field e.found

-- The field of the first entry for which the test passes.
abbrev pub first_field : (Entry → Bool) → List Entry → Option Field
first_field test entries = option_map (λ e. e.field) (find test entries)

-- The first absent field.
abbrev pub first_missing : Data → Option Field
first_missing d = first_field (λ e. is_absent e.found) (card_entries d)

-- The first field where neither the number nor the list stands that belongs there.
abbrev pub first_not_whole : Data → Option Field
first_not_whole d = first_field (λ e. not (is_fitting e)) (card_entries d)

-- The first field whose number is out of range.
abbrev pub first_out_of_range : Data → Option Field
first_out_of_range d = first_field (λ e. not (is_in_range e)) (card_entries d)

-- What is wrong with the form of an object, if anything is: the first of a missing field, an unknown key, a field that is
-- not whole, and one that is out of range.
abbrev pub form_fault : Data → Option CardFault
form_fault d =
    option_or (option_map Missing (first_missing d))
    (option_or (if has_unknown_key d then Some Unknown else None)
    (option_or (option_map NotWhole (first_not_whole d))
    (option_map Range (first_out_of_range d))))

-- The first fault of a text. It is no object; or the object's form is at fault; or its form isn't, and the architecture
-- that it tells breaks the rule of this number and none before.
abbrev pub IsFault : List ℕ → CardFault → Type 0
IsFault bytes NotJson = (d : Data) → ¬ IsObjectText bytes d
IsFault bytes (Missing f) = (d : Data) × IsObjectText bytes d × (form_fault d ≡ Some (Missing f))
IsFault bytes Unknown = (d : Data) × IsObjectText bytes d × (form_fault d ≡ Some Unknown)
IsFault bytes (NotWhole f) = (d : Data) × IsObjectText bytes d × (form_fault d ≡ Some (NotWhole f))
IsFault bytes (Range f) = (d : Data) × IsObjectText bytes d × (form_fault d ≡ Some (Range f))
IsFault bytes (Invalid n) = (d : Data) × IsObjectText bytes d × (form_fault d ≡ None) × IsLeastBroken (architecture_of d) n
IsFault bytes Memory = ⊥
