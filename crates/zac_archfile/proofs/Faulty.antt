-- The faults of a text.
use Rattle.std.proofs.Common.{◌≡◌, ℕ, Bool, true, false, if◌then◌else◌, List, Option, Some, None, option_map, subst}
use Rattle.std.specs.Option.{option_or}
use Rattle.serde_json.specs.Data.{Data}
use Rattle.zac_archfile.specs.declared.fault.CardFault.{CardFault}
use Rattle.zac_archfile.specs.declared.fault.CardFault.TheVariants.{NotJson, Missing, Unknown, NotWhole, Range, Invalid, Memory}
use Rattle.zac_archfile.specs.declared.field.Field.{Field}
use Rattle.zac_archfile.specs.Entries.{has_unknown_key}
use Rattle.zac_archfile.specs.Faults.{IsObjectText, IsFault, form_fault, first_missing, first_not_whole, first_out_of_range}

-- a fault of form
abbrev IsOfForm : CardFault → Type 0
IsOfForm NotJson = ⊥
IsOfForm (Missing f) = Unit {0}
IsOfForm Unknown = Unit {0}
IsOfForm (NotWhole f) = Unit {0}
IsOfForm (Range f) = Unit {0}
IsOfForm (Invalid n) = ⊥
IsOfForm Memory = ⊥

abbrev OnFault : Option CardFault → Type 0
OnFault None = Unit {0}
OnFault (Some e) = IsOfForm e

of_form : (m : Option Field) (u : Bool) (w r : Option Field)
    → OnFault (option_or (option_map Missing m) (option_or (if u then Some Unknown else None) (option_or (option_map NotWhole w) (option_map Range r))))
of_form (Some f) u w r = tt
of_form None true w r = tt
of_form None false (Some f) r = tt
of_form None false None (Some f) = tt
of_form None false None None = tt

form_fault_of_form : (d : Data) (e : CardFault) → form_fault d ≡ Some e → IsOfForm e
form_fault_of_form d e is =
    subst OnFault is (of_form (first_missing d) (has_unknown_key d) (first_not_whole d) (first_out_of_range d))

told : (bytes : List ℕ) (d : Data) (e : CardFault) → IsObjectText bytes d → form_fault d ≡ Some e → IsOfForm e → IsFault bytes e
told bytes d NotJson text is h = absurd h
told bytes d (Missing f) text is h = (d, text, is)
told bytes d Unknown text is h = (d, text, is)
told bytes d (NotWhole f) text is h = (d, text, is)
told bytes d (Range f) text is h = (d, text, is)
told bytes d (Invalid n) text is h = absurd h
told bytes d Memory text is h = absurd h

-- a fault of form of an object is a fault of its text
pub fault_of_form_told : (bytes : List ℕ) (d : Data) (e : CardFault) → IsObjectText bytes d → form_fault d ≡ Some e → IsFault bytes e
fault_of_form_told bytes d e text is = told bytes d e text is (form_fault_of_form d e is)
