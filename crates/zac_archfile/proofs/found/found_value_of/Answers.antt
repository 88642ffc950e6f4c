use Rattle.std.proofs.Common.{◌≡◌, Bool, true, false, ◌∙◌, sym, ap, if◌then◌else◌, List, Vec, Global}
use Rattle.std.specs.List.{list_all}
use Rattle.serde_json.specs.View.{view}
use Rattle.serde_json.specs.declared.value.Value.{Value, Array}
use Rattle.serde_json.proofs.Views.{view-Array}
use Rattle.zac_archfile.specs.declared.found.Found.TheVariants.{Objects, Other}
use Rattle.zac_archfile.specs.Entries.{found_value, is_object}
use Rattle.zac_archfile.proofs.Views.{all_objects}
use Rattle.zac_archfile.proofs.found.found_value_of.Goals as goal

answer : (v : Value) (m : Vec Value Global) (items : List Value) (b : Bool) → v ≡ Array m → items ≡ m.items → b ≡ list_all (λ v. is_object (view v)) items
    → (if b then Objects else Other) ≡ found_value (view v)
answer v m items b is same e =
    ap (λ t. if t then Objects else Other) (e ∙ ap (list_all (λ v. is_object (view v))) same ∙ all_objects m.items)
    ∙ sym (ap (λ x. found_value (view x)) is ∙ ap found_value (view-Array m))

pub returns-then-are_objects : goal.returns-then-are_objects
returns-then-are_objects c =
    answer c.args.value.now c.in-Array.items c.as_slice.result.now true c.in-Array.is c.as_slice.ensures.value (sym c.if-are_objects.true ∙ c.are_objects.ensures)

pub returns-else-are_objects : goal.returns-else-are_objects
returns-else-are_objects c =
    answer c.args.value.now c.in-Array.items c.as_slice.result.now false c.in-Array.is c.as_slice.ensures.value (sym c.if-are_objects.false ∙ c.are_objects.ensures)
