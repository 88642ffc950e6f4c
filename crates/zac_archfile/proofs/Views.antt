-- Values as data: the items of arrays, the keys of objects, and the entries of a list of zones that is read item by item.
use Rattle.std.proofs.Common.{◌≡◌, ℕ, zero, suc, ◌<◌, Bool, true, false, if◌then◌else◌, List, [], ◌∷◌, length, map, filter, get_or, not, ◌||◌, BTreeMap, true≢false, subst, Some, String, Vec, Global, string_bytes, refl, sym, ap, ◌∙◌, arith}
use Rattle.std.specs.List.{list_all, list_any, AllByRecursion}
use Rattle.std.proofs.lemmas.List.Folds.{list_all-map}
use Rattle.std.specs.Map.{keys_of}
use Rattle.serde_json.specs.Data.{Data, null, boolean, number, string, array, object}
use Rattle.serde_json.specs.View.{view, items_of, members_view}
use Rattle.serde_json.specs.declared.value.Value.{Value, Array, Object}
use Rattle.serde_json.proofs.Views.{view-Array, view-Object}
use Rattle.zac_archfile.specs.Entries.{list_of, is_object, objects_in, member_keys, is_key_of, has_other_key}
use Rattle.zac_archfile.specs.declared.field.Field.{Field}

pub list_of-items_of : (ds : List Data) → list_of (items_of ds) ≡ ds
list_of-items_of [] = refl
list_of-items_of (d ∷ ds) = ap (λ l. d ∷ l) (list_of-items_of ds)

-- whether the items of an array are objects
pub all_objects : (vs : List Value) → list_all (λ v. is_object (view v)) vs ≡ list_all is_object (list_of (items_of (map view vs)))
all_objects vs = sym (list_all-map is_object view vs) ∙ sym (ap (list_all is_object) (list_of-items_of (map view vs)))

-- the objects of an array
pub objects-Array : (v : Value) (m : Vec Value Global) (items : List Value) → v ≡ Array m → items ≡ m.items → filter is_object (map view items) ≡ objects_in (Some (view v))
objects-Array v m items is same =
    ap (λ vs. filter is_object (map view vs)) same
    ∙ sym (ap (λ x. objects_in (Some (view x))) is ∙ ap (λ d. objects_in (Some d)) (view-Array m) ∙ ap (filter is_object) (list_of-items_of (map view m.items)))

-- the keys of an object
member_keys-members_view : (es : List (String Global × Value)) → member_keys (members_view es) ≡ map (λ k. string_bytes k) (keys_of es)
member_keys-members_view [] = refl
member_keys-members_view (e ∷ es) = ap (λ l. string_bytes e.0 ∷ l) (member_keys-members_view es)

list_any-map : {A B : Type 0} (p : B → Bool) (f : A → B) (xs : List A) → list_any p (map f xs) ≡ list_any (λ x. p (f x)) xs
list_any-map p f [] = refl
list_any-map p f (x ∷ xs) = ap (λ t. p (f x) || t) (list_any-map p f xs)

-- whether an object has another key
pub other_key-Object : (fields : List Field) (m : BTreeMap (String Global) Value)
    → list_any (λ k. not (is_key_of fields (string_bytes k))) (keys_of m.entries) ≡ has_other_key fields (view (Object m))
other_key-Object fields m =
    let test : List ℕ → Bool = λ k. not (is_key_of fields k) in
    sym (list_any-map test (λ k. string_bytes k) (keys_of m.entries))
    ∙ sym (ap (list_any test) (member_keys-members_view m.entries))
    ∙ sym (ap (has_other_key fields) (view-Object m))

other_of_no_object : (fields : List Field) (d : Data) → is_object d ≡ false → has_other_key fields d ≡ false
other_of_no_object fields null e = refl
other_of_no_object fields (boolean b) e = refl
other_of_no_object fields (number n) e = refl
other_of_no_object fields (string s) e = refl
other_of_no_object fields (array ds) e = refl
other_of_no_object fields (object ms) e = absurd (true≢false e)

kept_or_not : (p : Data → Bool) (b : Bool) (d : Data) (ds : List Data) → (b ≡ false → p d ≡ false) → list_any p (if b then d ∷ ds else ds) ≡ (p d || list_any p ds)
kept_or_not p true d ds h = refl
kept_or_not p false d ds h = sym (ap (λ t. t || list_any p ds) (h refl))

-- whether an object of a list has another key
pub other_key-objects : (fields : List Field) (vs : List Value) → list_any (λ v. has_other_key fields (view v)) vs ≡ list_any (has_other_key fields) (filter is_object (map view vs))
other_key-objects fields [] = refl
other_key-objects fields (v ∷ vs) =
    ap (λ t. has_other_key fields (view v) || t) (other_key-objects fields vs)
    ∙ sym (kept_or_not (has_other_key fields) (is_object (view v)) (view v) (filter is_object (map view vs)) (other_of_no_object fields (view v)))

of_kept : (P : Data → Type 0) (b : Bool) (d : Data) (ds : List Data) → b ≡ true → AllByRecursion P (if b then d ∷ ds else ds) → P d
of_kept P true d ds e h = h.0
of_kept P false d ds e h = absurd (true≢false (sym e))

of_rest : (P : Data → Type 0) (b : Bool) (d : Data) (ds : List Data) → AllByRecursion P (if b then d ∷ ds else ds) → AllByRecursion P ds
of_rest P true d ds h = h.1
of_rest P false d ds h = h

-- what holds of each object of a list holds of the one at this place
pub object_at : (P : Data → Type 0) (vs : List Value) (i : ℕ) (v : Value) → i < length vs → v ≡ get_or vs i v → is_object (view v) ≡ true
    → AllByRecursion P (filter is_object (map view vs)) → P (view v)
object_at P [] i v h e is all = absurd (omega arith)
object_at P (w ∷ ws) zero v h e is all =
    let Q : Value → Type 0 = λ x. P (view x) in
    subst Q (sym e) (of_kept P (is_object (view w)) (view w) (filter is_object (map view ws)) (ap (λ x. is_object (view x)) (sym e) ∙ is) all)
object_at P (w ∷ ws) (suc i) v h e is all =
    object_at P ws i v (omega arith) e is (of_rest P (is_object (view w)) (view w) (filter is_object (map view ws)) all)
