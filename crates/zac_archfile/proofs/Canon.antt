-- An object without a fault of form, whose keys rise, is the value of the architecture that it tells.
use Rattle.std.proofs.Common.{◌≡◌, ℕ, Bool, true, false, not, ◌&&◌, ◌||◌, if◌then◌else◌, IsTrue, nat_le, leb-true, arith, List, [], ◌∷◌, ◌++◌, map, filter, Option, Some, None, refl, sym, ap, ap₂, ◌∙◌, subst, true≢false}
use Rattle.std.proofs.lemmas.Bool.{and_parts}
use Rattle.std.specs.List.{AllByRecursion, list_all, list_any}
use Rattle.serde_json.specs.Data.{Num, unsigned, negative, float, Data, null, boolean, number, string, array, object, Items, no_items, item}
use Rattle.serde_json.specs.Find.{get}
use Rattle.serde_json.specs.View.{items_of}
use Rattle.zac_arch.specs.Architecture.{is_storage}
use Rattle.zac_arch.specs.Rules.{passes_pairs, stands_in_order, KeepsRules}
use Rattle.zac_arch.specs.declared.card.Zone.{Zone}
use Rattle.zac_archfile.specs.declared.field.Field.{Field}
use Rattle.zac_archfile.specs.declared.field.Field.TheVariants.{Version, Gap, Park, Reach, Radius, Accel, Activate, Deactivate, One, Pulse, Readout, Aods, Rows, Columns, Storage, StorageX, StorageY, StorageDx, StorageDy, StorageColumns, StorageRows, Entangling, EntanglingX, EntanglingY, EntanglingDx, EntanglingDy, EntanglingPair, EntanglingColumns, EntanglingRows}
use Rattle.zac_archfile.specs.Fields.{key_of, figure_fields, storage_fields, entangling_fields}
use Rattle.zac_archfile.specs.declared.found.Found.TheVariants.{Objects, Other}
use Rattle.zac_archfile.specs.Entries.{list_of, is_object, found_number, found_in, found_at, objects_in, zones_at, has_other_key}
use Rattle.zac_archfile.specs.Faults.{is_objects, form_fault, IsObjectText}
use Rattle.zac_archfile.specs.Values.{number_value, number_at, storage_value, entangling_value, storage_list, entangling_list, card_value, storage_zone, entangling_zone, zones_of, architecture_of}
use Rattle.zac_archfile.specs.Texts.{IsCardText}
use Rattle.zac_archfile.proofs.Exact.{exact, or_parts}
use Rattle.zac_archfile.proofs.Formed.{HasNumbers, IsFormed, formed}
use Rattle.zac_archfile.proofs.Ordered.{IsOrdered, read_ordered, list_ordered}

-- ---- one zone

storage_canon : (z : Data) → is_object z ≡ true → IsOrdered z → HasNumbers storage_fields z → has_other_key storage_fields z ≡ false → storage_value (storage_zone z) ≡ z
storage_canon null is o n k = absurd (true≢false (sym is))
storage_canon (boolean b) is o n k = absurd (true≢false (sym is))
storage_canon (number x) is o n k = absurd (true≢false (sym is))
storage_canon (string s) is o n k = absurd (true≢false (sym is))
storage_canon (array ds) is o n k = absurd (true≢false (sym is))
storage_canon (object ms) is o n k =
    let sorted = StorageColumns ∷ StorageDx ∷ StorageDy ∷ StorageRows ∷ StorageX ∷ StorageY ∷ [] in
    let v : Field → Data = λ f. number_value (number_at (object ms) f) in
    let x = n.0 in
    let y = n.1.0 in
    let dx = n.1.1.0 in
    let dy = n.1.1.1.0 in
    let columns = n.1.1.1.1.0 in
    let rows = n.1.1.1.1.1.0 in
    sym (ap object (exact ms storage_fields sorted v o.0 tt (columns.value, (dx.value, (dy.value, (rows.value, (x.value, (y.value, tt)))))) k (refl, (refl, (refl, (refl, (refl, (refl, tt))))))))

entangling_canon : (z : Data) → is_object z ≡ true → IsOrdered z → HasNumbers entangling_fields z → has_other_key entangling_fields z ≡ false → entangling_value (entangling_zone z) ≡ z
entangling_canon null is o n k = absurd (true≢false (sym is))
entangling_canon (boolean b) is o n k = absurd (true≢false (sym is))
entangling_canon (number x) is o n k = absurd (true≢false (sym is))
entangling_canon (string s) is o n k = absurd (true≢false (sym is))
entangling_canon (array ds) is o n k = absurd (true≢false (sym is))
entangling_canon (object ms) is o n k =
    let sorted = EntanglingColumns ∷ EntanglingDx ∷ EntanglingDy ∷ EntanglingPair ∷ EntanglingRows ∷ EntanglingX ∷ EntanglingY ∷ [] in
    let v : Field → Data = λ f. number_value (number_at (object ms) f) in
    let x = n.0 in
    let y = n.1.0 in
    let dx = n.1.1.0 in
    let dy = n.1.1.1.0 in
    let pair = n.1.1.1.1.0 in
    let columns = n.1.1.1.1.1.0 in
    let rows = n.1.1.1.1.1.1.0 in
    sym (ap object (exact ms entangling_fields sorted v o.0 tt (columns.value, (dx.value, (dy.value, (pair.value, (rows.value, (x.value, (y.value, tt))))))) k (refl, (refl, (refl, (refl, (refl, (refl, (refl, tt)))))))))

-- ---- a list of zones

-- what is asked of each zone for this
abbrev IsCanon : List Field → (Data → Data) → Type 0
IsCanon fields value = (z : Data) → is_object z ≡ true → IsOrdered z → HasNumbers fields z → has_other_key fields z ≡ false → value z ≡ z

zones_canon : (fields : List Field) (value : Data → Data) → IsCanon fields value → (zs : List Data) → list_all is_object zs ≡ true → AllByRecursion IsOrdered zs → AllByRecursion (HasNumbers fields) zs
    → list_any (has_other_key fields) zs ≡ false → map value zs ≡ zs
zones_canon fields value canon [] objects ordered numbers known = refl
zones_canon fields value canon (z ∷ zs) objects ordered numbers known =
    let is = and_parts (is_object z) (list_all is_object zs) objects in
    let k = or_parts (has_other_key fields z) (list_any (has_other_key fields) zs) known in
    ap₂ (λ a as'. a ∷ as') (canon z is.0 ordered.0 numbers.0 k.0) (zones_canon fields value canon zs is.1 ordered.1 numbers.1 k.1)

kept_all : (zs : List Data) → list_all is_object zs ≡ true → filter is_object zs ≡ zs
kept_all [] h = refl
kept_all (z ∷ zs) h =
    let parts = and_parts (is_object z) (list_all is_object zs) h in
    ap (λ b. if b then z ∷ filter is_object zs else filter is_object zs) parts.0 ∙ ap (λ l. z ∷ l) (kept_all zs parts.1)

items_of-list_of : (ds : Items) → items_of (list_of ds) ≡ ds
items_of-list_of no_items = refl
items_of-list_of (item d ds) = ap (item d) (items_of-list_of ds)

-- an array of objects
record IsList (o : Option Data) : Type 0 where
  items : Items
  is : o ≡ Some (array items)
  objects : list_all is_object (list_of items) ≡ true

num_no_list : (n : Num) → is_objects (found_number n) ≡ true → ⊥
num_no_list (unsigned n) h = true≢false (sym h)
num_no_list (negative z) h = true≢false (sym h)
num_no_list (float x) h = true≢false (sym h)

all_or_other : (b : Bool) → is_objects (if b then Objects else Other) ≡ true → b ≡ true
all_or_other true h = refl
all_or_other false h = absurd (true≢false (sym h))

a_list : (o : Option Data) → is_objects (found_in o) ≡ true → IsList o
a_list None h = absurd (true≢false (sym h))
a_list (Some null) h = absurd (true≢false (sym h))
a_list (Some (boolean b)) h = absurd (true≢false (sym h))
a_list (Some (number n)) h = absurd (num_no_list n h)
a_list (Some (string s)) h = absurd (true≢false (sym h))
a_list (Some (array ds)) h = record { items = ds; is = refl; objects = all_or_other (list_all is_object (list_of ds)) h }
a_list (Some (object ms)) h = absurd (true≢false (sym h))

-- a list of zones is the array of its zones' values
list_canon : (fields : List Field) (value : Data → Data) → IsCanon fields value → (d : Data) (f : Field) → IsOrdered d → is_objects (found_at d f) ≡ true → AllByRecursion (HasNumbers fields) (zones_at d f)
    → list_any (has_other_key fields) (zones_at d f) ≡ false → get (key_of f) d ≡ Some (array (items_of (map value (zones_at d f))))
list_canon fields value canon d f ordered is numbers known =
    let l = a_list (get (key_of f) d) is in
    let zs = list_of l.items in
    let same : zones_at d f ≡ zs = ap objects_in l.is ∙ kept_all zs l.objects in
    let P : List Data → Type 0 = λ x. AllByRecursion (HasNumbers fields) x in
    let all = zones_canon fields value canon zs l.objects (list_ordered (key_of f) d l.items ordered l.is) (subst P same numbers) (ap (list_any (has_other_key fields)) (sym same) ∙ known) in
    l.is ∙ ap (λ x. Some (array x)) (sym (items_of-list_of l.items)) ∙ ap (λ x. Some (array (items_of x))) (sym (ap (map value) same ∙ all))

-- ---- the zones of both lists

chosen_storage : (xs ys : List Data) → filter (λ z. is_storage z.kind) (map storage_zone xs ++ map entangling_zone ys) ≡ map storage_zone xs
chosen_storage [] [] = refl
chosen_storage [] (y ∷ ys) = chosen_storage [] ys
chosen_storage (x ∷ xs) ys = ap (λ l. storage_zone x ∷ l) (chosen_storage xs ys)

chosen_entangling : (xs ys : List Data) → filter (λ z. not (is_storage z.kind)) (map storage_zone xs ++ map entangling_zone ys) ≡ map entangling_zone ys
chosen_entangling [] [] = refl
chosen_entangling [] (y ∷ ys) = ap (λ l. entangling_zone y ∷ l) (chosen_entangling [] ys)
chosen_entangling (x ∷ xs) ys = chosen_entangling xs ys

map_twice : {A B C : Type 0} (g : B → C) (f : A → B) (xs : List A) → map g (map f xs) ≡ map (λ x. g (f x)) xs
map_twice g f [] = refl
map_twice g f (x ∷ xs) = ap (λ l. g (f x) ∷ l) (map_twice g f xs)

behind_entangling : (y : Data) (ys : List Data) → list_all (stands_in_order (entangling_zone y)) (map entangling_zone ys) ≡ true
behind_entangling y [] = refl
behind_entangling y (z ∷ zs) = behind_entangling y zs

entangling_order : (ys : List Data) → passes_pairs stands_in_order (map entangling_zone ys) ≡ true
entangling_order [] = refl
entangling_order (y ∷ ys) = rw (behind_entangling y ys) (entangling_order ys)

behind_storage : (x : Data) (zs : List Zone) → list_all (stands_in_order (storage_zone x)) zs ≡ true
behind_storage x [] = refl
behind_storage x (z ∷ zs) = behind_storage x zs

both_orders : (xs ys : List Data) → passes_pairs stands_in_order (map storage_zone xs ++ map entangling_zone ys) ≡ true
both_orders [] ys = entangling_order ys
both_orders (x ∷ xs) ys = rw (behind_storage x (map storage_zone xs ++ map entangling_zone ys)) (both_orders xs ys)

-- the storage zones stand first
pub zones_order : (d : Data) → IsTrue (passes_pairs stands_in_order (zones_of d))
zones_order d = both_orders (zones_at d Storage) (zones_at d Entangling)

-- ---- the card

-- the version is in its range where it is 1
version_is_one : (n : ℕ) → (nat_le 1 n && nat_le n 1) ≡ true → n ≡ 1
version_is_one n h =
    let parts = and_parts (nat_le 1 n) (nat_le n 1) h in
    let low = leb-true 1 n parts.0 in
    let high = leb-true n 1 parts.1 in
    omega arith

-- the value at each field of a card
member_value : Data → Field → Data
member_value d Version = number_value 1
member_value d Storage = storage_list (zones_of d)
member_value d Entangling = entangling_list (zones_of d)
member_value d f = number_value (number_at d f)

object_canon : (d : Data) → is_object d ≡ true → IsOrdered d → IsFormed d → d ≡ card_value (architecture_of d)
unfolding member_value
object_canon null is o n = absurd (true≢false (sym is))
object_canon (boolean b) is o n = absurd (true≢false (sym is))
object_canon (number x) is o n = absurd (true≢false (sym is))
object_canon (string s) is o n = absurd (true≢false (sym is))
object_canon (array ds) is o n = absurd (true≢false (sym is))
object_canon (object ms) is o n =
    let d : Data = object ms in
    let sorted = Accel ∷ Activate ∷ Aods ∷ Columns ∷ Deactivate ∷ Entangling ∷ Gap ∷ One ∷ Park ∷ Pulse ∷ Radius ∷ Reach ∷ Readout ∷ Rows ∷ Storage ∷ Version ∷ [] in
    let xs = zones_at d Storage in
    let ys = zones_at d Entangling in
    let fields = figure_fields ++ Storage ∷ Entangling ∷ [] in
    let top = or_parts (has_other_key fields d || list_any (has_other_key storage_fields) xs) (list_any (has_other_key entangling_fields) ys) n.known in
    let own = or_parts (has_other_key fields d) (list_any (has_other_key storage_fields) xs) top.0 in
    let storage : get (key_of Storage) d ≡ Some (storage_list (zones_of d)) =
    list_canon storage_fields (λ z. storage_value (storage_zone z)) storage_canon d Storage o n.storage n.storages own.1
    ∙ ap (λ l. Some (array (items_of l))) (sym (ap (map storage_value) (chosen_storage xs ys) ∙ map_twice storage_value storage_zone xs)) in
    let entangling : get (key_of Entangling) d ≡ Some (entangling_list (zones_of d)) =
    list_canon entangling_fields (λ z. entangling_value (entangling_zone z)) entangling_canon d Entangling o n.entangling n.entanglings top.1
    ∙ ap (λ l. Some (array (items_of l))) (sym (ap (map entangling_value) (chosen_entangling xs ys) ∙ map_twice entangling_value entangling_zone ys)) in
    let f0 = n.figures in
    let f1 = f0.1 in
    let f2 = f1.1 in
    let f3 = f2.1 in
    let f4 = f3.1 in
    let f5 = f4.1 in
    let f6 = f5.1 in
    let f7 = f6.1 in
    let f8 = f7.1 in
    let f9 = f8.1 in
    let f10 = f9.1 in
    let f11 = f10.1 in
    let f12 = f11.1 in
    let f13 = f12.1 in
    let version = f0.0.value ∙ ap (λ x. Some (number_value x)) (version_is_one (number_at d Version) f0.0.range) in
    ap object (exact ms fields sorted (member_value d) o.0 tt
    (f5.0.value, (f6.0.value, (f11.0.value, (f13.0.value, (f7.0.value, (entangling, (f1.0.value, (f8.0.value, (f2.0.value, (f9.0.value, (f4.0.value, (f3.0.value, (f10.0.value, (f12.0.value, (storage, (version, tt))))))))))))))))
    own.0
    (refl, (refl, (refl, (refl, (refl, (refl, (refl, (refl, (refl, (refl, (refl, (refl, (refl, (refl, (refl, (refl, tt)))))))))))))))))

-- a text of an object without a fault of form is the text of the architecture that it tells, where that keeps the rules
pub card_canon : (bytes : List ℕ) (d : Data) → IsObjectText bytes d → form_fault d ≡ None → KeepsRules (architecture_of d) → IsCardText bytes (architecture_of d)
card_canon bytes d text e rules = record {
  utf8 = text.utf8;
  value = text.value ∙ ap (λ x. Some x) (object_canon d text.is_one (read_ordered bytes d text.value) (formed d e));
  rules = rules;
}
