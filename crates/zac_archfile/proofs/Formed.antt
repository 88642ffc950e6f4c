-- An object without a fault of form: what stands at each of its fields.
use Rattle.std.proofs.Common.{◌≡◌, Bool, true, false, not, if◌then◌else◌, nat_le, List, [], ◌∷◌, ◌++◌, map, Option, Some, None, option_map, refl, sym, true≢false, leb-true}
use Rattle.std.proofs.lemmas.Bool.{and_parts}
use Rattle.std.specs.List.{AllByRecursion, find, flat_map, list_all}
use Rattle.std.specs.Option.{option_or}
use Rattle.serde_json.specs.Data.{Num, unsigned, negative, float, Data, null, boolean, number, string, array, object}
use Rattle.serde_json.specs.Find.{get}
use Rattle.zac_archfile.specs.declared.fault.CardFault.TheVariants.{Missing, Unknown, NotWhole, Range}
use Rattle.zac_archfile.specs.declared.field.Field.{Field}
use Rattle.zac_archfile.specs.declared.field.Field.TheVariants.{Storage, Entangling}
use Rattle.zac_archfile.specs.declared.found.Found.{Found}
use Rattle.zac_archfile.specs.declared.found.Found.TheVariants.{Absent, Whole, Objects, Other}
use Rattle.zac_archfile.specs.declared.found.Entry.{Entry}
use Rattle.zac_archfile.specs.Fields.{key_of, range_of, is_in_range_of, is_zone_list, figure_fields, storage_fields, entangling_fields}
use Rattle.zac_archfile.specs.Entries.{list_of, is_object, found_number, found_in, found_at, entry_at, zones_at, zone_entries, card_entries, has_unknown_key}
use Rattle.zac_archfile.specs.Faults.{is_whole, is_objects, is_fitting, is_found_in_range, is_in_range, first_field, first_missing, first_not_whole, first_out_of_range, form_fault}
use Rattle.zac_archfile.specs.Values.{number_value, whole_or_zero, number_at, HasSmallNumbers}

-- a number stands at the field, and it is in range
pub record IsNumber (d : Data) (f : Field) : Type 0 where
  pub value : get (key_of f) d ≡ Some (number_value (number_at d f))
  pub range : is_in_range_of f (number_at d f) ≡ true

-- at each of these fields
abbrev pub HasNumbers : List Field → Data → Type 0
HasNumbers fields d = AllByRecursion (λ f. IsNumber d f) fields

-- what an object without a fault of form has
pub record IsFormed (d : Data) : Type 0 where
  pub figures : HasNumbers figure_fields d
  pub storage : is_objects (found_at d Storage) ≡ true
  pub storages : AllByRecursion (HasNumbers storage_fields) (zones_at d Storage)
  pub entangling : is_objects (found_at d Entangling) ≡ true
  pub entanglings : AllByRecursion (HasNumbers entangling_fields) (zones_at d Entangling)
  pub known : has_unknown_key d ≡ false

-- ---- the four parts of a fault of form

no_fault : (m : Option Field) (u : Bool) (w r : Option Field)
    → option_or (option_map Missing m) (option_or (if u then Some Unknown else None) (option_or (option_map NotWhole w) (option_map Range r))) ≡ None
    → (m ≡ None) × (u ≡ false) × (w ≡ None) × (r ≡ None)
no_fault (Some m) u w r e = cc
no_fault None true w r e = cc
no_fault None false (Some w) r e = cc
no_fault None false None (Some r) e = cc
no_fault None false None None e = (refl, refl, refl, refl)

passes : (p : Entry → Bool) (b : Bool) (e : Entry) (rest : Option Entry) → p e ≡ b → option_map (λ (x : Entry). x.field) (if not b then Some e else rest) ≡ None
    → (p e ≡ true) × (option_map (λ (x : Entry). x.field) rest ≡ None)
passes p true e rest is none = (is, none)
passes p false e rest is none = cc

-- where the first entry that fails is none, each passes
all_pass : (p : Entry → Bool) (es : List Entry) → first_field (λ e. not (p e)) es ≡ None → AllByRecursion (λ e. p e ≡ true) es
all_pass p [] h = tt
all_pass p (e ∷ es) h =
    let parts = passes p (p e) e (find (λ x. not (p x)) es) refl h in
    (parts.0, all_pass p es parts.1)

-- ---- parts of all entries

front : {X : Type 0} (P : X → Type 0) (xs ys : List X) → AllByRecursion P (xs ++ ys) → AllByRecursion P xs
front P [] ys h = tt
front P (x ∷ xs) ys h = (h.0, front P xs ys h.1)

back : {X : Type 0} (P : X → Type 0) (xs ys : List X) → AllByRecursion P (xs ++ ys) → AllByRecursion P ys
back P [] ys h = h
back P (x ∷ xs) ys h = back P xs ys h.1

each_zone : (P : Entry → Type 0) (fields : List Field) (zones : List Data) → AllByRecursion P (flat_map (λ zone. map (entry_at zone) fields) zones)
    → AllByRecursion (λ zone. AllByRecursion P (map (entry_at zone) fields)) zones
each_zone P fields [] h = tt
each_zone P fields (z ∷ zs) h = (
  front P (map (entry_at z) fields) (flat_map (λ zone. map (entry_at zone) fields) zs) h,
  each_zone P fields zs (back P (map (entry_at z) fields) (flat_map (λ zone. map (entry_at zone) fields) zs) h),
)

-- ---- a whole number in range

whole_num : (n : Num) → is_whole (found_number n) ≡ true → Some (number n) ≡ Some (number_value (whole_or_zero (found_number n)))
whole_num (unsigned n) h = refl
whole_num (negative z) h = absurd (true≢false (sym h))
whole_num (float x) h = absurd (true≢false (sym h))

no_whole : (b : Bool) → is_whole (if b then Objects else Other) ≡ true → ⊥
no_whole true h = true≢false (sym h)
no_whole false h = true≢false (sym h)

whole_value : (o : Option Data) → is_whole (found_in o) ≡ true → o ≡ Some (number_value (whole_or_zero (found_in o)))
whole_value None h = absurd (true≢false (sym h))
whole_value (Some null) h = absurd (true≢false (sym h))
whole_value (Some (boolean b)) h = absurd (true≢false (sym h))
whole_value (Some (number n)) h = whole_num n h
whole_value (Some (string s)) h = absurd (true≢false (sym h))
whole_value (Some (array ds)) h = absurd (no_whole (list_all is_object (list_of ds)) h)
whole_value (Some (object ms)) h = absurd (true≢false (sym h))

whole_range : (f : Field) (x : Found) → is_whole x ≡ true → is_found_in_range f x ≡ true → is_in_range_of f (whole_or_zero x) ≡ true
whole_range f Absent h k = absurd (true≢false (sym h))
whole_range f (Whole n) h k = k
whole_range f Objects h k = absurd (true≢false (sym h))
whole_range f Other h k = absurd (true≢false (sym h))

fits_number : (b : Bool) (x : Found) → b ≡ false → (if b then is_objects x else is_whole x) ≡ true → is_whole x ≡ true
fits_number true x e h = absurd (true≢false e)
fits_number false x e h = h

numbers : (d : Data) (fields : List Field) → AllByRecursion (λ f. is_zone_list f ≡ false) fields → AllByRecursion (λ e. is_fitting e ≡ true) (map (entry_at d) fields)
    → AllByRecursion (λ e. is_in_range e ≡ true) (map (entry_at d) fields) → HasNumbers fields d
numbers d [] none fit range = tt
numbers d (f ∷ fs) none fit range =
    let whole = fits_number (is_zone_list f) (found_at d f) none.0 fit.0 in
    (record { value = whole_value (get (key_of f) d) whole; range = whole_range f (found_at d f) whole range.0 }, numbers d fs none.1 fit.1 range.1)

zone_numbers : (fields : List Field) (zones : List Data) → AllByRecursion (λ f. is_zone_list f ≡ false) fields
    → AllByRecursion (λ zone. AllByRecursion (λ e. is_fitting e ≡ true) (map (entry_at zone) fields)) zones
    → AllByRecursion (λ zone. AllByRecursion (λ e. is_in_range e ≡ true) (map (entry_at zone) fields)) zones → AllByRecursion (HasNumbers fields) zones
zone_numbers fields [] none fit range = tt
zone_numbers fields (z ∷ zs) none fit range = (numbers z fields none fit.0 range.0, zone_numbers fields zs none fit.1 range.1)

pub formed : (d : Data) → form_fault d ≡ None → IsFormed d
formed d e =
    let parts = no_fault (first_missing d) (has_unknown_key d) (first_not_whole d) (first_out_of_range d) e in
    let Fit : Entry → Type 0 = λ x. is_fitting x ≡ true in
    let InRange : Entry → Type 0 = λ x. is_in_range x ≡ true in
    let figures = map (entry_at d) figure_fields in
    let storage = zone_entries d Storage storage_fields in
    let entangling = zone_entries d Entangling entangling_fields in
    let fit = all_pass is_fitting (card_entries d) parts.2 in
    let range = all_pass is_in_range (card_entries d) parts.3 in
    let fit1 = front Fit (figures ++ storage) entangling fit in
    let range1 = front InRange (figures ++ storage) entangling range in
    let fit_storage = back Fit figures storage fit1 in
    let range_storage = back InRange figures storage range1 in
    let fit_entangling = back Fit (figures ++ storage) entangling fit in
    let range_entangling = back InRange (figures ++ storage) entangling range in
    record {
      figures = numbers d figure_fields (refl, (refl, (refl, (refl, (refl, (refl, (refl, (refl, (refl, (refl, (refl, (refl, (refl, (refl, tt)))))))))))))) (front Fit figures storage fit1) (front InRange figures storage range1);
      storage = fit_storage.0;
      storages = zone_numbers storage_fields (zones_at d Storage) (refl, (refl, (refl, (refl, (refl, (refl, tt)))))) (each_zone Fit storage_fields (zones_at d Storage) fit_storage.1) (each_zone InRange storage_fields (zones_at d Storage) range_storage.1);
      entangling = fit_entangling.0;
      entanglings = zone_numbers entangling_fields (zones_at d Entangling) (refl, (refl, (refl, (refl, (refl, (refl, (refl, tt))))))) (each_zone Fit entangling_fields (zones_at d Entangling) fit_entangling.1) (each_zone InRange entangling_fields (zones_at d Entangling) range_entangling.1);
      known = parts.1;
    }

-- ---- the numbers are small

pub small_numbers : (fields : List Field) (d : Data) → HasNumbers fields d → HasSmallNumbers fields d
small_numbers [] d h = tt
small_numbers (f ∷ fs) d h =
    let parts = and_parts (nat_le (range_of f).least (number_at d f)) (nat_le (number_at d f) (range_of f).most) h.0.range in
    (leb-true (number_at d f) (range_of f).most parts.1, small_numbers fs d h.1)

pub small_zones : (fields : List Field) (zones : List Data) → AllByRecursion (HasNumbers fields) zones → AllByRecursion (HasSmallNumbers fields) zones
small_zones fields [] h = tt
small_zones fields (z ∷ zs) h = (small_numbers fields z h.0, small_zones fields zs h.1)
