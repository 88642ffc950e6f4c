-- The value of an architecture that keeps the rules has no fault of form, and tells that architecture.
use Rattle.std.proofs.Common.{◌≡◌, ℕ, ◌≤◌, Bool, true, false, not, ◌&&◌, ◌||◌, ◌==◌, if◌then◌else◌, IsTrue, nat_le, List, [], ◌∷◌, ◌++◌, map, filter, Option, Some, None, option_map, refl, sym, ap, ap₂, ◌∙◌, subst, arith, true≢false}
use Rattle.std.proofs.lemmas.Bool.{and_parts, and_from, le-leb, eqb-true}
use Rattle.std.specs.List.{AllByRecursion, find, flat_map, list_all, list_any}
use Rattle.std.specs.Option.{option_or}
use Rattle.serde_json.specs.Data.{Data}
use Rattle.serde_json.specs.View.{items_of}
use Rattle.zac_arch.specs.Architecture.{Architecture, is_storage}
use Rattle.zac_arch.specs.Rules.{KeepsRules, HasFigureRanges, is_in, zone_in_range, figures_in_range, passes_pairs, stands_in_order}
use Rattle.zac_arch.specs.declared.card.Figures.{Figures}
use Rattle.zac_arch.specs.declared.card.Zone.{Zone}
use Rattle.zac_arch.specs.declared.card.ZoneKind.{ZoneKind}
use Rattle.zac_arch.specs.declared.card.ZoneKind.TheVariants as kind
use Rattle.zac_arch.proofs.Ranges.{figure_ranges, zone_ranges}
use Rattle.zac_archfile.specs.declared.fault.CardFault.TheVariants.{Missing, Unknown, NotWhole, Range}
use Rattle.zac_archfile.specs.declared.field.Field.{Field}
use Rattle.zac_archfile.specs.declared.field.Field.TheVariants.{Storage, Entangling}
use Rattle.zac_archfile.specs.declared.found.Found.{Found}
use Rattle.zac_archfile.specs.declared.found.Found.TheVariants.{Objects, Other}
use Rattle.zac_archfile.specs.declared.found.Entry.{Entry}
use Rattle.zac_archfile.specs.Fields.{figure_fields, storage_fields, entangling_fields}
use Rattle.zac_archfile.specs.Entries.{list_of, is_object, found_at, entry_at, zones_at, zone_entries, card_entries, has_other_key, has_unknown_key}
use Rattle.zac_archfile.specs.Faults.{is_absent, is_fitting, is_in_range, first_field, first_missing, first_not_whole, first_out_of_range, form_fault}
use Rattle.zac_archfile.specs.Values.{storage_value, entangling_value, card_value, storage_zone, entangling_zone, architecture_of}

-- something stands at the field, it fits, and it is in range
abbrev IsGood : Entry → Type 0
IsGood e = (is_absent e.found ≡ false) × (is_fitting e ≡ true) × (is_in_range e ≡ true)

in_span : (low high n : ℕ) → low ≤ n → n ≤ high → (nat_le low n && nat_le n high) ≡ true
in_span low high n least most = and_from (nat_le low n) (nat_le n high) (le-leb low n least) (le-leb n high most)

-- ---- lists

each : {X : Type 0} (P Q : X → Type 0) → ((x : X) → P x → Q x) → (xs : List X) → AllByRecursion P xs → AllByRecursion Q xs
each P Q f [] h = tt
each P Q f (x ∷ xs) h = (f x h.0, each P Q f xs h.1)

joined : {X : Type 0} (P : X → Type 0) (xs ys : List X) → AllByRecursion P xs → AllByRecursion P ys → AllByRecursion P (xs ++ ys)
joined P [] ys h k = k
joined P (x ∷ xs) ys h k = (h.0, joined P xs ys h.1 k)

kept_at : (p q : Zone → Bool) (b : Bool) (z : Zone) (zs : List Zone) → p z ≡ b → q z ≡ true → AllByRecursion (λ x. (p x ≡ true) × (q x ≡ true)) zs
    → AllByRecursion (λ x. (p x ≡ true) × (q x ≡ true)) (if b then z ∷ zs else zs)
kept_at p q true z zs is h rest = ((is, h), rest)
kept_at p q false z zs is h rest = rest

-- what passes for all zones passes for the chosen ones, which were chosen
kept : (p q : Zone → Bool) (zs : List Zone) → list_all q zs ≡ true → AllByRecursion (λ x. (p x ≡ true) × (q x ≡ true)) (filter p zs)
kept p q [] h = tt
kept p q (z ∷ zs) h =
    let parts = and_parts (q z) (list_all q zs) h in
    kept_at p q (p z) z (filter p zs) refl parts.0 (kept p q zs parts.1)

-- ---- the zones that are written

list_of-items_of : (ds : List Data) → list_of (items_of ds) ≡ ds
list_of-items_of [] = refl
list_of-items_of (d ∷ ds) = ap (λ l. d ∷ l) (list_of-items_of ds)

all_written : (value : Zone → Data) → ((z : Zone) → is_object (value z) ≡ true) → (zs : List Zone) → list_all is_object (map value zs) ≡ true
all_written value is [] = refl
all_written value is (z ∷ zs) = and_from (is_object (value z)) (list_all is_object (map value zs)) (is z) (all_written value is zs)

kept_written : (value : Zone → Data) → ((z : Zone) → is_object (value z) ≡ true) → (zs : List Zone) → filter is_object (map value zs) ≡ map value zs
kept_written value is [] = refl
kept_written value is (z ∷ zs) = ap (λ b. if b then value z ∷ filter is_object (map value zs) else filter is_object (map value zs)) (is z) ∙ ap (λ l. value z ∷ l) (kept_written value is zs)

zones_written : (value : Zone → Data) → ((z : Zone) → is_object (value z) ≡ true) → (zs : List Zone) → filter is_object (list_of (items_of (map value zs))) ≡ map value zs
zones_written value is zs = ap (filter is_object) (list_of-items_of (map value zs)) ∙ kept_written value is zs

objects_written : (value : Zone → Data) → ((z : Zone) → is_object (value z) ≡ true) → (zs : List Zone) → (if list_all is_object (list_of (items_of (map value zs))) then Objects else Other) ≡ Objects
objects_written value is zs =
    ap (λ b. if b then Objects else Other) (ap (list_all is_object) (list_of-items_of (map value zs)) ∙ all_written value is zs)

stored : Architecture → List Zone
stored a = filter (λ z. is_storage z.kind) a.zones

sited : Architecture → List Zone
sited a = filter (λ z. not (is_storage z.kind)) a.zones

storage_written : (a : Architecture) → zones_at (card_value a) Storage ≡ map storage_value (stored a)
unfolding stored
storage_written a = zones_written storage_value (λ z. refl) (stored a)

entangling_written : (a : Architecture) → zones_at (card_value a) Entangling ≡ map entangling_value (sited a)
unfolding sited
entangling_written a = zones_written entangling_value (λ z. refl) (sited a)

-- ---- each entry is good

storage_good : (z : Zone) → (is_storage z.kind ≡ true) × (zone_in_range z ≡ true) → AllByRecursion IsGood (map (entry_at (storage_value z)) storage_fields)
storage_good z h =
    let r = zone_ranges z h.1 in (
      (refl, refl, in_span 0 1000000 z.x (omega arith) r.x_most),
      (
        (refl, refl, in_span 0 1000000 z.y (omega arith) r.y_most),
        (
          (refl, refl, in_span 1 1000000 z.dx r.dx.0 r.dx.1),
          (
            (refl, refl, in_span 1 1000000 z.dy r.dy.0 r.dy.1),
            (
              (refl, refl, in_span 1 65536 z.columns r.columns.0 r.columns.1),
              ((refl, refl, in_span 1 65536 z.rows r.rows.0 r.rows.1), tt),
            ),
          ),
        ),
      ),
    )

pair_range : (b : Bool) (p : ℕ) → not b ≡ true → IsTrue (if b then p == 0 else is_in 1 1000000 p) → is_in 1 1000000 p ≡ true
pair_range true p h k = absurd (true≢false (sym h))
pair_range false p h k = k

entangling_good : (z : Zone) → (not (is_storage z.kind) ≡ true) × (zone_in_range z ≡ true) → AllByRecursion IsGood (map (entry_at (entangling_value z)) entangling_fields)
entangling_good z h =
    let r = zone_ranges z h.1 in (
      (refl, refl, in_span 0 1000000 z.x (omega arith) r.x_most),
      (
        (refl, refl, in_span 0 1000000 z.y (omega arith) r.y_most),
        (
          (refl, refl, in_span 1 1000000 z.dx r.dx.0 r.dx.1),
          (
            (refl, refl, in_span 1 1000000 z.dy r.dy.0 r.dy.1),
            (
              (refl, refl, pair_range (is_storage z.kind) z.pair h.0 r.pair),
              (
                (refl, refl, in_span 1 65536 z.columns r.columns.0 r.columns.1),
                ((refl, refl, in_span 1 65536 z.rows r.rows.0 r.rows.1), tt),
              ),
            ),
          ),
        ),
      ),
    )

each_good : (fields : List Field) (value : Zone → Data) (P : Zone → Type 0) → ((z : Zone) → P z → AllByRecursion IsGood (map (entry_at (value z)) fields)) → (zs : List Zone) → AllByRecursion P zs
    → AllByRecursion IsGood (flat_map (λ zone. map (entry_at zone) fields) (map value zs))
each_good fields value P good [] h = tt
each_good fields value P good (z ∷ zs) h =
    joined IsGood (map (entry_at (value z)) fields) (flat_map (λ zone. map (entry_at zone) fields) (map value zs)) (good z h.0) (each_good fields value P good zs h.1)

figures_good : (a : Architecture) → HasFigureRanges a.figures → AllByRecursion IsGood (map (entry_at (card_value a)) figure_fields)
figures_good a r = (
  (refl, refl, refl),
  (
    (refl, refl, in_span 1 100000 a.figures.gap r.gap_least r.gap_most),
    (
      (refl, refl, in_span 1 100000 a.figures.park r.park_least r.park_most),
      (
        (refl, refl, in_span 0 100000 a.figures.reach (omega arith) r.reach_most),
        (
          (refl, refl, in_span 1 100000 a.figures.radius r.radius_least r.radius_most),
          (
            (refl, refl, in_span 100 1000000 a.figures.accel r.accel_least r.accel_most),
            (
              (refl, refl, in_span 1 1000000000 a.figures.activate r.activate_least r.activate_most),
              (
                (refl, refl, in_span 1 1000000000 a.figures.deactivate r.deactivate_least r.deactivate_most),
                (
                  (refl, refl, in_span 1 1000000000 a.figures.one r.one_least r.one_most),
                  (
                    (refl, refl, in_span 1 1000000000 a.figures.pulse r.pulse_least r.pulse_most),
                    (
                      (refl, refl, in_span 1 1000000000 a.figures.readout r.readout_least r.readout_most),
                      (
                        (refl, refl, in_span 1 8 a.figures.aods r.aods_least r.aods_most),
                        (
                          (refl, refl, in_span 1 64 a.figures.rows r.rows_least r.rows_most),
                          ((refl, refl, in_span 1 64 a.figures.columns r.columns_least r.columns_most), tt),
                        ),
                      ),
                    ),
                  ),
                ),
              ),
            ),
          ),
        ),
      ),
    ),
  ),
)

list_good : (d : Data) (f : Field) → found_at d f ≡ Objects → IsGood (record { field = f; found = Objects }) → IsGood (entry_at d f)
list_good d f e h =
    let P : Found → Type 0 = λ x. IsGood (record { field = f; found = x }) in
    subst P (sym e) h

zone_entries_good : (d : Data) (f : Field) (fields : List Field) (zones : List Data) → zones_at d f ≡ zones → IsGood (entry_at d f)
    → AllByRecursion IsGood (flat_map (λ zone. map (entry_at zone) fields) zones) → AllByRecursion IsGood (zone_entries d f fields)
zone_entries_good d f fields zones e first rest =
    let P : List Data → Type 0 = λ zs. AllByRecursion IsGood (flat_map (λ zone. map (entry_at zone) fields) zs) in
    (first, subst P (sym e) rest)

card_good : (a : Architecture) → KeepsRules a → AllByRecursion IsGood (card_entries (card_value a))
unfolding stored sited
card_good a rules =
    let d = card_value a in
    let ranges = (and_parts (figures_in_range a.figures) (list_all zone_in_range a.zones) rules.ranges).1 in
    let figures = figures_good a (figure_ranges a rules) in
    let storage_list = list_good d Storage (objects_written storage_value (λ z. refl) (stored a)) (refl, refl, refl) in
    let entangling_list = list_good d Entangling (objects_written entangling_value (λ z. refl) (sited a)) (refl, refl, refl) in
    let storages = each_good storage_fields storage_value (λ z. (is_storage z.kind ≡ true) × (zone_in_range z ≡ true)) storage_good (stored a) (kept (λ z. is_storage z.kind) zone_in_range a.zones ranges) in
    let sites = each_good entangling_fields entangling_value (λ z. (not (is_storage z.kind) ≡ true) × (zone_in_range z ≡ true)) entangling_good (sited a) (kept (λ z. not (is_storage z.kind)) zone_in_range a.zones ranges) in
    joined IsGood (map (entry_at d) figure_fields ++ zone_entries d Storage storage_fields) (zone_entries d Entangling entangling_fields)
    (joined IsGood (map (entry_at d) figure_fields) (zone_entries d Storage storage_fields) figures
    (zone_entries_good d Storage storage_fields (map storage_value (stored a)) (storage_written a) storage_list storages))
    (zone_entries_good d Entangling entangling_fields (map entangling_value (sited a)) (entangling_written a) entangling_list sites)

-- ---- no fault of form

none_found : (test : Entry → Bool) (es : List Entry) → AllByRecursion (λ e. test e ≡ false) es → first_field test es ≡ None
none_found test [] h = refl
none_found test (e ∷ es) h =
    ap (λ b. option_map (λ (x : Entry). x.field) (if b then Some e else find test es)) h.0 ∙ none_found test es h.1

no_other_key : (fields : List Field) (value : Zone → Data) → ((z : Zone) → has_other_key fields (value z) ≡ false) → (zs : List Zone) → list_any (has_other_key fields) (map value zs) ≡ false
no_other_key fields value h [] = refl
no_other_key fields value h (z ∷ zs) = ap (λ b. b || list_any (has_other_key fields) (map value zs)) (h z) ∙ no_other_key fields value h zs

known : (a : Architecture) → has_unknown_key (card_value a) ≡ false
known a =
    let storages = ap (list_any (has_other_key storage_fields)) (storage_written a) ∙ no_other_key storage_fields storage_value (λ z. refl) (stored a) in
    let sites = ap (list_any (has_other_key entangling_fields)) (entangling_written a) ∙ no_other_key entangling_fields entangling_value (λ z. refl) (sited a) in
    ap₂ (λ b c. b || c) storages sites

no_part : (m : Option Field) (u : Bool) (w r : Option Field) → m ≡ None → u ≡ false → w ≡ None → r ≡ None
    → option_or (option_map Missing m) (option_or (if u then Some Unknown else None) (option_or (option_map NotWhole w) (option_map Range r))) ≡ None
no_part (Some f) u w r a b c d = cc
no_part None true w r a b c d = cc
no_part None false (Some f) r a b c d = cc
no_part None false None (Some f) a b c d = cc
no_part None false None None a b c d = refl

pub no_form_fault : (a : Architecture) → KeepsRules a → form_fault (card_value a) ≡ None
no_form_fault a rules =
    let d = card_value a in
    let good = card_good a rules in
    let missing = none_found (λ e. is_absent e.found) (card_entries d) (each IsGood (λ e. is_absent e.found ≡ false) (λ e h. h.0) (card_entries d) good) in
    let whole = none_found (λ e. not (is_fitting e)) (card_entries d) (each IsGood (λ e. not (is_fitting e) ≡ false) (λ e h. ap not h.1) (card_entries d) good) in
    let range = none_found (λ e. not (is_in_range e)) (card_entries d) (each IsGood (λ e. not (is_in_range e) ≡ false) (λ e h. ap not h.2) (card_entries d) good) in
    no_part (first_missing d) (has_unknown_key d) (first_not_whole d) (first_out_of_range d) missing (known a) whole range

-- ---- the architecture that the value tells

storage_kind : (k : ZoneKind) → is_storage k ≡ true → k ≡ kind.Storage
storage_kind kind.Storage h = refl
storage_kind kind.Entangling h = absurd (true≢false (sym h))

entangling_kind : (k : ZoneKind) → not (is_storage k) ≡ true → k ≡ kind.Entangling
entangling_kind kind.Storage h = absurd (true≢false (sym h))
entangling_kind kind.Entangling h = refl

no_pair : (b : Bool) (p : ℕ) → b ≡ true → IsTrue (if b then p == 0 else is_in 1 1000000 p) → p ≡ 0
no_pair true p e h = eqb-true p 0 h
no_pair false p e h = absurd (true≢false (sym e))

abbrev with_kind : Zone → ZoneKind → ℕ → Zone
with_kind z k p = record { kind = k; x = z.x; y = z.y; dx = z.dx; dy = z.dy; pair = p; columns = z.columns; rows = z.rows }

storage_back : (z : Zone) → (is_storage z.kind ≡ true) × (zone_in_range z ≡ true) → storage_zone (storage_value z) ≡ z
storage_back z h =
    ap₂ (with_kind z) (sym (storage_kind z.kind h.0)) (sym (no_pair (is_storage z.kind) z.pair h.0 (zone_ranges z h.1).pair))

entangling_back : (z : Zone) → (not (is_storage z.kind) ≡ true) × (zone_in_range z ≡ true) → entangling_zone (entangling_value z) ≡ z
entangling_back z h = ap (λ k. with_kind z k z.pair) (sym (entangling_kind z.kind h.0))

zones_back : (value : Zone → Data) (zone : Data → Zone) (P : Zone → Type 0) → ((z : Zone) → P z → zone (value z) ≡ z) → (zs : List Zone) → AllByRecursion P zs → map zone (map value zs) ≡ zs
zones_back value zone P h [] all = refl
zones_back value zone P h (z ∷ zs) all = ap₂ (λ a l. a ∷ l) (h z all.0) (zones_back value zone P h zs all.1)

not_true : (b : Bool) → not b ≡ true → b ≡ false
not_true true h = absurd (true≢false (sym h))
not_true false h = refl

-- behind an entangling zone stands no storage zone
none_stored : (v : Zone) (zs : List Zone) → is_storage v.kind ≡ false → list_all (stands_in_order v) zs ≡ true → filter (λ z. is_storage z.kind) zs ≡ []
none_stored v [] e h = refl
none_stored v (z ∷ zs) e h =
    let parts = and_parts (stands_in_order v z) (list_all (stands_in_order v) zs) h in
    let rest = filter (λ x. is_storage x.kind) zs in
    let other = not_true (is_storage z.kind) (ap (λ b. b || not (is_storage z.kind)) (sym e) ∙ parts.0) in
    ap (λ b. if b then z ∷ rest else rest) other ∙ none_stored v zs e parts.1

split : (b : Bool) (z : Zone) (front back zs : List Zone) → front ++ back ≡ zs → (b ≡ false → front ≡ []) → (if b then z ∷ front else front) ++ (if not b then z ∷ back else back) ≡ z ∷ zs
split true z front back zs e h = ap (λ l. z ∷ l) e
split false z front back zs e h = ap (λ l. l ++ z ∷ back) (h refl) ∙ ap (λ l. z ∷ l) (sym (ap (λ l. l ++ back) (h refl)) ∙ e)

storage_first : (zs : List Zone) → passes_pairs stands_in_order zs ≡ true → filter (λ z. is_storage z.kind) zs ++ filter (λ z. not (is_storage z.kind)) zs ≡ zs
storage_first [] h = refl
storage_first (z ∷ zs) h =
    let parts = and_parts (list_all (stands_in_order z) zs) (passes_pairs stands_in_order zs) h in
    split (is_storage z.kind) z (filter (λ x. is_storage x.kind) zs) (filter (λ x. not (is_storage x.kind)) zs) zs (storage_first zs parts.1) (λ e. none_stored z zs e parts.0)

abbrev made : Figures → List Zone → Architecture
made figures zones = record { figures = figures; zones = zones }

pub told_back : (a : Architecture) → KeepsRules a → architecture_of (card_value a) ≡ a
unfolding stored sited
told_back a rules =
    let ranges = (and_parts (figures_in_range a.figures) (list_all zone_in_range a.zones) rules.ranges).1 in
    let storages = zones_back storage_value storage_zone (λ z. (is_storage z.kind ≡ true) × (zone_in_range z ≡ true)) storage_back (stored a) (kept (λ z. is_storage z.kind) zone_in_range a.zones ranges) in
    let sites = zones_back entangling_value entangling_zone (λ z. (not (is_storage z.kind) ≡ true) × (zone_in_range z ≡ true)) entangling_back (sited a) (kept (λ z. not (is_storage z.kind)) zone_in_range a.zones ranges) in
    ap (made a.figures)
    (ap₂ (λ xs ys. map storage_zone xs ++ map entangling_zone ys) (storage_written a) (entangling_written a)
    ∙ ap₂ (λ xs ys. xs ++ ys) storages sites
    ∙ storage_first a.zones rules.order)
