-- What a walk over the zones of a card reads: the zone at a number, and the counts so far.
use Rattle.std.proofs.Common.{◌≡◌, true, ℕ, zero, suc, ◌+◌, ◌*◌, ◌/◌, ◌%◌, ◌<◌, ◌≤◌, inl, inr, not, cond, count_by, ◌-◌, Some, List, [], ◌∷◌, length, take, get_or, slice_get, flat_map, sum_by, refl, sym, ap, subst, ◌∙◌, arith, length-append}
use Rattle.std.proofs.lemmas.Bool.{cases_eq, false≢true}
use Rattle.std.proofs.lemmas.Option.{slice_get-get_or}
use Rattle.std.proofs.lemmas.Nat.{div_below, mod_below, div-add-mod', mul-le}
use Rattle.std.proofs.lemmas.List.{take_more, take_all}
use Rattle.std.proofs.lemmas.List.Concat.{flat_map-append}
use Rattle.std.proofs.lemmas.List.Folds.{length-flat_map-take}
use Rattle.std.proofs.lemmas.List.Sums.{sum_by-cons}
use Rattle.zac_arch.specs.declared.place.Point.{Point}
use Rattle.zac_arch.specs.declared.card.Zone.{Zone}
use Rattle.zac_arch.specs.declared.card.ZoneKind.{ZoneKind}
use Rattle.zac_arch.specs.declared.card.ZoneKind.TheVariants.{Storage, Entangling}
use Rattle.zac_arch.specs.Architecture.{Architecture, StandsAt, is_storage, traps_per_place, zone_traps, trap_count, storage_count, site_count, traps_before, last_x, last_y, IsTrapOf}
use Rattle.zac_arch.specs.Rules.{KeepsRules}
use Rattle.zac_arch.proofs.Grid.{in_box, at_place, in_grid, point_at, length-zone_traps}
use Rattle.zac_arch.proofs.Zones.{count, count-cons, count_is, storage_zones, storage_first, entangling_first, storage_length, kind_cases, stands_at_place}
use Rattle.zac_arch.proofs.Ranges.{zone_rules, site_rules, no_pair}
use Rattle.zac_arch.proofs.Geometry.{few_parts, storage_count_most, site_count_most}

pub trap_count_most : (a : Architecture) → KeepsRules a → trap_count a ≤ 67584
trap_count_most a h = omega (arith, count_is a.zones, storage_count_most a h, site_count_most a h)

-- the zone that is read
pub zone_at : (a : Architecture) (zs : List Zone) → zs ≡ a.zones → (k : ℕ) (d : Zone) → k < length zs → slice_get a.zones k ≡ Some (get_or zs k d)
zone_at a zs e k d lt =
    ap (λ ys. slice_get ys k) (sym e) ∙ slice_get-get_or zs k d lt

-- the traps so far, and those of the next zone
pub count_more : (zs : List Zone) (k : ℕ) (d : Zone) → k < length zs → count (take (k + 1) zs) ≡ count (take k zs) + length (zone_traps (get_or zs k d))
count_more zs k d lt =
    let z = get_or zs k d in
    omega (arith, ap count (take_more zs k d lt), ap length (flat_map-append zone_traps (take k zs) (z ∷ [])), length-append (flat_map zone_traps (take k zs)) (flat_map zone_traps (z ∷ [])), count-cons z [])

pub traps_of_fit : (a : Architecture) → KeepsRules a → (zs : List Zone) → zs ≡ a.zones → (k : ℕ) (d : Zone) → k < length zs → length (zone_traps (get_or zs k d)) < 4294967296
traps_of_fit a h zs e k d lt =
    omega (arith, length-flat_map-take zone_traps zs k d lt, ap count e, trap_count_most a h)

-- the storage traps and the sites so far
abbrev pub storage_part : Zone → ℕ
storage_part z = cond (is_storage z.kind) (length (zone_traps z)) 0

pub storage_sum : (zs : List Zone) → count (storage_zones zs) ≡ sum_by storage_part zs
storage_sum [] = refl
storage_sum (z ∷ zs) =
    elim (kind_cases z.kind) as (λ _. count (storage_zones (z ∷ zs)) ≡ sum_by storage_part (z ∷ zs)) [
      | inl e ↦ omega (arith, storage_sum zs, ap count (storage_first z zs e), count-cons z (storage_zones zs), sum_by-cons storage_part z zs, ap (λ k. cond (is_storage k) (length (zone_traps z)) 0) e)
      | inr e ↦ omega (arith, storage_sum zs, ap count (entangling_first z zs e), sum_by-cons storage_part z zs, ap (λ k. cond (is_storage k) (length (zone_traps z)) 0) e)
    ]

pub storage_total : (zs : List Zone) (k n : ℕ) → length zs ≤ k → n ≡ sum_by storage_part (take k zs) → n ≡ count (storage_zones zs)
storage_total zs k n le is = is ∙ ap (sum_by storage_part) (take_all k zs le) ∙ sym (storage_sum zs)

pub storage_places : (z : Zone) → is_storage z.kind ≡ true → z.rows * z.columns ≡ length (zone_traps z)
storage_places z is =
    elim (kind_cases z.kind) as (λ _. z.rows * z.columns ≡ length (zone_traps z)) [
      | inl e ↦ sym (storage_length z e)
      | inr e ↦ absurd (false≢true (sym (ap is_storage e) ∙ is))
    ]

width_least : (k : ZoneKind) → 0 < traps_per_place k
width_least Storage = omega arith
width_least Entangling = omega arith

-- how many traps a zone has, as a product
pub zone_product : (z : Zone) → z.rows * z.columns * traps_per_place z.kind ≡ length (zone_traps z)
zone_product z = omega (arith, length-zone_traps z)

pub zone_product_least : (z : Zone) → z.rows * z.columns ≤ length (zone_traps z)
zone_product_least z =
    omega (arith, zone_product z, mul-le (z.rows * z.columns) 1 (z.rows * z.columns) (traps_per_place z.kind) (omega arith) (omega (arith, width_least z.kind)))

-- the row, the column and the side of a place by division
pub record Division (z : Zone) (place width : ℕ) : Type 0 where
  pub columns_least : 0 < z.columns
  pub stands : slice_get (zone_traps z) place ≡ Some (point_at (z.x + place / width % z.columns * z.dx + place % width * z.pair) (z.y + place / width / z.columns * z.dy))
  pub right : z.x + place / width % z.columns * z.dx + place % width * z.pair ≤ last_x z
  pub top : z.y + place / width / z.columns * z.dy ≤ last_y z

some_column : (rows columns width j : ℕ) → j < rows * (columns * width) → 0 < columns
some_column rows zero width j lt = absurd (omega arith)
some_column rows (suc columns) width j lt = omega arith

pub division : (z : Zone) (place width : ℕ) → width ≡ traps_per_place z.kind → place < length (zone_traps z) → Division z place width
division z place width e lt =
    let w = traps_per_place z.kind in
    let w_least : 0 < w = width_least z.kind in
    let within : place < z.rows * (z.columns * w) = omega (arith, length-zone_traps z) in
    let c_least = some_column z.rows z.columns w place within in
    let sites : place / w < z.rows * z.columns = div_below place w (z.rows * z.columns) w_least (omega arith) in
    let row_in : place / w / z.columns < z.rows = div_below (place / w) z.columns z.rows c_least sites in
    let column_in : place / w % z.columns < z.columns = mod_below (place / w) z.columns c_least in
    let side_in : place % w < w = mod_below place w w_least in
    let split : (place / w / z.columns * z.columns + place / w % z.columns) * w + place % w ≡ place = ap (λ n. n * w + place % w) (div-add-mod' (place / w) z.columns) ∙ div-add-mod' place w in
    let at = at_place z place (place / w / z.columns) (place / w % z.columns) (place % w) row_in column_in side_in (omega (arith, split)) in
    let box = in_box z place _ (in_grid z place _ at) in
    let made : Division z place w = record { columns_least = c_least; stands = at; right = box.right; top = box.top } in
    subst (Division z place) (sym e) made

-- the trap at a place of a zone
pub stands_by_place : (a : Architecture) (zs : List Zone) → zs ≡ a.zones → (t k place : ℕ) (d : Zone) (p : Point) → k < length zs → t ≡ traps_before a k + place → slice_get (zone_traps (get_or zs k d)) place ≡ Some p → StandsAt a t p
stands_by_place a zs e t k place d p lt is at =
    ap (slice_get (flat_map zone_traps a.zones)) is ∙ stands_at_place a.zones k place (get_or zs k d) p (zone_at a zs e k d lt) at

-- the far end of a zone that is read
pub last_fits : (a : Architecture) → KeepsRules a → (zs : List Zone) → zs ≡ a.zones → (k : ℕ) (d : Zone) → k < length zs → (last_x (get_or zs k d) < 4294967296) × (last_y (get_or zs k d) < 4294967296)
last_fits a h zs e k d lt =
    let r = zone_rules a h k (get_or zs k d) (zone_at a zs e k d lt) in
    (omega (arith, r.right_most), omega (arith, r.top_most))

-- each zone has a row and a column
pub counts_least : (a : Architecture) → KeepsRules a → (zs : List Zone) → zs ≡ a.zones → (k : ℕ) (d : Zone) → k < length zs → (1 ≤ (get_or zs k d).columns) × (1 ≤ (get_or zs k d).rows)
counts_least a h zs e k d lt =
    let r = zone_rules a h k (get_or zs k d) (zone_at a zs e k d lt) in
    (r.columns_least, r.rows_least)

-- the right trap of a place stands left of the next place
pub pair_in : (a : Architecture) → KeepsRules a → (zs : List Zone) → zs ≡ a.zones → (k : ℕ) (d : Zone) → k < length zs → (get_or zs k d).pair < (get_or zs k d).dx
pair_in a h zs e k d lt =
    let z = get_or zs k d in
    let at = zone_at a zs e k d lt in
    elim (kind_cases z.kind) as (λ _. z.pair < z.dx) [
      | inl s ↦ omega (arith, no_pair a h k z at s, (zone_rules a h k z at).dx_least)
      | inr s ↦ omega (arith, (site_rules a h k z at s).between_most)
    ]

count_both : (zs : List Zone) → count_by (λ z. is_storage z.kind) zs + count_by (λ z. not (is_storage z.kind)) zs ≡ length zs
count_both [] = omega arith
count_both (z ∷ zs) =
    elim (kind_cases z.kind) as (λ _. count_by (λ y. is_storage y.kind) (z ∷ zs) + count_by (λ y. not (is_storage y.kind)) (z ∷ zs) ≡ length (z ∷ zs)) [
      | inl e ↦ omega (arith, count_both zs, sum_by-cons (λ y. cond (is_storage y.kind) 1 0) z zs, sum_by-cons (λ y. cond (not (is_storage y.kind)) 1 0) z zs, ap {B = ℕ} (λ k. cond (is_storage k) 1 0) e, ap {B = ℕ} (λ k. cond (not (is_storage k)) 1 0) e)
      | inr e ↦ omega (arith, count_both zs, sum_by-cons (λ y. cond (is_storage y.kind) 1 0) z zs, sum_by-cons (λ y. cond (not (is_storage y.kind)) 1 0) z zs, ap {B = ℕ} (λ k. cond (is_storage k) 1 0) e, ap {B = ℕ} (λ k. cond (not (is_storage k)) 1 0) e)
    ]

pub zones_most : (a : Architecture) → KeepsRules a → length a.zones ≤ 64
zones_most a h = omega (arith, count_both a.zones, (few_parts a h).storage_most, (few_parts a h).entangling_most)

-- the site of a trap behind the storage traps
pub site_of_trap : (a : Architecture) (t n : ℕ) → n ≡ storage_count a → n ≤ t → t < trap_count a → ((t - n) / 2 < site_count a) × IsTrapOf a ((t - n) / 2) t
site_of_trap a t n e le lt =
    let s = (t - n) / 2 in
    let within : s < site_count a = omega (arith, count_is a.zones) in
    elim (cases_eq (n + 2 * s) t) as (λ _. (s < site_count a) × IsTrapOf a s t) [ inl same ↦ (within, inl (omega arith)) | inr other ↦ (within, inr (omega arith)) ]
