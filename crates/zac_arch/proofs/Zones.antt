-- The traps of a list of zones: the zone, the place in it, and how storage traps and sites are counted.
use Rattle.std.proofs.Common.{◌≡◌, ℕ, zero, suc, ◌+◌, ◌-◌, ◌*◌, ◌<◌, ◌≤◌, ◌⊎◌, inl, inr, true, false, not, cond, ◌||◌, IsTrue, Some, List, [], ◌∷◌, length, take, filter, slice_get, flat_map, sum_by, refl, sym, ap, ◌∙◌, arith, length-append}
use Rattle.std.specs.List.{list_all}
use Rattle.std.proofs.lemmas.Option.{slice_get_within}
use Rattle.std.proofs.lemmas.Bool.{and_parts, cases_lt}
use Rattle.std.proofs.lemmas.List.Sums.{sum_by-cons}
use Rattle.zac_arch.specs.declared.place.Point.{Point}
use Rattle.zac_arch.specs.declared.card.Zone.{Zone}
use Rattle.zac_arch.specs.declared.card.ZoneKind.{ZoneKind}
use Rattle.zac_arch.specs.declared.card.ZoneKind.TheVariants.{Storage, Entangling}
use Rattle.zac_arch.specs.Architecture.{traps_per_place, is_storage, zone_traps, zone_sites}
use Rattle.zac_arch.specs.Rules.{passes_pairs, stands_in_order}
use Rattle.zac_arch.proofs.Lists.{slice_get-append_left, slice_get-append_right, passes_at}
use Rattle.zac_arch.proofs.Grid.{length-zone_traps, InGrid, in_grid}

-- the traps of some zones, and how many they are
abbrev pub points : List Zone → List Point
points zs = flat_map zone_traps zs

abbrev pub count : List Zone → ℕ
count zs = length (points zs)

abbrev pub storage_zones : List Zone → List Zone
storage_zones zs = filter (λ z. is_storage z.kind) zs

pub count-cons : (z : Zone) (zs : List Zone) → count (z ∷ zs) ≡ length (zone_traps z) + count zs
count-cons z zs = length-append (zone_traps z) (points zs)

-- Trap t stands at p: in which zone, and at which place in it.
pub record Located (zs : List Zone) (t : ℕ) (p : Point) : Type 0 where
  pub zone : Zone
  pub number : ℕ
  pub place : ℕ
  pub is_zone : slice_get zs number ≡ Some zone
  pub is_trap : t ≡ count (take number zs) + place
  pub place_in : place < length (zone_traps zone)
  pub grid : InGrid zone place p

pub locate : (zs : List Zone) (t : ℕ) (p : Point) → slice_get (points zs) t ≡ Some p → Located zs t p
locate [] t p e = absurd (omega (arith, slice_get_within {A = Point} [] t p e))
locate (z ∷ zs) t p e =
    elim (cases_lt t (length (zone_traps z))) as (λ _. Located (z ∷ zs) t p) [
      | inl lt ↦
          let here : slice_get (zone_traps z) t ≡ Some p = sym (slice_get-append_left (zone_traps z) (points zs) t lt) ∙ e in
          record { zone = z; number = 0; place = t; is_zone = refl; is_trap = omega arith; place_in = lt; grid = in_grid z t p here }
      | inr le ↦
          let there : slice_get (points zs) (t - length (zone_traps z)) ≡ Some p = sym (slice_get-append_right (zone_traps z) (points zs) (length (zone_traps z)) t (t - length (zone_traps z)) refl (omega arith)) ∙ e in
          let l = locate zs (t - length (zone_traps z)) p there in
          record {
            zone = l.zone;
            number = suc l.number;
            place = l.place;
            is_zone = l.is_zone;
            is_trap = omega (arith, l.is_trap, count-cons z (take l.number zs));
            place_in = l.place_in;
            grid = l.grid;
          }
    ]

-- the trap at a place of a zone
pub stands_at_place : (zs : List Zone) (number place : ℕ) (z : Zone) (p : Point) → slice_get zs number ≡ Some z → slice_get (zone_traps z) place ≡ Some p → slice_get (points zs) (count (take number zs) + place) ≡ Some p
stands_at_place [] number place z p e f = cc
stands_at_place (y ∷ zs) zero place z p e f =
    let same : y ≡ z = cc in
    let lt : place < length (zone_traps y) = rw same (slice_get_within (zone_traps z) place p f) in
    let at : 0 + place ≡ place = omega arith in
    ap (slice_get (points (y ∷ zs))) at ∙ slice_get-append_left (zone_traps y) (points zs) place lt ∙ ap (λ w. slice_get (zone_traps w) place) same ∙ f
stands_at_place (y ∷ zs) (suc number) place z p e f =
    slice_get-append_right (zone_traps y) (points zs) (length (zone_traps y)) _ (count (take number zs) + place) refl (omega (arith, count-cons y (take number zs))) ∙ stands_at_place zs number place z p e f

-- how many traps a zone has
pub storage_length : (z : Zone) → z.kind ≡ Storage → length (zone_traps z) ≡ z.rows * z.columns
storage_length z e =
    let w : traps_per_place z.kind ≡ 1 = ap traps_per_place e in
    omega (arith, rw w at (length-zone_traps z))

pub entangling_length : (z : Zone) → z.kind ≡ Entangling → length (zone_traps z) ≡ 2 * zone_sites z
entangling_length z e =
    let w : traps_per_place z.kind ≡ 2 = ap traps_per_place e in
    let s : zone_sites z ≡ z.columns * z.rows = ap (λ k. cond (is_storage k) 0 (z.columns * z.rows)) e in
    omega (arith, rw w at (length-zone_traps z), s)

pub kind_cases : (k : ZoneKind) → (k ≡ Storage) ⊎ (k ≡ Entangling)
kind_cases Storage = inl refl
kind_cases Entangling = inr refl

-- where one zone stands in front of those that count
pub storage_first : (z : Zone) (zs : List Zone) → z.kind ≡ Storage → storage_zones (z ∷ zs) ≡ z ∷ storage_zones zs
storage_first z zs e = ap (λ k. cond (is_storage k) (z ∷ storage_zones zs) (storage_zones zs)) e

pub entangling_first : (z : Zone) (zs : List Zone) → z.kind ≡ Entangling → storage_zones (z ∷ zs) ≡ storage_zones zs
entangling_first z zs e = ap (λ k. cond (is_storage k) (z ∷ storage_zones zs) (storage_zones zs)) e

storage_sites : (z : Zone) → z.kind ≡ Storage → zone_sites z ≡ 0
storage_sites z e = ap (λ k. cond (is_storage k) 0 (z.columns * z.rows)) e

-- each trap is a storage trap or one of the two of a site
pub count_is : (zs : List Zone) → count zs ≡ count (storage_zones zs) + 2 * sum_by zone_sites zs
count_is [] = omega arith
count_is (z ∷ zs) =
    elim (kind_cases z.kind) as (λ _. count (z ∷ zs) ≡ count (storage_zones (z ∷ zs)) + 2 * sum_by zone_sites (z ∷ zs)) [
      | inl e ↦ omega (arith, count_is zs, count-cons z zs, ap count (storage_first z zs e), count-cons z (storage_zones zs), storage_sites z e, sum_by-cons zone_sites z zs)
      | inr e ↦ omega (arith, count_is zs, count-cons z zs, ap count (entangling_first z zs e), entangling_length z e, sum_by-cons zone_sites z zs)
    ]

-- after an entangling zone there is no storage zone
no_storage : (zs : List Zone) (z : Zone) → z.kind ≡ Entangling → IsTrue (list_all (stands_in_order z) zs) → storage_zones zs ≡ []
no_storage [] z e h = refl
no_storage (y ∷ zs) z e h =
    elim (kind_cases y.kind) as (λ _. storage_zones (y ∷ zs) ≡ []) [
      | inl s ↦
          let test : stands_in_order z y ≡ true = (and_parts (stands_in_order z y) _ h).0 in
          let fails : stands_in_order z y ≡ false = ap (λ k. is_storage k || not (is_storage y.kind)) e ∙ ap (λ k. not (is_storage k)) s in
          cc
      | inr s ↦ entangling_first y zs s ∙ no_storage zs z e (and_parts (stands_in_order z y) _ h).1
    ]

-- the traps before an entangling zone are the storage traps and those of the sites before it
pub before_entangling : (zs : List Zone) (k : ℕ) (z : Zone) → IsTrue (passes_pairs stands_in_order zs) → slice_get zs k ≡ Some z → z.kind ≡ Entangling → count (take k zs) ≡ count (storage_zones zs) + 2 * sum_by zone_sites (take k zs)
before_entangling [] k z h e f = cc
before_entangling (y ∷ zs) zero z h e f =
    let same : y ≡ z = cc in
    let kind : y.kind ≡ Entangling = ap (λ (w : Zone). w.kind) same ∙ f in
    let none : storage_zones (y ∷ zs) ≡ [] = entangling_first y zs kind ∙ no_storage zs y kind (and_parts (list_all (stands_in_order y) zs) _ h).0 in
    omega (arith, ap count none)
before_entangling (y ∷ zs) (suc k) z h e f =
    let rest = before_entangling zs k z (and_parts (list_all (stands_in_order y) zs) _ h).1 e f in
    elim (kind_cases y.kind) as (λ _. count (take (suc k) (y ∷ zs)) ≡ count (storage_zones (y ∷ zs)) + 2 * sum_by zone_sites (take (suc k) (y ∷ zs))) [
      | inl s ↦ omega (arith, rest, count-cons y (take k zs), ap count (storage_first y zs s), count-cons y (storage_zones zs), storage_sites y s, sum_by-cons zone_sites y (take k zs))
      | inr s ↦ omega (arith, rest, count-cons y (take k zs), ap count (entangling_first y zs s), entangling_length y s, sum_by-cons zone_sites y (take k zs))
    ]

-- a storage zone ends within the storage traps
pub within_storage : (zs : List Zone) (k : ℕ) (z : Zone) → IsTrue (passes_pairs stands_in_order zs) → slice_get zs k ≡ Some z → z.kind ≡ Storage → count (take k zs) + length (zone_traps z) ≤ count (storage_zones zs)
within_storage [] k z h e f = cc
within_storage (y ∷ zs) zero z h e f =
    let same : y ≡ z = cc in
    let kind : y.kind ≡ Storage = ap (λ (w : Zone). w.kind) same ∙ f in
    omega (arith, ap count (storage_first y zs kind), count-cons y (storage_zones zs), ap (λ w. length (zone_traps w)) same)
within_storage (y ∷ zs) (suc k) z h e f =
    let rest = within_storage zs k z (and_parts (list_all (stands_in_order y) zs) _ h).1 e f in
    elim (kind_cases y.kind) as (λ _. count (take (suc k) (y ∷ zs)) + length (zone_traps z) ≤ count (storage_zones (y ∷ zs))) [
      | inl s ↦ omega (arith, rest, count-cons y (take k zs), ap count (storage_first y zs s), count-cons y (storage_zones zs))
      | inr s ↦
          let test : stands_in_order y z ≡ true = passes_at (stands_in_order y) zs k z (and_parts (list_all (stands_in_order y) zs) _ h).0 e in
          let fails : stands_in_order y z ≡ false = ap (λ k. is_storage k || not (is_storage z.kind)) s ∙ ap (λ k. not (is_storage k)) f in
          cc
    ]
