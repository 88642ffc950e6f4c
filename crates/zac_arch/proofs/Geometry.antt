-- What holds on every card: how many traps and sites there are, where the traps stand, what a pulse lights,
-- and which traps are within the blockade radius of each other.
use Rattle.std.proofs.Common.{◌≡◌, ℕ, zero, suc, ◌+◌, ◌*◌, ◌<◌, ◌≤◌, inl, inr, not, cond, IsTrue, Option, Some, List, [], ◌∷◌, length, take, count_by, sum_by, slice_get, refl, sym, ap, subst, ◌∙◌, arith, leb-true}
use Rattle.std.specs.List.{list_all}
use Rattle.std.proofs.lemmas.Bool.{and_parts, cases_lt, cases_eq, cases_order}
use Rattle.std.proofs.lemmas.Nat.{mul-le, same_from_place}
use Rattle.std.proofs.lemmas.Option.{slice_get_within, slice_get-get_or, get_or_from_slice_get}
use Rattle.std.proofs.lemmas.List.Sums.{sum_by-cons}
use Rattle.zac_arch.specs.declared.place.Point.{Point}
use Rattle.zac_arch.specs.declared.card.Figures.{Figures}
use Rattle.zac_arch.specs.declared.card.Zone.{Zone}
use Rattle.zac_arch.specs.declared.card.ZoneKind.TheVariants.{Storage, Entangling}
use Rattle.zac_arch.specs.Distances.{difference, IsWithin}
use Rattle.zac_arch.specs.Architecture.{Architecture, traps_per_place, StandsAt, IsLit, IsInWidenedBox, is_storage, zone_sites, trap_points, trap_count, storage_count, site_count, left_trap, right_trap}
use Rattle.zac_arch.specs.Rules.{KeepsRules, zone_in_range, figures_in_range}
use Rattle.zac_arch.proofs.Grid.{InGrid, InBox, in_box, point_at}
use Rattle.zac_arch.proofs.Zones.{locate, count, count_is, count-cons, storage_zones, storage_length, kind_cases, storage_first, entangling_first}
use Rattle.zac_arch.proofs.Ranges.{AreApart, zone_rules, site_rules, zones_apart, zone_distance, zone_ranges, range_of}
pub use Rattle.zac_arch.proofs.Ranges.{figure_ranges}
pub use Rattle.zac_arch.specs.Architecture.{IsTrapOf}
use Rattle.zac_arch.proofs.Sites.{SiteAt, site_at, other_side, kind_above, kind_below}

-- how many zones, traps and sites the first rule allows
pub record HasFewZones (a : Architecture) : Type 0 where
  pub storage_least : 1 ≤ count_by (λ z. is_storage z.kind) a.zones
  pub storage_most : count_by (λ z. is_storage z.kind) a.zones ≤ 32
  pub entangling_least : 1 ≤ count_by (λ z. not (is_storage z.kind)) a.zones
  pub entangling_most : count_by (λ z. not (is_storage z.kind)) a.zones ≤ 32
  pub traps_most : storage_count a ≤ 65536
  pub sites_most : site_count a ≤ 1024

pub few_parts : (a : Architecture) → KeepsRules a → HasFewZones a
few_parts a h =
    let sites = and_parts _ _ h.few_zones in
    let traps = and_parts _ _ sites.0 in
    let zones = and_parts _ _ traps.0 in
    record {
      storage_least = (range_of _ _ _ zones.0).0;
      storage_most = (range_of _ _ _ zones.0).1;
      entangling_least = (range_of _ _ _ zones.1).0;
      entangling_most = (range_of _ _ _ zones.1).1;
      traps_most = leb-true _ _ traps.1;
      sites_most = leb-true _ _ sites.1;
    }

-- a zone in its ranges has a place at least
zone_place : (z : Zone) → IsTrue (zone_in_range z) → 1 ≤ z.rows * z.columns
zone_place z h =
    let r = zone_ranges z h in
    omega (arith, mul-le 1 1 z.rows z.columns r.rows.0 r.columns.0)

zones_of_storage : (zs : List Zone) → IsTrue (list_all zone_in_range zs) → count_by (λ z. is_storage z.kind) zs ≤ count (storage_zones zs)
zones_of_storage [] h = omega arith
zones_of_storage (z ∷ zs) h =
    let parts = and_parts (zone_in_range z) (list_all zone_in_range zs) h in
    let rest = zones_of_storage zs parts.1 in
    let place = zone_place z parts.0 in
    elim (kind_cases z.kind) as (λ _. count_by (λ z. is_storage z.kind) (z ∷ zs) ≤ count (storage_zones (z ∷ zs))) [
      | inl e ↦ omega (arith, sum_by-cons (λ z. cond (is_storage z.kind) 1 0) z zs, ap {B = ℕ} (λ k. cond (is_storage k) 1 0) e, ap count (storage_first z zs e), count-cons z (storage_zones zs), storage_length z e)
      | inr e ↦ omega (arith, sum_by-cons (λ z. cond (is_storage z.kind) 1 0) z zs, ap {B = ℕ} (λ k. cond (is_storage k) 1 0) e, ap count (entangling_first z zs e))
    ]

zones_of_sites : (zs : List Zone) → IsTrue (list_all zone_in_range zs) → count_by (λ z. not (is_storage z.kind)) zs ≤ sum_by zone_sites zs
zones_of_sites [] h = omega arith
zones_of_sites (z ∷ zs) h =
    let parts = and_parts (zone_in_range z) (list_all zone_in_range zs) h in
    let rest = zones_of_sites zs parts.1 in
    let place = zone_place z parts.0 in
    elim (kind_cases z.kind) as (λ _. count_by (λ z. not (is_storage z.kind)) (z ∷ zs) ≤ sum_by zone_sites (z ∷ zs)) [
      | inl e ↦ omega (arith, sum_by-cons (λ z. cond (not (is_storage z.kind)) 1 0) z zs, ap {B = ℕ} (λ k. cond (not (is_storage k)) 1 0) e, sum_by-cons zone_sites z zs)
      | inr e ↦ omega (arith, sum_by-cons (λ z. cond (not (is_storage z.kind)) 1 0) z zs, ap {B = ℕ} (λ k. cond (not (is_storage k)) 1 0) e, ap (λ k. cond (is_storage k) 0 (z.columns * z.rows)) e, sum_by-cons zone_sites z zs)
    ]

-- how many traps and sites there are
pub trap_count_is : (a : Architecture) → KeepsRules a → trap_count a ≡ storage_count a + 2 * site_count a
trap_count_is a h = count_is a.zones

pub storage_count_least : (a : Architecture) → KeepsRules a → 1 ≤ storage_count a
storage_count_least a h =
    omega (arith, (few_parts a h).storage_least, zones_of_storage a.zones (and_parts (figures_in_range a.figures) _ h.ranges).1)

pub storage_count_most : (a : Architecture) → KeepsRules a → storage_count a ≤ 65536
storage_count_most a h = (few_parts a h).traps_most

pub site_count_least : (a : Architecture) → KeepsRules a → 1 ≤ site_count a
site_count_least a h =
    omega (arith, (few_parts a h).entangling_least, zones_of_sites a.zones (and_parts (figures_in_range a.figures) _ h.ranges).1)

pub site_count_most : (a : Architecture) → KeepsRules a → site_count a ≤ 1024
site_count_most a h = (few_parts a h).sites_most

slice_get_some : {A : Type 0} (xs : List A) (k : ℕ) → k < length xs → (x : A) × (slice_get xs k ≡ Some x)
slice_get_some [] k lt = absurd (omega arith)
slice_get_some (x ∷ xs) zero lt = (x, refl)
slice_get_some (x ∷ xs) (suc k) lt = slice_get_some xs k (omega arith)

-- each trap stands at a point
pub stands : (a : Architecture) → KeepsRules a → (t : ℕ) → t < trap_count a → (p : Point) × StandsAt a t p
stands a h t lt = slice_get_some (trap_points a) t lt

-- what stands at a point is a trap
pub stands_below : (a : Architecture) (t : ℕ) (p : Point) → StandsAt a t p → t < trap_count a
stands_below a t p s = slice_get_within (trap_points a) t p s

-- a trap stands at one point
pub one_point : (a : Architecture) (t : ℕ) (p q : Point) → StandsAt a t p → StandsAt a t q → p ≡ q
one_point a t p q s u = cc

-- a beam parked beyond a trap is on the field
pub on_the_field : (a : Architecture) → KeepsRules a → (t : ℕ) (p : Point) → StandsAt a t p → (p.x + a.figures.park ≤ 1000000) × (p.y + a.figures.park ≤ 1000000)
on_the_field a h t p s =
    let l = locate a.zones t p s in
    let r = zone_rules a h l.number l.zone l.is_zone in
    let b = in_box l.zone l.place p l.grid in
    (omega (arith, r.right_most, b.right), omega (arith, r.top_most, b.top))

pub same_item : (zs : List Zone) (i j : ℕ) (v w : Zone) → i ≡ j → slice_get zs i ≡ Some v → slice_get zs j ≡ Some w → v ≡ w
same_item zs i j v w e f g = let at : slice_get zs i ≡ slice_get zs j = ap (slice_get zs) e in cc

-- a point of one zone doesn't lie in the widened box of another one
dark_apart : (f : Figures) (v w : Zone) (p : Point) → InBox v p → IsInWidenedBox f.radius w p → AreApart (zone_distance f) v w → ⊥
dark_apart f v w p b l (AreApart.left h) = omega (arith, b.right, l.left)
dark_apart f v w p b l (AreApart.right h) = omega (arith, b.left, l.right)
dark_apart f v w p b l (AreApart.under h) = omega (arith, b.top, l.bottom)
dark_apart f v w p b l (AreApart.over h) = omega (arith, b.bottom, l.top)

-- no storage trap is lit, and each other trap is
pub storage_dark : (a : Architecture) → KeepsRules a → (t : ℕ) (p : Point) → t < storage_count a → StandsAt a t p → ¬ IsLit a p
storage_dark a h t p lt s lit =
    let l = locate a.zones t p s in
    let kind = kind_below a h t p lt l in
    let w = lit.1 in
    let is_zone : slice_get a.zones lit.0 ≡ Some w = slice_get-get_or a.zones lit.0 w lit.2 ∙ ap Some lit.3 in
    let b = in_box l.zone l.place p l.grid in
    elim (cases_eq l.number lit.0) as (λ _. ⊥) [
      | inl e ↦
          let same : l.zone ≡ w = same_item a.zones l.number lit.0 l.zone w e l.is_zone is_zone in
          let kinds : Storage ≡ Entangling = sym kind ∙ ap (λ (z : Zone). z.kind) same ∙ lit.4.0 in
          cc
      | inr ne ↦
          dark_apart a.figures l.zone w p b lit.4.1 (zones_apart a h l.number lit.0 l.zone w l.is_zone is_zone ne)
    ]

pub entangling_lit : (a : Architecture) → KeepsRules a → (t : ℕ) (p : Point) → storage_count a ≤ t → StandsAt a t p → IsLit a p
entangling_lit a h t p le s =
    let l = locate a.zones t p s in
    let b = in_box l.zone l.place p l.grid in (
      l.number,
      l.zone,
      slice_get_within a.zones l.number l.zone l.is_zone,
      get_or_from_slice_get a.zones l.number l.zone l.zone l.is_zone,
      (
        kind_above a h t p le l,
        record {
          left = omega (arith, b.left);
          right = omega (arith, b.right);
          bottom = omega (arith, b.bottom);
          top = omega (arith, b.top);
        },
      ),
    )

coordinates : (q : Point) (x y : ℕ) (o : Option Point) → o ≡ Some q → o ≡ Some (point_at x y) → (q.x ≡ x) × (q.y ≡ y)
coordinates q x y o e f =
    let same : q ≡ point_at x y = cc in
    (ap (λ (c : Point). c.x) same, ap (λ (c : Point). c.y) same)

-- two points of one row
row_within : (r w : ℕ) (p q : Point) → q.x ≡ p.x + w → q.y ≡ p.y → w ≤ r → IsWithin r p q
row_within r w p q ex ey le =
    let dx : difference p.x q.x ≡ w = omega arith in
    let dy : difference p.y q.y ≡ 0 = omega arith in
    let squares : difference p.x q.x * difference p.x q.x + difference p.y q.y * difference p.y q.y ≡ w * w + 0 * 0 = rw (dx, dy) refl in
    omega (arith, squares, mul-le w w r r le le)

pair_within : (a : Architecture) → KeepsRules a → (s : ℕ) (p q : Point) → SiteAt a s 0 p → StandsAt a (right_trap a s) q → IsWithin a.figures.radius p q
pair_within a h s p q site r =
    let c = coordinates q _ _ _ r (other_side a h s 0 1 p (omega arith) site) in
    let rules = site_rules a h site.number site.zone site.is_zone site.kind in
    row_within a.figures.radius site.zone.pair p q (omega (arith, c.0, site.x_is)) (omega (arith, c.1, site.y_is)) rules.pair_most

-- the two traps of a site are within the blockade radius
pub site_within : (a : Architecture) → KeepsRules a → (s : ℕ) (p q : Point) → s < site_count a → StandsAt a (left_trap a s) p → StandsAt a (right_trap a s) q → IsWithin a.figures.radius p q
site_within a h s p q lt l r =
    let here : left_trap a s ≡ storage_count a + 2 * s + 0 = omega arith in
    let at : StandsAt a (storage_count a + 2 * s + 0) p = ap (slice_get (trap_points a)) (sym here) ∙ l in
    pair_within a h s p q (site_at a h s 0 p (omega arith) at) r

square_le : (d e r : ℕ) → d * d + e ≤ r * r → d ≤ r
square_le d e r h =
    elim (cases_lt r d) as (λ _. d ≤ r) [ inl lt ↦ absurd (omega (arith, mul-le (r + 1) (r + 1) d d (omega arith) (omega arith))) | inr le ↦ le ]

-- what is near is near along each axis
record IsNear (r : ℕ) (p q : Point) : Type 0 where
  left : p.x ≤ q.x + r
  right : q.x ≤ p.x + r
  below : p.y ≤ q.y + r
  above : q.y ≤ p.y + r

near : (r : ℕ) (p q : Point) → IsWithin r p q → IsNear r p q
near r p q h =
    let dx : difference p.x q.x ≤ r = square_le (difference p.x q.x) (difference p.y q.y * difference p.y q.y) r h in
    let dy : difference p.y q.y ≤ r = square_le (difference p.y q.y) (difference p.x q.x * difference p.x q.x) r (omega (arith, h)) in
    record { left = omega (arith, dx); right = omega (arith, dx); below = omega (arith, dy); above = omega (arith, dy) }

not_near : (f : Figures) (v w : Zone) (p q : Point) → InBox v p → InBox w q → IsNear f.radius p q → AreApart (zone_distance f) v w → ⊥
not_near f v w p q b c n (AreApart.left h) = omega (arith, b.right, c.left, n.right)
not_near f v w p q b c n (AreApart.right h) = omega (arith, b.left, c.right, n.left)
not_near f v w p q b c n (AreApart.under h) = omega (arith, b.top, c.bottom, n.above)
not_near f v w p q b c n (AreApart.over h) = omega (arith, b.bottom, c.top, n.below)

-- columns and rows of a grid that are near are one
same_line : (m n d w r i j : ℕ) → r + w < d → i ≤ w → j ≤ w → m * d + i ≤ n * d + j + r → n * d + j ≤ m * d + i + r → m ≡ n
same_line m n d w r i j lt il jl h k =
    elim (cases_order m n) as (λ _. m ≡ n) [
      | inl e ↦ e
      | inr x ↦ elim x as (λ _. m ≡ n) [ inl l ↦ absurd (omega (arith, mul-le (m + 1) d n d (omega arith) (omega arith))) | inr l ↦ absurd (omega (arith, mul-le (n + 1) d m d (omega arith) (omega arith))) ]
    ]

half_le : (i w : ℕ) → i < 2 → i * w ≤ w
half_le i w lt = omega (arith, mul-le i w 1 w (omega arith) (omega arith))

sites_near : (a : Architecture) → KeepsRules a → (s s' i j : ℕ) (p q : Point) → i < 2 → j < 2 → SiteAt a s i p → SiteAt a s' j q → IsNear a.figures.radius p q → s ≡ s'
sites_near a h s s' i j p q il jl l r n =
    let z = l.zone in
    elim (cases_eq l.number r.number) as (λ _. s ≡ s') [
      | inl e ↦
          let same : z ≡ r.zone = same_item a.zones l.number r.number z r.zone e l.is_zone r.is_zone in
          let rules = site_rules a h l.number z l.is_zone l.kind in
          let qx : q.x ≡ z.x + r.column * z.dx + j * z.pair = r.x_is ∙ ap (λ (y : Zone). y.x + r.column * y.dx + j * y.pair) (sym same) in
          let qy : q.y ≡ z.y + r.row * z.dy = r.y_is ∙ ap (λ (y : Zone). y.y + r.row * y.dy) (sym same) in
          let column : l.column ≡ r.column = same_line l.column r.column z.dx z.pair a.figures.radius (i * z.pair) (j * z.pair) rules.between_most (half_le i z.pair il) (half_le j z.pair jl) (omega (arith, l.x_is, qx, n.left)) (omega (arith, l.x_is, qx, n.right)) in
          let row : l.row ≡ r.row = same_line l.row r.row z.dy 0 a.figures.radius 0 0 (omega (arith, rules.above_most)) (omega arith) (omega arith) (omega (arith, l.y_is, qy, n.below)) (omega (arith, l.y_is, qy, n.above)) in
          let sites : sum_by zone_sites (take l.number a.zones) ≡ sum_by zone_sites (take r.number a.zones) = ap (λ k. sum_by zone_sites (take k a.zones)) e in
          let places : l.row * z.columns ≡ r.row * r.zone.columns = ap (λ k. k * z.columns) row ∙ ap (λ (y : Zone). r.row * y.columns) same in
          omega (arith, sites, places, column, l.site_is, r.site_is)
      | inr ne ↦
          absurd (not_near a.figures z r.zone p q l.box r.box n (zones_apart a h l.number r.number z r.zone l.is_zone r.is_zone ne))
    ]

-- on which side of its site a trap is
side_of : (a : Architecture) (s t : ℕ) → IsTrapOf a s t → (side : ℕ) × (side < 2) × (t ≡ storage_count a + 2 * s + side)
side_of a s t i =
    elim i as (λ _. (side : ℕ) × (side < 2) × (t ≡ storage_count a + 2 * s + side)) [ inl e ↦ (0, omega arith, omega arith) | inr e ↦ (1, omega arith, omega arith) ]

-- traps of two sites aren't within the blockade radius
pub one_site : (a : Architecture) → KeepsRules a → (s s' t t' : ℕ) (p q : Point) → IsTrapOf a s t → IsTrapOf a s' t' → StandsAt a t p → StandsAt a t' q → IsWithin a.figures.radius p q → s ≡ s'
one_site a h s s' t t' p q i i' l r w =
    let left = side_of a s t i in
    let right = side_of a s' t' i' in
    let lp : StandsAt a (storage_count a + 2 * s + left.0) p = ap (slice_get (trap_points a)) (sym left.2) ∙ l in
    let rq : StandsAt a (storage_count a + 2 * s' + right.0) q = ap (slice_get (trap_points a)) (sym right.2) ∙ r in
    sites_near a h s s' left.0 right.0 p q left.1 right.1 (site_at a h s left.0 p left.1 lp) (site_at a h s' right.0 q right.1 rq) (near a.figures.radius p q w)

same_side : (i j w : ℕ) → i < 2 → j < 2 → 1 ≤ w → i * w ≡ j * w → i ≡ j
same_side zero zero w il jl le e = refl
same_side zero (suc j) w il jl le e = absurd (omega (arith, mul-le 1 1 (suc j) w (omega arith) le))
same_side (suc i) zero w il jl le e = absurd (omega (arith, mul-le 1 1 (suc i) w (omega arith) le))
same_side (suc i) (suc j) w il jl le e = omega arith

-- in one grid no two places give one point
one_place : (z : Zone) (j k : ℕ) (p : Point) (g : InGrid z j p) (i : InGrid z k p) → 1 ≤ z.dy → g.side * z.pair < z.dx → i.side * z.pair < z.dx → (g.side * z.pair ≡ i.side * z.pair → g.side ≡ i.side) → j ≡ k
one_place z j k p g i dy gl il sides =
    let row : g.row ≡ i.row = (same_from_place g.row 0 i.row 0 z.dy dy dy (omega (arith, g.y_is, i.y_is))).0 in
    let across = same_from_place g.column (g.side * z.pair) i.column (i.side * z.pair) z.dx gl il (omega (arith, g.x_is, i.x_is)) in
    let w = traps_per_place z.kind in
    g.place ∙ ap (λ r. r * (z.columns * w) + (g.column * w + g.side)) row ∙ ap (λ c. i.row * (z.columns * w) + (c * w + g.side)) across.0 ∙ ap (λ s. i.row * (z.columns * w) + (i.column * w + s)) (sides across.1) ∙ sym i.place

one_place_by_rules : (a : Architecture) → KeepsRules a → (number : ℕ) (z : Zone) → slice_get a.zones number ≡ Some z → (j k : ℕ) (p : Point) → InGrid z j p → InGrid z k p → j ≡ k
one_place_by_rules a h number z e j k p g i =
    let rules = zone_rules a h number z e in
    elim (kind_cases z.kind) as (λ _. j ≡ k) [
      | inl s ↦
          let w : traps_per_place z.kind ≡ 1 = ap traps_per_place s in
          let gs : g.side ≡ 0 = omega (arith, g.side_in, w) in
          let is : i.side ≡ 0 = omega (arith, i.side_in, w) in
          one_place z j k p g i rules.dy_least (omega (arith, ap (λ n. n * z.pair) gs, rules.dx_least)) (omega (arith, ap (λ n. n * z.pair) is, rules.dx_least)) (λ _. gs ∙ sym is)
      | inr s ↦
          let w : traps_per_place z.kind ≡ 2 = ap traps_per_place s in
          let sites = site_rules a h number z e s in
          let gs : g.side < 2 = omega (arith, g.side_in, w) in
          let is : i.side < 2 = omega (arith, i.side_in, w) in
          one_place z j k p g i rules.dy_least (omega (arith, half_le g.side z.pair gs, sites.between_most)) (omega (arith, half_le i.side z.pair is, sites.between_most)) (same_side g.side i.side z.pair gs is sites.pair_least)
    ]

-- no two traps stand at one point
pub one_trap : (a : Architecture) → KeepsRules a → (t u : ℕ) (p : Point) → StandsAt a t p → StandsAt a u p → t ≡ u
one_trap a h t u p l r =
    let x = locate a.zones t p l in
    let y = locate a.zones u p r in
    let z = x.zone in
    elim (cases_eq x.number y.number) as (λ _. t ≡ u) [
      | inl e ↦
          let same : z ≡ y.zone = same_item a.zones x.number y.number z y.zone e x.is_zone y.is_zone in
          let grid = subst (λ v. InGrid v y.place p) (sym same) y.grid in
          let before : count (take x.number a.zones) ≡ count (take y.number a.zones) = ap (λ k. count (take k a.zones)) e in
          let place : x.place ≡ y.place = one_place_by_rules a h x.number z x.is_zone x.place y.place p x.grid grid in
          omega (arith, x.is_trap, y.is_trap, before, place)
      | inr ne ↦
          absurd (not_near a.figures z y.zone p p (in_box z x.place p x.grid) (in_box y.zone y.place p y.grid) (record { left = omega arith; right = omega arith; below = omega arith; above = omega arith }) (zones_apart a h x.number y.number z y.zone x.is_zone y.is_zone ne))
    ]
