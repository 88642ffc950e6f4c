-- The traps of the sites: the zone, the row and the column of a site, and the point of each of its traps.
use Rattle.std.proofs.Common.{◌≡◌, ℕ, ◌+◌, ◌*◌, ◌<◌, ◌≤◌, inl, inr, Some, take, slice_get, sum_by, refl, sym, ap, ◌∙◌, arith}
use Rattle.zac_arch.specs.declared.place.Point.{Point}
use Rattle.zac_arch.specs.declared.card.Zone.{Zone}
use Rattle.zac_arch.specs.declared.card.ZoneKind.TheVariants.{Storage, Entangling}
use Rattle.zac_arch.specs.Architecture.{Architecture, traps_per_place, StandsAt, trap_points, storage_count, zone_sites}
use Rattle.zac_arch.specs.Rules.{KeepsRules}
use Rattle.zac_arch.proofs.Grid.{InBox, in_box, at_place, point_at}
use Rattle.zac_arch.proofs.Zones.{Located, locate, count, stands_at_place, before_entangling, within_storage, kind_cases}

-- the trap on one side of a site, 0 for the left and 1 for the right one
pub record SiteAt (a : Architecture) (site side : ℕ) (p : Point) : Type 0 where
  pub zone : Zone
  pub number : ℕ
  pub row : ℕ
  pub column : ℕ
  pub is_zone : slice_get a.zones number ≡ Some zone
  pub kind : zone.kind ≡ Entangling
  pub row_in : row < zone.rows
  pub column_in : column < zone.columns
  pub site_is : site ≡ sum_by zone_sites (take number a.zones) + (row * zone.columns + column)
  pub x_is : p.x ≡ zone.x + column * zone.dx + side * zone.pair
  pub y_is : p.y ≡ zone.y + row * zone.dy
  pub box : InBox zone p

-- the kind of a trap's zone follows from its number
pub kind_above : (a : Architecture) → KeepsRules a → (t : ℕ) (p : Point) → storage_count a ≤ t → (l : Located a.zones t p) → l.zone.kind ≡ Entangling
kind_above a h t p le l =
    elim (kind_cases l.zone.kind) as (λ _. l.zone.kind ≡ Entangling) [
      | inl s ↦ absurd (omega (arith, within_storage a.zones l.number l.zone h.order l.is_zone s, l.place_in, l.is_trap))
      | inr s ↦ s
    ]

pub kind_below : (a : Architecture) → KeepsRules a → (t : ℕ) (p : Point) → t < storage_count a → (l : Located a.zones t p) → l.zone.kind ≡ Storage
kind_below a h t p lt l =
    elim (kind_cases l.zone.kind) as (λ _. l.zone.kind ≡ Storage) [
      | inl s ↦ s
      | inr s ↦ absurd (omega (arith, before_entangling a.zones l.number l.zone h.order l.is_zone s, l.is_trap))
    ]

-- one site and one side at most give a trap
same_halves : (m n i j : ℕ) → i < 2 → j < 2 → 2 * m + i ≡ 2 * n + j → (m ≡ n) × (i ≡ j)
same_halves m n i j il jl e = (omega arith, omega arith)

pub site_at : (a : Architecture) → KeepsRules a → (site side : ℕ) (p : Point) → side < 2 → StandsAt a (storage_count a + 2 * site + side) p → SiteAt a site side p
site_at a h site side p sl s =
    let t = storage_count a + 2 * site + side in
    let l = locate a.zones t p s in
    let kind = kind_above a h t p (omega arith) l in
    let w : traps_per_place l.zone.kind ≡ 2 = ap traps_per_place kind in
    let before = before_entangling a.zones l.number l.zone h.order l.is_zone kind in
    let g = l.grid in
    let place : l.place ≡ g.row * (l.zone.columns * 2) + (g.column * 2 + g.side) = g.place ∙ ap (λ n. g.row * (l.zone.columns * n) + (g.column * n + g.side)) w in
    let in' : g.side < 2 = omega (arith, g.side_in, w) in
    let halves = same_halves site (sum_by zone_sites (take l.number a.zones) + (g.row * l.zone.columns + g.column)) side g.side sl in' (omega (arith, l.is_trap, before, place)) in
    record {
      zone = l.zone;
      number = l.number;
      row = g.row;
      column = g.column;
      is_zone = l.is_zone;
      kind = kind;
      row_in = g.row_in;
      column_in = g.column_in;
      site_is = halves.0;
      x_is = g.x_is ∙ ap (λ n. l.zone.x + g.column * l.zone.dx + n * l.zone.pair) (sym halves.1);
      y_is = g.y_is;
      box = in_box l.zone l.place p g;
    }

-- the trap on the other side
pub other_side : (a : Architecture) → KeepsRules a → (site side side' : ℕ) (p : Point) → side' < 2 → (s : SiteAt a site side p) → StandsAt a (storage_count a + 2 * site + side') (point_at (s.zone.x + s.column * s.zone.dx + side' * s.zone.pair) (s.zone.y + s.row * s.zone.dy))
other_side a h site side side' p sl s =
    let w : traps_per_place s.zone.kind ≡ 2 = ap traps_per_place s.kind in
    let before = before_entangling a.zones s.number s.zone h.order s.is_zone s.kind in
    let j = s.row * (s.zone.columns * traps_per_place s.zone.kind) + (s.column * traps_per_place s.zone.kind + side') in
    let place : j ≡ s.row * (s.zone.columns * 2) + (s.column * 2 + side') = ap (λ n. s.row * (s.zone.columns * n) + (s.column * n + side')) w in
    let here : storage_count a + 2 * site + side' ≡ count (take s.number a.zones) + j = omega (arith, before, place, s.site_is) in
    ap (slice_get (trap_points a)) here ∙ stands_at_place a.zones s.number j s.zone _ s.is_zone (at_place s.zone j s.row s.column side' s.row_in s.column_in (omega (arith, w)) refl)
