-- The rules of a card as plain inequalities: on its figures, on each zone, and on each two zones.
use Rattle.std.proofs.Common.{◌≡◌, ℕ, ◌+◌, ◌-◌, ◌*◌, ◌<◌, ◌≤◌, ◌⊎◌, inl, inr, Bool, true, false, not, ◌||◌, cond, IsTrue, Some, slice_get, sym, ap, ◌∙◌, arith, ◌≢◌, ◌==◌, lt-ltb, if◌then◌else◌, leb-true, ltb-true, eqb-true}
use Rattle.std.proofs.lemmas.Bool.{and_parts, or_cases, cases_lt, and_from, or_from}
use Rattle.std.proofs.lemmas.Nat.{mul-le}
use Rattle.zac_arch.specs.declared.card.Figures.{Figures}
use Rattle.zac_arch.specs.declared.card.Zone.{Zone}
use Rattle.zac_arch.specs.declared.card.ZoneKind.TheVariants.{Storage, Entangling}
use Rattle.zac_arch.specs.Architecture.{Architecture, is_storage, last_x, last_y}
use Rattle.zac_arch.specs.Rules.{KeepsRules, HasFigureRanges, is_in, figures_in_range, zone_in_range, has_room, is_spaced, blocks_pairs_alone, is_on_the_field, has_trap, are_apart, are_separate}
use Rattle.zac_arch.proofs.Lists.{passes_at, passes_at_two}

pub range_of : (low high n : ℕ) → IsTrue (is_in low high n) → (low ≤ n) × (n ≤ high)
range_of low high n h =
    let parts = and_parts _ _ h in
    (leb-true low n parts.0, leb-true n high parts.1)

below_from_squares : (r p : ℕ) → 2 * (r * r) < p * p → r < p
below_from_squares r p h =
    elim (cases_lt r p) as (λ _. r < p) [ inl lt ↦ lt | inr le ↦ absurd (omega (arith, mul-le p p r r le le)) ]

-- the ranges of the figures
pub figure_ranges : (a : Architecture) → KeepsRules a → HasFigureRanges a.figures
figure_ranges a h =
    let f = a.figures in
    let groups = and_parts _ _ (and_parts (figures_in_range f) _ h.ranges).0 in
    let columns = and_parts _ _ groups.1 in
    let rows = and_parts _ _ columns.0 in
    let readout = and_parts _ _ (and_parts _ _ groups.0).1 in
    let pulse = and_parts _ _ readout.0 in
    let one = and_parts _ _ pulse.0 in
    let deactivate = and_parts _ _ one.0 in
    let activate = and_parts _ _ deactivate.0 in
    let radius = and_parts _ _ (and_parts _ _ groups.0).0 in
    let reach = and_parts _ _ radius.0 in
    let park = and_parts _ _ reach.0 in
    let parks = ltb-true _ _ h.parking in
    record {
      gap_least = (range_of _ _ _ park.0).0;
      gap_most = (range_of _ _ _ park.0).1;
      park_least = (range_of _ _ _ park.1).0;
      park_most = (range_of _ _ _ park.1).1;
      reach_most = leb-true _ _ reach.1;
      reach_below_park = below_from_squares _ _ parks;
      parks_apart = parks;
      radius_least = (range_of _ _ _ radius.1).0;
      radius_most = (range_of _ _ _ radius.1).1;
      accel_least = (range_of _ _ _ activate.0).0;
      accel_most = (range_of _ _ _ activate.0).1;
      activate_least = (range_of _ _ _ activate.1).0;
      activate_most = (range_of _ _ _ activate.1).1;
      deactivate_least = (range_of _ _ _ deactivate.1).0;
      deactivate_most = (range_of _ _ _ deactivate.1).1;
      one_least = (range_of _ _ _ one.1).0;
      one_most = (range_of _ _ _ one.1).1;
      pulse_least = (range_of _ _ _ pulse.1).0;
      pulse_most = (range_of _ _ _ pulse.1).1;
      readout_least = (range_of _ _ _ readout.1).0;
      readout_most = (range_of _ _ _ readout.1).1;
      aods_least = (range_of _ _ _ rows.0).0;
      aods_most = (range_of _ _ _ rows.0).1;
      rows_least = (range_of _ _ _ rows.1).0;
      rows_most = (range_of _ _ _ rows.1).1;
      columns_least = (range_of _ _ _ columns.1).0;
      columns_most = (range_of _ _ _ columns.1).1;
    }

has_room-facts : (f : Figures) (d : ℕ) → IsTrue (has_room f d) → (f.park + f.gap ≤ d) × (f.park + f.reach < d)
has_room-facts f d h =
    let parts = and_parts _ _ h in
    (leb-true _ _ parts.0, ltb-true _ _ parts.1)

-- the ranges of a zone's numbers
pub record ZoneRanges (z : Zone) : Type 0 where
  pub x_most : z.x ≤ 1000000
  pub y_most : z.y ≤ 1000000
  pub dx : (1 ≤ z.dx) × (z.dx ≤ 1000000)
  pub dy : (1 ≤ z.dy) × (z.dy ≤ 1000000)
  pub pair : IsTrue (if is_storage z.kind then z.pair == 0 else is_in 1 1000000 z.pair)
  pub columns : (1 ≤ z.columns) × (z.columns ≤ 65536)
  pub rows : (1 ≤ z.rows) × (z.rows ≤ 65536)

pub zone_ranges : (z : Zone) → IsTrue (zone_in_range z) → ZoneRanges z
zone_ranges z h =
    let rows = and_parts _ _ h in
    let columns = and_parts _ _ rows.0 in
    let pair = and_parts _ _ columns.0 in
    let dy = and_parts _ _ pair.0 in
    let dx = and_parts _ _ dy.0 in
    let corner = and_parts _ _ dx.0 in
    record {
      x_most = leb-true _ _ corner.0;
      y_most = leb-true _ _ corner.1;
      dx = range_of _ _ _ dx.1;
      dy = range_of _ _ _ dy.1;
      pair = pair.1;
      columns = range_of _ _ _ columns.1;
      rows = range_of _ _ _ rows.1;
    }

pub ranges_at : (a : Architecture) → KeepsRules a → (k : ℕ) (z : Zone) → slice_get a.zones k ≡ Some z → ZoneRanges z
ranges_at a h k z e =
    zone_ranges z (passes_at zone_in_range a.zones k z (and_parts (figures_in_range a.figures) _ h.ranges).1 e)

-- what the rules say of each zone
pub record ZoneRules (f : Figures) (z : Zone) : Type 0 where
  pub x_most : z.x ≤ 1000000
  pub y_most : z.y ≤ 1000000
  pub dx_least : 1 ≤ z.dx
  pub dx_most : z.dx ≤ 1000000
  pub dy_least : 1 ≤ z.dy
  pub dy_most : z.dy ≤ 1000000
  pub columns_least : 1 ≤ z.columns
  pub columns_most : z.columns ≤ 65536
  pub rows_least : 1 ≤ z.rows
  pub rows_most : z.rows ≤ 65536
  pub right_most : last_x z + f.park ≤ 1000000
  pub top_most : last_y z + f.park ≤ 1000000
  pub dx_room : f.park + f.gap ≤ z.dx
  pub dx_clear : f.park + f.reach < z.dx
  pub dy_room : f.park + f.gap ≤ z.dy
  pub dy_clear : f.park + f.reach < z.dy

-- and of each entangling zone besides
pub record SiteRules (f : Figures) (z : Zone) : Type 0 where
  pub pair_least : 1 ≤ z.pair
  pub pair_most : z.pair ≤ f.radius
  pub between_most : f.radius + z.pair < z.dx
  pub above_most : f.radius < z.dy
  pub pair_room : f.park + f.gap ≤ z.pair
  pub pair_clear : f.park + f.reach < z.pair
  pub between_room : f.park + f.gap + z.pair ≤ z.dx
  pub between_clear : f.park + f.reach + z.pair < z.dx

zone_has_trap : (z : Zone) → 1 ≤ z.columns → 1 ≤ z.rows → has_trap z ≡ true
zone_has_trap z c r = and_from _ _ (lt-ltb 0 z.columns c) (lt-ltb 0 z.rows r)

or_right_is : (x y : Bool) → x ≡ false → (x || y) ≡ true → y ≡ true
or_right_is x y e h = elim (or_cases x y h) as (λ _. y ≡ true) [ inl t ↦ cc | inr t ↦ t ]

pub zone_rules : (a : Architecture) → KeepsRules a → (k : ℕ) (z : Zone) → slice_get a.zones k ≡ Some z → ZoneRules a.figures z
zone_rules a h k z e =
    let f = a.figures in
    let r = ranges_at a h k z e in
    let spaced = and_parts _ _ (passes_at (is_spaced f) a.zones k z h.spacing e) in
    let room = and_parts _ _ spaced.0 in
    let trap = zone_has_trap z r.columns.0 r.rows.0 in
    let field = and_parts _ _ (or_right_is (not (has_trap z)) _ (ap not trap) (passes_at (is_on_the_field f) a.zones k z h.extent e)) in
    record {
      x_most = r.x_most;
      y_most = r.y_most;
      dx_least = r.dx.0;
      dx_most = r.dx.1;
      dy_least = r.dy.0;
      dy_most = r.dy.1;
      columns_least = r.columns.0;
      columns_most = r.columns.1;
      rows_least = r.rows.0;
      rows_most = r.rows.1;
      right_most = leb-true _ _ field.0;
      top_most = leb-true _ _ field.1;
      dx_room = (has_room-facts f z.dx room.0).0;
      dx_clear = (has_room-facts f z.dx room.0).1;
      dy_room = (has_room-facts f z.dy room.1).0;
      dy_clear = (has_room-facts f z.dy room.1).1;
    }

-- a difference that is at least something positive is a true one
between-facts : (wide narrow least most : ℕ) → least ≤ wide - narrow → most < wide - narrow → (most + narrow < wide) × (0 < least → least + narrow ≤ wide)
between-facts wide narrow least most h k = (omega arith, λ pos. omega arith)

least_sum : (m n : ℕ) → 1 ≤ m → 0 < m + n
least_sum m n h = omega arith

pub site_rules : (a : Architecture) → KeepsRules a → (k : ℕ) (z : Zone) → slice_get a.zones k ≡ Some z → z.kind ≡ Entangling → SiteRules a.figures z
site_rules a h k z e kind =
    let f = a.figures in
    let other : is_storage z.kind ≡ false = ap is_storage kind in
    let pair = range_of 1 1000000 z.pair (sym (ap (λ b. cond b (z.pair == 0) (is_in 1 1000000 z.pair)) other) ∙ (ranges_at a h k z e).pair) in
    let rooms = and_parts _ _ (or_right_is _ _ other (and_parts _ _ (passes_at (is_spaced f) a.zones k z h.spacing e)).1) in
    let in_pair = has_room-facts f z.pair rooms.0 in
    let beside = has_room-facts f (z.dx - z.pair) rooms.1 in
    let blocked = and_parts _ _ (or_right_is _ _ other (passes_at (blocks_pairs_alone f) a.zones k z h.blockade e)) in
    let near = and_parts _ _ blocked.0 in
    record {
      pair_least = pair.0;
      pair_most = leb-true _ _ near.0;
      between_most = (between-facts z.dx z.pair (f.park + f.gap) f.radius beside.0 (ltb-true _ _ near.1)).0;
      above_most = ltb-true _ _ blocked.1;
      pair_room = in_pair.0;
      pair_clear = in_pair.1;
      between_room = (between-facts z.dx z.pair (f.park + f.gap) (f.park + f.reach) beside.0 beside.1).1 (least_sum f.park f.gap (figure_ranges a h).park_least);
      between_clear = (between-facts z.dx z.pair (f.park + f.gap) (f.park + f.reach) beside.0 beside.1).0;
    }

pub no_pair : (a : Architecture) → KeepsRules a → (k : ℕ) (z : Zone) → slice_get a.zones k ≡ Some z → z.kind ≡ Storage → z.pair ≡ 0
no_pair a h k z e kind =
    let storage : is_storage z.kind ≡ true = ap is_storage kind in
    eqb-true z.pair 0 (sym (ap (λ b. cond b (z.pair == 0) (is_in 1 1000000 z.pair)) storage) ∙ (ranges_at a h k z e).pair)

-- how far the zones of a card are apart
abbrev pub zone_distance : Figures → ℕ
zone_distance f = f.park + f.reach + f.radius + 1

-- one ends before the other begins, from left to right or from below
pub data AreApart (d : ℕ) (v w : Zone) : Type 0 where
  left : last_x v + d ≤ w.x → AreApart d v w
  right : last_x w + d ≤ v.x → AreApart d v w
  under : last_y v + d ≤ w.y → AreApart d v w
  over : last_y w + d ≤ v.y → AreApart d v w

either : (x y : Bool) (C : Type 0) → (x || y) ≡ true → (x ≡ true → C) → (y ≡ true → C) → C
either x y C h f g = elim (or_cases x y h) as (λ _. C) [ inl t ↦ f t | inr t ↦ g t ]

apart_cases : (d v v' w w' : ℕ) → are_apart d v v' w w' ≡ true → (v' + d ≤ w) ⊎ (w' + d ≤ v)
apart_cases d v v' w w' h =
    either _ _ ((v' + d ≤ w) ⊎ (w' + d ≤ v)) h (λ t. inl (leb-true _ _ t)) (λ t. inr (leb-true _ _ t))

from_separate : (f : Figures) (v w : Zone) → has_trap v ≡ true → has_trap w ≡ true → IsTrue (are_separate f v w) → AreApart (zone_distance f) v w
from_separate f v w v_has w_has h =
    either _ _ (AreApart (zone_distance f) v w) h
    (λ t. elim (apart_cases (zone_distance f) v.x (last_x v) w.x (last_x w) (or_right_is _ _ (or_from (not (has_trap v)) (not (has_trap w)) (ap not v_has) (ap not w_has)) t)) as (λ _. AreApart (zone_distance f) v w) [ inl x ↦ left x | inr x ↦ right x ])
    (λ t. elim (apart_cases (zone_distance f) v.y (last_y v) w.y (last_y w) t) as (λ _. AreApart (zone_distance f) v w) [ inl x ↦ under x | inr x ↦ over x ])

turned : (d : ℕ) (v w : Zone) → AreApart d v w → AreApart d w v
turned d v w (left h) = right h
turned d v w (right h) = left h
turned d v w (under h) = over h
turned d v w (over h) = under h

pub zones_apart : (a : Architecture) → KeepsRules a → (i j : ℕ) (v w : Zone) → slice_get a.zones i ≡ Some v → slice_get a.zones j ≡ Some w → i ≢ j → AreApart (zone_distance a.figures) v w
zones_apart a h i j v w e f ne =
    let rv = zone_rules a h i v e in
    let rw' = zone_rules a h j w f in
    let tv = zone_has_trap v rv.columns_least rv.rows_least in
    let tw = zone_has_trap w rw'.columns_least rw'.rows_least in
    elim (cases_lt i j) as (λ _. AreApart (zone_distance a.figures) v w) [
      | inl lt ↦ from_separate a.figures v w tv tw (passes_at_two (are_separate a.figures) a.zones i j v w h.separation e f lt)
      | inr le ↦
          let lt : j < i = omega arith in
          turned _ w v (from_separate a.figures w v tw tv (passes_at_two (are_separate a.figures) a.zones j i w v h.separation f e lt))
    ]
