-- The rules that every card keeps. Each is a test, so that it holds of a card in one way.
use Rattle.std.specs.Prelude.{◌≡◌, ℕ, ◌+◌, ◌-◌, ◌*◌, ◌<◌, ◌≤◌, Bool, true, false, not, Some, slice_get, ◌&&◌, ◌||◌, List, [], ◌∷◌, IsTrue, nat_lt, nat_le, ◌==◌, if◌then◌else◌, count_by}
use Rattle.std.specs.List.{list_all}
use Rattle.zac_arch.specs.declared.card.Figures.{Figures}
use Rattle.zac_arch.specs.declared.card.Zone.{Zone}
use Rattle.zac_arch.specs.Architecture.{Architecture, is_storage, storage_count, site_count, last_x, last_y}

-- The number lies between these two, both included.
abbrev pub is_in : ℕ → ℕ → ℕ → Bool
is_in low high n = nat_le low n && nat_le n high

-- There are 1 to 32 storage zones and 1 to 32 entangling zones, at most 65,536 storage traps, and at most 1,024 sites.
abbrev pub has_few_zones : Architecture → Bool
has_few_zones a =
    is_in 1 32 (count_by (λ z. is_storage z.kind) a.zones)
    && is_in 1 32 (count_by (λ z. not (is_storage z.kind)) a.zones)
    && nat_le (storage_count a) 65536
    && nat_le (site_count a) 1024

-- a parked beam is out of reach along an axis by a factor of more than the square root of 2, and more so
-- on the diagonal
abbrev pub parks_out_of_reach : Figures → Bool
parks_out_of_reach f = nat_lt (2 * (f.reach * f.reach)) (f.park * f.park)

-- The distance is at least park and gap together, and more than park and reach together.
abbrev pub has_room : Figures → ℕ → Bool
has_room f distance = nat_le (f.park + f.gap) distance && nat_lt (f.park + f.reach) distance

-- The zone's column distance and row distance have room; in an entangling zone, so have the pair distance, and the
-- column distance less the pair distance.
abbrev pub is_spaced : Figures → Zone → Bool
is_spaced f z =
    has_room f z.dx && has_room f z.dy
    && (is_storage z.kind || (has_room f z.pair && has_room f (z.dx - z.pair)))

-- A zone is storage, or its pair distance is at most the blockade radius, and its row distance, and its column
-- distance less the pair distance, are both greater than the radius.
abbrev pub blocks_pairs_alone : Figures → Zone → Bool
blocks_pairs_alone f z =
    is_storage z.kind || (nat_le z.pair f.radius && nat_lt f.radius (z.dx - z.pair) && nat_lt f.radius z.dy)

-- The zone has a column and a row.
abbrev pub has_trap : Zone → Bool
has_trap z = nat_lt 0 z.columns && nat_lt 0 z.rows

-- the interval from a on ends at least d before the one from b on begins, or the other way round
abbrev pub are_apart : ℕ → ℕ → ℕ → ℕ → ℕ → Bool
are_apart d a a_end b b_end = nat_le (a_end + d) b || nat_le (b_end + d) a

-- One of two zones has no trap, or their boxes are on x or on y at least park, reach, radius and 1 apart.
abbrev pub are_separate : Figures → Zone → Zone → Bool
are_separate f v w =
    not (has_trap v) || not (has_trap w)
    || are_apart (f.park + f.reach + f.radius + 1) v.x (last_x v) w.x (last_x w)
    || are_apart (f.park + f.reach + f.radius + 1) v.y (last_y v) w.y (last_y w)

-- The test passes for each zone of the list with each later one.
abbrev pub passes_pairs : (Zone → Zone → Bool) → List Zone → Bool
passes_pairs test [] = true
passes_pairs test (z ∷ zs) = list_all (test z) zs && passes_pairs test zs

-- The zone has no trap, or its last x and its last y, each with the park distance added, are at most 1,000,000.
abbrev pub is_on_the_field : Figures → Zone → Bool
is_on_the_field f z = not (has_trap z) || (nat_le (last_x z + f.park) 1000000 && nat_le (last_y z + f.park) 1000000)

-- the lengths among the figures lie in their ranges
abbrev pub lengths_in_range : Figures → Bool
lengths_in_range f =
    is_in 1 100000 f.gap && is_in 1 100000 f.park && nat_le f.reach 100000 && is_in 1 100000 f.radius

-- so do the acceleration and the times
abbrev pub times_in_range : Figures → Bool
times_in_range f =
    is_in 100 1000000 f.accel
    && is_in 1 1000000000 f.activate && is_in 1 1000000000 f.deactivate && is_in 1 1000000000 f.one
    && is_in 1 1000000000 f.pulse && is_in 1 1000000000 f.readout

-- so do the numbers of AODs and of their beams
abbrev pub beams_in_range : Figures → Bool
beams_in_range f = is_in 1 8 f.aods && is_in 1 64 f.rows && is_in 1 64 f.columns

-- Each figure lies in its range.
abbrev pub figures_in_range : Figures → Bool
figures_in_range f = lengths_in_range f && times_in_range f && beams_in_range f

-- The same ranges as plain inequalities. It says also that reach is below park, and that twice the square of reach is
-- below the square of park.
pub record HasFigureRanges (f : Figures) : Type 0 where
  pub gap_least : 1 ≤ f.gap
  pub gap_most : f.gap ≤ 100000
  pub park_least : 1 ≤ f.park
  pub park_most : f.park ≤ 100000
  pub reach_most : f.reach ≤ 100000
  pub reach_below_park : f.reach < f.park
  pub parks_apart : 2 * (f.reach * f.reach) < f.park * f.park
  pub radius_least : 1 ≤ f.radius
  pub radius_most : f.radius ≤ 100000
  pub accel_least : 100 ≤ f.accel
  pub accel_most : f.accel ≤ 1000000
  pub activate_least : 1 ≤ f.activate
  pub activate_most : f.activate ≤ 1000000000
  pub deactivate_least : 1 ≤ f.deactivate
  pub deactivate_most : f.deactivate ≤ 1000000000
  pub one_least : 1 ≤ f.one
  pub one_most : f.one ≤ 1000000000
  pub pulse_least : 1 ≤ f.pulse
  pub pulse_most : f.pulse ≤ 1000000000
  pub readout_least : 1 ≤ f.readout
  pub readout_most : f.readout ≤ 1000000000
  pub aods_least : 1 ≤ f.aods
  pub aods_most : f.aods ≤ 8
  pub rows_least : 1 ≤ f.rows
  pub rows_most : f.rows ≤ 64
  pub columns_least : 1 ≤ f.columns
  pub columns_most : f.columns ≤ 64

-- Each number of the zone lies in its range; in storage the pair distance is 0.
abbrev pub zone_in_range : Zone → Bool
zone_in_range z =
    nat_le z.x 1000000 && nat_le z.y 1000000 && is_in 1 1000000 z.dx && is_in 1 1000000 z.dy
    && (if is_storage z.kind then z.pair == 0 else is_in 1 1000000 z.pair)
    && is_in 1 65536 z.columns && is_in 1 65536 z.rows

-- The first of two zones is storage, or the second is not.
abbrev pub stands_in_order : Zone → Zone → Bool
stands_in_order v w = is_storage v.kind || not (is_storage w.kind)

-- An architecture keeps all rules: few zones, parking, spacing, blockade, separation, extent and ranges; and storage
-- zones stand first. It is the invariant of a `Card`.
pub record KeepsRules (a : Architecture) : Type 0 where
  pub few_zones : IsTrue (has_few_zones a)
  pub parking : IsTrue (parks_out_of_reach a.figures)
  pub spacing : IsTrue (list_all (is_spaced a.figures) a.zones)
  pub blockade : IsTrue (list_all (blocks_pairs_alone a.figures) a.zones)
  pub separation : IsTrue (passes_pairs (are_separate a.figures) a.zones)
  pub extent : IsTrue (list_all (is_on_the_field a.figures) a.zones)
  pub ranges : IsTrue (figures_in_range a.figures && list_all zone_in_range a.zones)
  pub order : IsTrue (passes_pairs stands_in_order a.zones)

-- the tests of the seven rules, in the order of their numbers
abbrev pub rule_tests : Architecture → List Bool
rule_tests a =
    has_few_zones a
    ∷ parks_out_of_reach a.figures
    ∷ list_all (is_spaced a.figures) a.zones
    ∷ list_all (blocks_pairs_alone a.figures) a.zones
    ∷ passes_pairs (are_separate a.figures) a.zones
    ∷ list_all (is_on_the_field a.figures) a.zones
    ∷ (figures_in_range a.figures && list_all zone_in_range a.zones)
    ∷ []

-- the rule of this number, from 1, is broken
pub record IsBroken (a : Architecture) (n : ℕ) : Type 0 where
  pub counted : 1 ≤ n
  pub fails : slice_get (rule_tests a) (n - 1) ≡ Some false

-- the rule of this number is broken, and none before it
pub record IsLeastBroken (a : Architecture) (n : ℕ) : Type 0 where
  pub broken : IsBroken a n
  pub first : (m : ℕ) → m < n → IsBroken a m → ⊥
