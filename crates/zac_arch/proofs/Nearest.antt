-- The nearest of numbers a step apart, the nearest column of a zone's traps, and the traps of a zone that are near.
use Rattle.std.proofs.Common.{◌≡◌, ℕ, zero, suc, ◌+◌, ◌-◌, ◌*◌, ◌/◌, ◌%◌, ◌<◌, ◌≤◌, inl, inr, min, Bool, true, false, not, IsTrue, Some, List, length, get_or, slice_get, refl, sym, ap, subst, ◌∙◌, arith}
use Rattle.std.proofs.lemmas.Bool.{cases_lt, false≢true}
use Rattle.std.proofs.lemmas.Option.{slice_get_within, slice_get-get_or}
use Rattle.std.proofs.lemmas.Nat.{div-add-mod', mod_below, mul-le}
use Rattle.zac_arch.specs.declared.place.Point.{Point}
use Rattle.zac_arch.specs.declared.card.Zone.{Zone}
use Rattle.zac_arch.specs.declared.card.ZoneKind.{ZoneKind}
use Rattle.zac_arch.specs.declared.card.ZoneKind.TheVariants.{Entangling}
use Rattle.zac_arch.specs.Architecture.{Architecture, StandsAt, traps_per_place, zone_traps}
use Rattle.zac_arch.specs.Distances.{difference, IsFarther, IsWithin}
use Rattle.zac_arch.proofs.Grid.{in_grid, stands_in_grid, at_place, point_at}
use Rattle.zac_arch.proofs.Zones.{locate}
use Rattle.zac_arch.proofs.Walks.{stands_by_place}

-- one of the numbers is this far from n
abbrev pub Reached : ℕ → ℕ → ℕ → ℕ → ℕ → Type 0
Reached first step count n d = (i : ℕ) × (i < count) × (d ≡ difference n (first + i * step))

-- and none is nearer
abbrev pub Least : ℕ → ℕ → ℕ → ℕ → ℕ → Type 0
Least first step count n d = (i : ℕ) → i < count → d ≤ difference n (first + i * step)

below_by_product : (a b step : ℕ) → a * step < b * step → a < b
below_by_product a b step lt =
    elim (cases_lt a b) as (λ _. a < b) [ inl less ↦ less | inr le ↦ absurd (omega (arith, lt, mul-le b step a step le (omega arith))) ]

pub reached_between : (first step count n d : ℕ) → 1 ≤ step → first < n → n < first + (count - 1) * step → d ≡ min ((n - first) % step) (step - (n - first) % step) → Reached first step count n d
reached_between first step count n d rises above below is =
    let place = (n - first) / step in
    let past = (n - first) % step in
    let split : place * step + past ≡ n - first = div-add-mod' (n - first) step in
    let small : past < step = mod_below (n - first) step rises in
    let in_count : place < count - 1 = below_by_product place (count - 1) step (omega (arith, split)) in
    elim (cases_lt past (step - past)) as (λ _. Reached first step count n d) [
      | inl less ↦ (place, omega (arith, in_count), omega (arith, split, is))
      | inr le ↦ (place + 1, omega (arith, in_count), omega (arith, split, is, small))
    ]

pub least_between : (first step count n d : ℕ) → 1 ≤ step → first < n → n < first + (count - 1) * step → d ≡ min ((n - first) % step) (step - (n - first) % step) → Least first step count n d
least_between first step count n d rises above below is i lt =
    let place = (n - first) / step in
    let past = (n - first) % step in
    let split : place * step + past ≡ n - first = div-add-mod' (n - first) step in
    let small : past < step = mod_below (n - first) step rises in
    elim (cases_lt i (place + 1)) as (λ _. d ≤ difference n (first + i * step)) [
      | inl less ↦ omega (arith, split, is, mul-le i step place step (omega arith) (omega arith))
      | inr le ↦ omega (arith, split, is, small, mul-le (place + 1) step i step le (omega arith))
    ]

-- beyond the last number the last one is the nearest
pub reached_beyond : (first step count n d : ℕ) → 1 ≤ count → first + (count - 1) * step ≤ n → d ≡ n - (first + (count - 1) * step) → Reached first step count n d
reached_beyond first step count n d some beyond is = (count - 1, omega arith, omega (arith, is))

pub least_beyond : (first step count n d : ℕ) → first + (count - 1) * step ≤ n → d ≡ n - (first + (count - 1) * step) → Least first step count n d
least_beyond first step count n d beyond is i lt =
    omega (arith, is, mul-le i step (count - 1) step (omega arith) (omega arith))

-- a column of the zone's traps is this far from x, and none is nearer
abbrev pub ColumnReached : Zone → ℕ → ℕ → Type 0
ColumnReached z x d =
    (column : ℕ) × (side : ℕ) × (column < z.columns) × (side < traps_per_place z.kind) × (d ≡ difference x (z.x + column * z.dx + side * z.pair))

abbrev pub ColumnLeast : Zone → ℕ → ℕ → Type 0
ColumnLeast z x d =
    (column side : ℕ) → column < z.columns → side < traps_per_place z.kind → d ≤ difference x (z.x + column * z.dx + side * z.pair)

two_sides : (k : ZoneKind) → k ≡ Entangling → traps_per_place k ≡ 2
two_sides k e = ap traps_per_place e

pub nearer_side : (z : Zone) (x left right d : ℕ) → z.kind ≡ Entangling → Reached z.x z.dx z.columns x left → Reached (z.x + z.pair) z.dx z.columns x right → d ≡ min left right → ColumnReached z x d
nearer_side z x left right d e l r is =
    elim (cases_lt left right) as (λ _. ColumnReached z x d) [
      | inl less ↦ (l.0, 0, l.1, omega (arith, two_sides z.kind e), omega (arith, is, l.2))
      | inr le ↦ (r.0, 1, r.1, omega (arith, two_sides z.kind e), omega (arith, is, r.2))
    ]

pub no_nearer_side : (z : Zone) (x left right d : ℕ) → z.kind ≡ Entangling → Least z.x z.dx z.columns x left → Least (z.x + z.pair) z.dx z.columns x right → d ≡ min left right → ColumnLeast z x d
no_nearer_side z x left right d e l r is column zero ci si = omega (arith, is, l column ci)
no_nearer_side z x left right d e l r is column (suc zero) ci si = omega (arith, is, r column ci)
no_nearer_side z x left right d e l r is column (suc (suc side)) ci si = absurd (omega (arith, two_sides z.kind e))

-- the point is farther than the reach from every trap of the zone
abbrev pub IsOffZone : ℕ → Point → Zone → Type 0
IsOffZone reach p z = (place : ℕ) (q : Point) → slice_get (zone_traps z) place ≡ Some q → IsFarther reach p q

larger_squares : (a b c d : ℕ) → a ≤ c → b ≤ d → a * a + b * b ≤ c * c + d * d
larger_squares a b c d ac bd = omega (arith, mul-le a a c c ac ac, mul-le b b d d bd bd)

pub off_zone : (z : Zone) (p : Point) (reach across up : ℕ) → ColumnLeast z p.x across → Least z.y z.dy z.rows p.y up → reach * reach < across * across + up * up → IsOffZone reach p z
off_zone z p reach across up columns rows far place q at =
    let g = in_grid z place q at in
    let x : across ≤ difference p.x q.x = omega (arith, g.x_is, columns g.column g.side g.column_in g.side_in) in
    let y : up ≤ difference p.y q.y = omega (arith, g.y_is, rows g.row g.row_in) in
    omega (arith, far, larger_squares across up (difference p.x q.x) (difference p.y q.y) x y)

pub near_zone : (z : Zone) (p : Point) (reach across up : ℕ) → ColumnReached z p.x across → Reached z.y z.dy z.rows p.y up → IsOffZone reach p z → reach * reach < across * across + up * up
near_zone z p reach across up columns rows off =
    let q = point_at (z.x + columns.0 * z.dx + columns.1 * z.pair) (z.y + rows.0 * z.dy) in
    let far : IsFarther reach p q = off _ q (at_place z _ rows.0 columns.0 columns.1 rows.1 columns.2 columns.3 refl) in
    let x : difference p.x q.x ≡ across = sym columns.4 in
    let y : difference p.y q.y ≡ up = sym rows.2 in
    rw (x, y) at far

-- what a test of the nearest point tells
pub not_within : (reach across up : ℕ) (test : Bool) → (IsTrue test → IsWithin reach (point_at 0 0) (point_at across up)) × (IsWithin reach (point_at 0 0) (point_at across up) → IsTrue test) → (IsTrue (not test) → reach * reach < across * across + up * up) × (reach * reach < across * across + up * up → IsTrue (not test))
not_within reach across up true told =
    let a : difference 0 across ≡ across = omega arith in
    let b : difference 0 up ≡ up = omega arith in
    let near : across * across + up * up ≤ reach * reach = rw (a, b) at (told.0 refl) in
    (λ off. cc, λ far. absurd (omega (arith, near, far)))
not_within reach across up false told =
    let a : difference 0 across ≡ across = omega arith in
    let b : difference 0 up ≡ up = omega arith in (
      λ off. elim (cases_lt (reach * reach) (across * across + up * up)) as (λ _. reach * reach < across * across + up * up) [
        | inl less ↦ less
        | inr le ↦ let near : IsWithin reach (point_at 0 0) (point_at across up) = rw (a, b) le in absurd (false≢true (told.1 near))
      ],
      λ far. refl,
    )

-- the zone at a number, where each so far is off
abbrev pub AreOffBelow : ℕ → Point → List Zone → ℕ → Type 0
AreOffBelow reach p zs n = (k : ℕ) (z : Zone) → k < n → slice_get zs k ≡ Some z → IsOffZone reach p z

pub off_more : (reach : ℕ) (p : Point) (zs : List Zone) (n : ℕ) (d : Zone) → n < length zs → AreOffBelow reach p zs n → IsOffZone reach p (get_or zs n d) → AreOffBelow reach p zs (n + 1)
off_more reach p zs n d lt before here k z kl at =
    elim (cases_lt k n) as (λ _. IsOffZone reach p z) [
      | inl less ↦ before k z less at
      | inr le ↦
          let last : k ≡ n = omega arith in
          let read : slice_get zs k ≡ Some (get_or zs n d) = ap (slice_get zs) last ∙ slice_get-get_or zs n d lt in
          let same : get_or zs n d ≡ z = cc in
          subst (IsOffZone reach p) same here
    ]

-- off every zone is off every trap, and the other way round
pub off_every_trap : (a : Architecture) (reach : ℕ) (p : Point) (zs : List Zone) (n : ℕ) → zs ≡ a.zones → reach ≡ a.figures.reach → length zs ≤ n → AreOffBelow reach p zs n → (t : ℕ) (q : Point) → StandsAt a t q → IsFarther a.figures.reach p q
off_every_trap a reach p zs n e r le off t q at =
    let l = locate a.zones t q at in
    let lt : l.number < n = omega (arith, ap length e, slice_get_within a.zones l.number l.zone l.is_zone) in
    let read : slice_get zs l.number ≡ Some l.zone = ap (λ ys. slice_get ys l.number) e ∙ l.is_zone in
    subst (λ m. IsFarther m p q) r (off l.number l.zone lt read l.place q (stands_in_grid l.zone l.place q l.grid))

pub off_this_zone : (a : Architecture) (reach : ℕ) (p : Point) (zs : List Zone) (n : ℕ) (d : Zone) → zs ≡ a.zones → reach ≡ a.figures.reach → n < length zs → ((t : ℕ) (q : Point) → StandsAt a t q → IsFarther a.figures.reach p q) → IsOffZone reach p (get_or zs n d)
off_this_zone a reach p zs n d e r lt off place q at =
    subst (λ m. IsFarther m p q) (sym r) (off _ q (stands_by_place a zs e _ n place d q lt refl at))
