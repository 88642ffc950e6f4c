-- A card's rules give the laws that exchanges rest on: no corner of a storage trap is lit.
use Rattle.std.proofs.Common.{◌≡◌, ◌≢◌, ℕ, ◌+◌, ◌-◌, ◌*◌, ◌<◌, ◌≤◌, ◌⊎◌, inl, inr, Some, [], ◌∷◌, slice_get, sym, ap, ◌∙◌, subst, arith}
use Rattle.std.specs.List.{Contains, range_with_len}
use Rattle.std.proofs.lemmas.Bool.{cases_eq}
use Rattle.std.proofs.lemmas.List.FromFn.{length-range_with_len, get_or-range_with_len}
use Rattle.std.proofs.lemmas.Nat.{mul-le}
use Rattle.std.proofs.lemmas.Option.{get_or_from_slice_get, slice_get-get_or, slice_get_within}
use Rattle.zac_arch.specs.Architecture.{Architecture, IsInWidenedBox, IsLit, StandsAt, last_x, last_y, place_width, row_traps, site_count, storage_count, trap_count, trap_points, traps_at, zone_traps}
use Rattle.zac_arch.specs.Distances.{IsFarther}
use Rattle.zac_arch.specs.Parking.{IsCorner, IsParkedBeside}
use Rattle.zac_arch.specs.Rules.{KeepsRules}
use Rattle.zac_arch.specs.declared.card.Figures.{Figures}
use Rattle.zac_arch.specs.declared.card.Zone.{Zone}
use Rattle.zac_arch.specs.declared.card.ZoneKind.{ZoneKind}
use Rattle.zac_arch.specs.declared.card.ZoneKind.TheVariants.{Storage, Entangling}
use Rattle.zac_arch.specs.declared.place.Point.{Point}
use Rattle.zac_arch.proofs.Geometry.{same_item, storage_dark}
use Rattle.zac_arch.proofs.Ranges.{AreApart, zone_distance, zones_apart}
use Rattle.zac_aod.proofs.ListParts.{contained_in_flat_map}
use Rattle.zair_state.proofs.Membership.{contains_cases, contains_none}
use Rattle.zac_sched.proofs.Surroundings.{CardLaws}

-- the point lies in the box of the zone's traps
record InBox (z : Zone) (p : Point) : Type 0 where
  left : z.x ≤ p.x
  right : p.x ≤ last_x z
  bottom : z.y ≤ p.y
  top : p.y ≤ last_y z

below_length : (n k : ℕ) → Contains (range_with_len 0 n) k → k < n
below_length n k c =
    let within : c.0 < n = omega (arith, c.1, length-range_with_len 0 n) in
    let at : 0 + c.0 ≡ k = sym (get_or-range_with_len 0 n c.0 k within) ∙ c.2 in
    omega arith

-- a trap at one place of a grid stands at the place, or to the right of it by at most the width of a place
record IsAtPlace (width x y : ℕ) (p : Point) : Type 0 where
  left : x ≤ p.x
  right : p.x ≤ x + width
  level : p.y ≡ y

at_storage : (pair x y : ℕ) (p : Point) → Contains (traps_at Storage pair x y) p → IsAtPlace 0 x y p
at_storage pair x y p c = elim (contains_cases _ p [] c) [
  | inl e ↦
      let ex : x ≡ p.x = ap (λ (q : Point). q.x) e in
      let ey : y ≡ p.y = ap (λ (q : Point). q.y) e in
      record { left = omega arith; right = omega arith; level = sym ey }
  | inr none ↦ absurd (contains_none p none)
]

at_site : (pair x y : ℕ) (p : Point) → Contains (traps_at Entangling pair x y) p → IsAtPlace pair x y p
at_site pair x y p c = elim (contains_cases _ p (record { x = x + pair; y = y } ∷ []) c) [
  | inl e ↦
      let ex : x ≡ p.x = ap (λ (q : Point). q.x) e in
      let ey : y ≡ p.y = ap (λ (q : Point). q.y) e in
      record { left = omega arith; right = omega arith; level = sym ey }
  | inr later ↦ elim (contains_cases _ p [] later) [
    | inl e ↦
        let ex : x + pair ≡ p.x = ap (λ (q : Point). q.x) e in
        let ey : y ≡ p.y = ap (λ (q : Point). q.y) e in
        record { left = omega arith; right = omega arith; level = sym ey }
    | inr none ↦ absurd (contains_none p none)
  ]
]

at_place : (kind : ZoneKind) (x0 y0 dx dy pair columns rows x y : ℕ) (p : Point) → Contains (traps_at kind pair x y) p →
    IsAtPlace (place_width (record { kind = kind; x = x0; y = y0; dx = dx; dy = dy; pair = pair; columns = columns; rows = rows })) x y p
at_place Storage x0 y0 dx dy pair columns rows x y p c = at_storage pair x y p c
at_place Entangling x0 y0 dx dy pair columns rows x y p c = at_site pair x y p c

in_box : (z : Zone) (p : Point) → Contains (zone_traps z) p → InBox z p
in_box z p c =
    let row = contained_in_flat_map (row_traps z) (range_with_len 0 z.rows) p c in
    let column = contained_in_flat_map (λ column. traps_at z.kind z.pair (z.x + column * z.dx) (z.y + row.0 * z.dy)) (range_with_len 0 z.columns) p row.2 in
    let at = at_place z.kind z.x z.y z.dx z.dy z.pair z.columns z.rows (z.x + column.0 * z.dx) (z.y + row.0 * z.dy) p column.2 in
    let row_in = below_length z.rows row.0 row.1 in
    let column_in = below_length z.columns column.0 column.1 in
    let across : column.0 * z.dx ≤ (z.columns - 1) * z.dx = mul-le column.0 z.dx (z.columns - 1) z.dx (omega arith) (omega arith) in
    let up : row.0 * z.dy ≤ (z.rows - 1) * z.dy = mul-le row.0 z.dy (z.rows - 1) z.dy (omega arith) (omega arith) in
    let left = at.left in
    let right = at.right in
    let level = at.level in
    record { left = omega arith; right = omega arith; bottom = omega arith; top = omega arith }

-- the zone in which a trap stands
record IsInside (a : Architecture) (p : Point) : Type 0 where
  number : ℕ
  zone : Zone
  is_zone : slice_get a.zones number ≡ Some zone
  box : InBox zone p

inside : (a : Architecture) (t : ℕ) (p : Point) → StandsAt a t p → IsInside a p
inside a t p s =
    let there : Contains (trap_points a) p = (t, slice_get_within (trap_points a) t p s, get_or_from_slice_get (trap_points a) t p p s) in
    let z = contained_in_flat_map zone_traps a.zones p there in
    record {
      number = z.1.0;
      zone = z.0;
      is_zone = slice_get-get_or a.zones z.1.0 z.0 z.1.1 ∙ ap Some z.1.2;
      box = in_box z.0 p z.2;
    }

-- a corner lies at the trap's coordinate or at the park distance beyond it
along : (park p q : ℕ) → (q ≡ p) ⊎ (q ≡ p + park) → (p ≤ q) × (q ≤ p + park)
along park p q (inl e) = (omega arith, omega arith)
along park p q (inr e) = (omega arith, omega arith)

-- a corner of a trap of one zone doesn't lie in the widened box of another one
dark_apart : (f : Figures) (v w : Zone) (p r : Point) → InBox v p → IsCorner f.park p r → IsInWidenedBox f.radius w r → AreApart (zone_distance f) v w → ⊥
dark_apart f v w p r b c l (AreApart.left h) = let x = along f.park p.x r.x c.along_x in omega (arith, b.right, l.left, x.1)
dark_apart f v w p r b c l (AreApart.right h) = let x = along f.park p.x r.x c.along_x in omega (arith, b.left, l.right, x.0)
dark_apart f v w p r b c l (AreApart.under h) = let y = along f.park p.y r.y c.along_y in omega (arith, b.top, l.bottom, y.1)
dark_apart f v w p r b c l (AreApart.over h) = let y = along f.park p.y r.y c.along_y in omega (arith, b.bottom, l.top, y.0)

widened : (radius : ℕ) (z : Zone) (p : Point) → InBox z p → IsInWidenedBox radius z p
widened radius z p b = record { left = omega (arith, b.left); right = omega (arith, b.right); bottom = omega (arith, b.bottom); top = omega (arith, b.top) }

-- no corner of a storage trap is lit
pub corners_dark : (a : Architecture) → KeepsRules a → (t : ℕ) (p r : Point) → t < storage_count a → StandsAt a t p → IsCorner a.figures.park p r → ¬ IsLit a r
corners_dark a h t p r lt s c lit =
    let v = inside a t p s in
    let w = lit.1 in
    let is_zone : slice_get a.zones lit.0 ≡ Some w = slice_get-get_or a.zones lit.0 w lit.2 ∙ ap Some lit.3 in
    elim (cases_eq v.number lit.0) as (λ _. ⊥) [
      | inl e ↦
          let same : v.zone ≡ w = same_item a.zones v.number lit.0 v.zone w e v.is_zone is_zone in
          let box : InBox w p = subst (λ (z : Zone). InBox z p) same v.box in
          storage_dark a h t p lt s (lit.0, w, lit.2, lit.3, (lit.4.0, widened a.figures.radius w p box))
      | inr ne ↦
          dark_apart a.figures v.zone w p r v.box c lit.4.1 (zones_apart a h v.number lit.0 v.zone w v.is_zone is_zone ne)
    ]

-- what a card's laws of traps and of parking say, with its rules
pub card_laws : (a : Architecture) → KeepsRules a → trap_count a ≡ storage_count a + 2 * site_count a
    → ((t u : ℕ) (p : Point) → StandsAt a t p → StandsAt a u p → t ≡ u)
    → ((t u : ℕ) (p q r s : Point) → t ≢ u → StandsAt a t p → StandsAt a u q → IsCorner a.figures.park p r → IsCorner a.figures.park q s → IsFarther a.figures.reach r s)
    → ((t u : ℕ) (p q r : Point) → StandsAt a t p → StandsAt a u q → IsParkedBeside a.figures.park p r → IsFarther a.figures.reach r q)
    → CardLaws a
card_laws a h counts one_trap corners parked = record {
  counts = omega (arith, counts);
  one_trap = one_trap;
  corners_apart = corners;
  parked_apart = parked;
  dark = corners_dark a h;
}
