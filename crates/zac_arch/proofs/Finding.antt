-- The trap at a point, by division on a zone's grid, and the zones that light a point.
use Rattle.std.proofs.Common.{◌≡◌, ℕ, zero, suc, ◌+◌, ◌-◌, ◌*◌, ◌/◌, ◌%◌, ◌<◌, ◌≤◌, inl, inr, Some, List, [], ◌∷◌, ◌++◌, length, take, get_or, slice_get, refl, sym, ap, subst, ◌∙◌, Fits, w32, arith, append-nil}
use Rattle.std.proofs.lemmas.Bool.{cases_lt}
use Rattle.std.proofs.lemmas.Option.{slice_get_within, slice_get-get_or}
use Rattle.std.proofs.lemmas.Nat.{div-mul-add, mod-mul-add, div-add-mod', mul-le}
use Rattle.std.proofs.lemmas.List.{take_more}
use Rattle.std.proofs.lemmas.List.Concat.{flat_map-append}
use Rattle.std.proofs.lemmas.List.Folds.{length-flat_map-take}
use Rattle.zac_arch.specs.declared.place.Point.{Point}
use Rattle.zac_arch.specs.declared.card.Zone.{Zone}
use Rattle.zac_arch.specs.declared.card.ZoneKind.{ZoneKind}
use Rattle.zac_arch.specs.declared.card.ZoneKind.TheVariants.{Storage, Entangling}
use Rattle.zac_arch.specs.Architecture.{Architecture, StandsAt, IsLit, IsInWidenedBox, traps_per_place, zone_traps}
use Rattle.zac_arch.specs.Rules.{KeepsRules}
use Rattle.zac_arch.proofs.Lists.{slice_get-append_left, slice_get-append_right}
use Rattle.zac_arch.proofs.Grid.{in_grid, at_place, point_at}
use Rattle.zac_arch.proofs.Zones.{count, points}
use Rattle.zac_arch.proofs.Walks.{stands_by_place, trap_count_most}

-- what division finds of a trap of the zone that stands at p
pub record Found (z : Zone) (p : Point) : Type 0 where
  pub side : ℕ
  pub side_in : side < traps_per_place z.kind
  pub left : z.x ≤ p.x
  pub bottom : z.y ≤ p.y
  pub level : (p.y - z.y) % z.dy ≡ 0
  pub row_in : (p.y - z.y) / z.dy < z.rows
  pub column_in : (p.x - z.x) / z.dx < z.columns
  pub beside : (p.x - z.x) % z.dx ≡ side * z.pair

side_below : (k : ZoneKind) (side pair dx : ℕ) → side < traps_per_place k → pair < dx → side * pair < dx
side_below Storage zero pair dx lt le = omega arith
side_below Storage (suc side) pair dx lt le = absurd (omega arith)
side_below Entangling zero pair dx lt le = omega arith
side_below Entangling (suc zero) pair dx lt le = omega arith
side_below Entangling (suc (suc side)) pair dx lt le = absurd (omega arith)

pub found : (z : Zone) (p : Point) (j : ℕ) → 1 ≤ z.dy → z.pair < z.dx → slice_get (zone_traps z) j ≡ Some p → Found z p
found z p j dy pair e =
    let g = in_grid z j p e in
    let inside = side_below z.kind g.side z.pair z.dx g.side_in pair in
    let right : p.x - z.x ≡ g.column * z.dx + g.side * z.pair = omega (arith, g.x_is) in
    let up : p.y - z.y ≡ g.row * z.dy + 0 = omega (arith, g.y_is) in
    let row : (p.y - z.y) / z.dy ≡ g.row = ap (λ n. n / z.dy) up ∙ div-mul-add g.row z.dy 0 dy in
    let column : (p.x - z.x) / z.dx ≡ g.column = ap (λ n. n / z.dx) right ∙ div-mul-add g.column z.dx (g.side * z.pair) inside in
    record {
      side = g.side;
      side_in = g.side_in;
      left = omega (arith, g.x_is);
      bottom = omega (arith, g.y_is);
      level = ap (λ n. n % z.dy) up ∙ mod-mul-add g.row z.dy 0 dy;
      row_in = omega (arith, row, g.row_in);
      column_in = omega (arith, column, g.column_in);
      beside = ap (λ n. n % z.dx) right ∙ mod-mul-add g.column z.dx (g.side * z.pair) inside;
    }

-- and the trap that it finds
pub record FoundAt (z : Zone) (p : Point) (row column width side : ℕ) : Type 0 where
  pub stands : slice_get (zone_traps z) ((row * z.columns + column) * width + side) ≡ Some p
  pub row_fits : row * z.columns < 4294967296
  pub place_fits : row * z.columns + column < 4294967296
  pub scaled_fits : (row * z.columns + column) * width < 4294967296
  pub index_fits : (row * z.columns + column) * width + side < 4294967296

same_point : (p : Point) (x y : ℕ) → x ≡ p.x → y ≡ p.y → point_at x y ≡ p
same_point p x y ex ey = ap (λ u. point_at u y) ex ∙ ap (λ v. point_at p.x v) ey

some_trap : (k : ZoneKind) → 1 ≤ traps_per_place k
some_trap Storage = omega arith
some_trap Entangling = omega arith

pub found_at : (z : Zone) (p : Point) (width side : ℕ) → width ≡ traps_per_place z.kind → length (zone_traps z) < 4294967296 → z.x ≤ p.x → z.y ≤ p.y → (p.y - z.y) % z.dy ≡ 0 → (p.y - z.y) / z.dy < z.rows → (p.x - z.x) / z.dx < z.columns → side < traps_per_place z.kind → (p.x - z.x) % z.dx ≡ side * z.pair → FoundAt z p ((p.y - z.y) / z.dy) ((p.x - z.x) / z.dx) width side
found_at z p width side w fits left bottom level row_in column_in side_in beside =
    let row = (p.y - z.y) / z.dy in
    let column = (p.x - z.x) / z.dx in
    let j = (row * z.columns + column) * width + side in
    let j_is : j ≡ row * (z.columns * traps_per_place z.kind) + (column * traps_per_place z.kind + side) = ap (λ n. (row * z.columns + column) * n + side) w ∙ omega arith in
    let x : z.x + column * z.dx + side * z.pair ≡ p.x = omega (arith, div-add-mod' (p.x - z.x) z.dx) in
    let y : z.y + row * z.dy ≡ p.y = omega (arith, div-add-mod' (p.y - z.y) z.dy) in
    let stands : slice_get (zone_traps z) j ≡ Some p = at_place z j row column side row_in column_in side_in j_is ∙ ap Some (same_point p _ _ x y) in
    let within = slice_get_within (zone_traps z) j p stands in
    let scaled : row * z.columns + column ≤ (row * z.columns + column) * width = omega (arith, mul-le (row * z.columns + column) 1 (row * z.columns + column) width (omega arith) (omega (arith, some_trap z.kind))) in
    record {
      stands = stands;
      row_fits = omega arith;
      place_fits = omega arith;
      scaled_fits = omega arith;
      index_fits = omega arith;
    }

-- the traps before a zone and those in it
pub before_fits : (a : Architecture) → KeepsRules a → (zs : List Zone) → zs ≡ a.zones → (k : ℕ) (d : Zone) (before part : ℕ) → k < length zs → before ≡ count (take k zs) → part ≤ length (zone_traps (get_or zs k d)) → Fits w32 (before + part)
before_fits a h zs e k d before part lt is le =
    omega (arith, length-flat_map-take zone_traps zs k d lt, ap count e, trap_count_most a h)

pub stands_behind : (a : Architecture) (zs : List Zone) → zs ≡ a.zones → (k before place : ℕ) (d : Zone) (p : Point) → k < length zs → before ≡ count (take k zs) → slice_get (zone_traps (get_or zs k d)) place ≡ Some p → StandsAt a (before + place) p
stands_behind a zs e k before place d p lt is at =
    stands_by_place a zs e (before + place) k place d p lt (ap (λ n. n + place) (is ∙ ap (λ ys. count (take k ys)) e)) at

-- no trap of the zones so far, nor of the next one
pub none_more : (zs : List Zone) (k : ℕ) (d : Zone) (p : Point) → k < length zs → ((t : ℕ) → slice_get (points (take k zs)) t ≡ Some p → ⊥) → ((j : ℕ) → slice_get (zone_traps (get_or zs k d)) j ≡ Some p → ⊥) → (t : ℕ) → slice_get (points (take (k + 1) zs)) t ≡ Some p → ⊥
none_more zs k d p lt before here t at =
    let z = get_or zs k d in
    let split : points (take (k + 1) zs) ≡ points (take k zs) ++ zone_traps z = ap points (take_more zs k d lt) ∙ flat_map-append zone_traps (take k zs) (z ∷ []) ∙ ap (λ ys. points (take k zs) ++ ys) (append-nil (zone_traps z)) in
    let there : slice_get (points (take k zs) ++ zone_traps z) t ≡ Some p = ap (λ ps. slice_get ps t) (sym split) ∙ at in
    elim (cases_lt t (count (take k zs))) as (λ _. ⊥) [
      | inl less ↦ before t (sym (slice_get-append_left (points (take k zs)) (zone_traps z) t less) ∙ there)
      | inr le ↦
          here (t - count (take k zs)) (sym (slice_get-append_right (points (take k zs)) (zone_traps z) (count (take k zs)) t (t - count (take k zs)) refl (omega arith)) ∙ there)
    ]

-- the zones up to n don't light the point
abbrev pub DarkBelow : ℕ → Point → List Zone → ℕ → Type 0
DarkBelow radius p zs n =
    (k : ℕ) (z : Zone) → k < n → slice_get zs k ≡ Some z → ((z.kind ≡ Entangling) × IsInWidenedBox radius z p) → ⊥

pub dark_more : (radius : ℕ) (p : Point) (zs : List Zone) (n : ℕ) (d : Zone) → n < length zs → DarkBelow radius p zs n → (((get_or zs n d).kind ≡ Entangling) × IsInWidenedBox radius (get_or zs n d) p → ⊥) → DarkBelow radius p zs (n + 1)
dark_more radius p zs n d lt before here k z kl at =
    elim (cases_lt k n) as (λ _. ((z.kind ≡ Entangling) × IsInWidenedBox radius z p) → ⊥) [
      | inl less ↦ before k z less at
      | inr le ↦
          let last : k ≡ n = omega arith in
          let read : slice_get zs k ≡ Some (get_or zs n d) = ap (slice_get zs) last ∙ slice_get-get_or zs n d lt in
          let same : get_or zs n d ≡ z = cc in
          λ lights. here (subst (λ v. (v.kind ≡ Entangling) × IsInWidenedBox radius v p) (sym same) lights)
    ]

pub all_dark : (a : Architecture) (radius : ℕ) (p : Point) (zs : List Zone) (n : ℕ) → zs ≡ a.zones → radius ≡ a.figures.radius → length zs ≤ n → DarkBelow radius p zs n → ¬ IsLit a p
all_dark a radius p zs n e r le dark lit =
    let z = lit.1 in
    let lt : lit.0 < n = omega (arith, ap length e, lit.2) in
    let at : slice_get zs lit.0 ≡ Some z = ap (λ ys. slice_get ys lit.0) e ∙ slice_get-get_or a.zones lit.0 z lit.2 ∙ ap Some lit.3 in
    dark lit.0 z lt at (subst (λ m. (z.kind ≡ Entangling) × IsInWidenedBox m z p) (sym r) lit.4)
