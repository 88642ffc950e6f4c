-- The traps of one zone: trap (row, column, side) and its place in the zone's list.
use Rattle.std.proofs.Common.{◌≡◌, ℕ, zero, suc, ◌+◌, ◌-◌, ◌*◌, ◌<◌, ◌≤◌, Some, length, slice_get, if◌then◌else◌, refl, ap, ◌∙◌, arith, zero-add}
use Rattle.std.proofs.lemmas.Option.{slice_get_within}
use Rattle.std.proofs.lemmas.Nat.{mul-add-lt, mul-le}
use Rattle.zac_arch.specs.declared.place.Point.{Point}
use Rattle.zac_arch.specs.declared.card.Zone.{Zone}
use Rattle.zac_arch.specs.declared.card.ZoneKind.{ZoneKind}
use Rattle.zac_arch.specs.declared.card.ZoneKind.TheVariants.{Storage, Entangling}
use Rattle.zac_arch.specs.Architecture.{is_storage, traps_per_place, traps_at, row_traps, zone_traps, last_x, last_y}
use Rattle.zac_arch.proofs.Lists.{length-pieces, slice_get-pieces, piece_of}

pub length-traps_at : (kind : ZoneKind) (pair x y : ℕ) → length (traps_at kind pair x y) ≡ traps_per_place kind
length-traps_at Storage pair x y = refl
length-traps_at Entangling pair x y = refl

abbrev pub point_at : ℕ → ℕ → Point
point_at x y = record { x = x; y = y }

pub slice_get-traps_at : (kind : ZoneKind) (pair x y side : ℕ) → side < traps_per_place kind → slice_get (traps_at kind pair x y) side ≡ Some (point_at (x + side * pair) y)
slice_get-traps_at Storage pair x y zero lt =
    let e : x ≡ x + 0 * pair = omega arith in ap (λ u. Some (point_at u y)) e
slice_get-traps_at Storage pair x y (suc side) lt = absurd (omega arith)
slice_get-traps_at Entangling pair x y zero lt =
    let e : x ≡ x + 0 * pair = omega arith in ap (λ u. Some (point_at u y)) e
slice_get-traps_at Entangling pair x y (suc zero) lt =
    let e : x + pair ≡ x + 1 * pair = omega arith in ap (λ u. Some (point_at u y)) e
slice_get-traps_at Entangling pair x y (suc (suc side)) lt = absurd (omega arith)

pub length-row_traps : (z : Zone) (row : ℕ) → length (row_traps z row) ≡ z.columns * traps_per_place z.kind
length-row_traps z row =
    length-pieces (λ column. traps_at z.kind z.pair (z.x + column * z.dx) (z.y + row * z.dy)) (traps_per_place z.kind) (λ i. length-traps_at z.kind z.pair (z.x + i * z.dx) (z.y + row * z.dy)) 0 z.columns

pub length-zone_traps : (z : Zone) → length (zone_traps z) ≡ z.rows * (z.columns * traps_per_place z.kind)
length-zone_traps z = length-pieces (row_traps z) (z.columns * traps_per_place z.kind) (length-row_traps z) 0 z.rows

-- Trap j of the zone stands at p: its row, its column, and its side, 0 for the left trap and 1 for the right one.
pub record InGrid (z : Zone) (j : ℕ) (p : Point) : Type 0 where
  pub row : ℕ
  pub column : ℕ
  pub side : ℕ
  pub row_in : row < z.rows
  pub column_in : column < z.columns
  pub side_in : side < traps_per_place z.kind
  pub place : j ≡ row * (z.columns * traps_per_place z.kind) + (column * traps_per_place z.kind + side)
  pub x_is : p.x ≡ z.x + column * z.dx + side * z.pair
  pub y_is : p.y ≡ z.y + row * z.dy

pub at_place : (z : Zone) (j row column side : ℕ) → row < z.rows → column < z.columns → side < traps_per_place z.kind → j ≡ row * (z.columns * traps_per_place z.kind) + (column * traps_per_place z.kind + side) → slice_get (zone_traps z) j ≡ Some (point_at (z.x + column * z.dx + side * z.pair) (z.y + row * z.dy))
at_place z j row column side rl cl sl e =
    let inside : column * traps_per_place z.kind + side < z.columns * traps_per_place z.kind = omega (arith, mul-add-lt column (traps_per_place z.kind) side z.columns cl sl) in
    slice_get-pieces (row_traps z) (z.columns * traps_per_place z.kind) (length-row_traps z) 0 z.rows row (column * traps_per_place z.kind + side) j rl inside e ∙ rw zero-add (slice_get-pieces (λ c. traps_at z.kind z.pair (z.x + c * z.dx) (z.y + row * z.dy)) (traps_per_place z.kind) (λ i. length-traps_at z.kind z.pair (z.x + i * z.dx) (z.y + row * z.dy)) 0 z.columns column side (column * traps_per_place z.kind + side) cl sl refl ∙ rw zero-add (slice_get-traps_at z.kind z.pair (z.x + column * z.dx) (z.y + row * z.dy) side sl))

pub stands_in_grid : (z : Zone) (j : ℕ) (p : Point) → InGrid z j p → slice_get (zone_traps z) j ≡ Some p
stands_in_grid z j p g =
    let px : p.x ≡ z.x + g.column * z.dx + g.side * z.pair = g.x_is in
    let py : p.y ≡ z.y + g.row * z.dy = g.y_is in
    at_place z j g.row g.column g.side g.row_in g.column_in g.side_in g.place ∙ rw (px, py) refl

pub in_grid : (z : Zone) (j : ℕ) (p : Point) → slice_get (zone_traps z) j ≡ Some p → InGrid z j p
in_grid z j p e =
    let lt : j < z.rows * (z.columns * traps_per_place z.kind) = omega (arith, slice_get_within (zone_traps z) j p e, length-zone_traps z) in
    let r = piece_of z.rows (z.columns * traps_per_place z.kind) j lt in
    let c = piece_of z.columns (traps_per_place z.kind) r.place r.place_in in
    let at : slice_get (zone_traps z) j ≡ Some (point_at (z.x + c.piece * z.dx + c.place * z.pair) (z.y + r.piece * z.dy)) = at_place z j r.piece c.piece c.place r.piece_in c.piece_in c.place_in (omega (arith, r.is, c.is)) in
    let same : p ≡ point_at (z.x + c.piece * z.dx + c.place * z.pair) (z.y + r.piece * z.dy) = cc in
    record {
      row = r.piece;
      column = c.piece;
      side = c.place;
      row_in = r.piece_in;
      column_in = c.piece_in;
      side_in = c.place_in;
      place = omega (arith, r.is, c.is);
      x_is = ap (λ (q : Point). q.x) same;
      y_is = ap (λ (q : Point). q.y) same;
    }

-- a trap lies in the box of its zone's traps
pub record InBox (z : Zone) (p : Point) : Type 0 where
  pub left : z.x ≤ p.x
  pub right : p.x ≤ last_x z
  pub bottom : z.y ≤ p.y
  pub top : p.y ≤ last_y z

side-le : (kind : ZoneKind) (side pair : ℕ) → side < traps_per_place kind → side * pair ≤ (if is_storage kind then 0 else pair)
side-le Storage zero pair lt = omega arith
side-le Storage (suc side) pair lt = absurd (omega arith)
side-le Entangling zero pair lt = omega arith
side-le Entangling (suc zero) pair lt = omega arith
side-le Entangling (suc (suc side)) pair lt = absurd (omega arith)

pub in_box : (z : Zone) (j : ℕ) (p : Point) → InGrid z j p → InBox z p
in_box z j p g =
    let across : g.column * z.dx ≤ (z.columns - 1) * z.dx = mul-le g.column z.dx (z.columns - 1) z.dx (omega (arith, g.column_in)) (omega arith) in
    let up : g.row * z.dy ≤ (z.rows - 1) * z.dy = mul-le g.row z.dy (z.rows - 1) z.dy (omega (arith, g.row_in)) (omega arith) in
    let beside = side-le z.kind g.side z.pair g.side_in in
    record {
      left = omega (arith, g.x_is);
      right = omega (arith, g.x_is, across, beside);
      bottom = omega (arith, g.y_is);
      top = omega (arith, g.y_is, up);
    }
