-- How far the traps of a card are apart, and the beams that are parked beyond them.
use Rattle.std.proofs.Common.{◌≡◌, ℕ, zero, suc, ◌+◌, ◌*◌, ◌<◌, ◌≤◌, ◌≢◌, ◌⊎◌, inl, inr, Some, List, [], ◌∷◌, length, take, slice_get, refl, sym, ap, subst, ◌∙◌, arith, le_of_eq}
use Rattle.std.proofs.lemmas.Option.{slice_get_within, get_or_from_slice_get}
use Rattle.std.proofs.lemmas.Bool.{cases_lt, cases_eq, cases_order}
use Rattle.std.proofs.lemmas.Nat.{mul-le}
use Rattle.zac_arch.specs.declared.place.Point.{Point}
use Rattle.zac_arch.specs.declared.card.Figures.{Figures}
use Rattle.zac_arch.specs.declared.card.Zone.{Zone}
use Rattle.zac_arch.specs.declared.card.ZoneKind.{ZoneKind}
use Rattle.zac_arch.specs.declared.card.ZoneKind.TheVariants.{Storage, Entangling}
use Rattle.zac_arch.specs.Distances.{difference, IsFarther}
use Rattle.zac_arch.specs.Architecture.{Architecture, StandsAt, IsInZone, traps_per_place, zone_traps}
use Rattle.zac_arch.specs.Parking.{IsCorner, IsParkedBeside}
use Rattle.zac_arch.specs.Rules.{KeepsRules}
use Rattle.zac_arch.proofs.Grid.{InGrid, InBox, in_box, at_place, point_at}
use Rattle.zac_arch.proofs.Zones.{locate, count, count-cons, kind_cases, stands_at_place}
use Rattle.zac_arch.proofs.Ranges.{AreApart, zone_rules, site_rules, zones_apart, zone_distance, no_pair}
use Rattle.zac_arch.proofs.Walks.{count_more}
use Rattle.zac_arch.proofs.Geometry.{same_item, one_point, one_trap, figure_ranges}

-- more than d apart along one axis
pub data AreClear (d : ℕ) (p q : Point) : Type 0 where
  left : p.x + d < q.x → AreClear d p q
  right : q.x + d < p.x → AreClear d p q
  under : p.y + d < q.y → AreClear d p q
  over : q.y + d < p.y → AreClear d p q

clear_zones : (f : Figures) (v w : Zone) (p q : Point) → InBox v p → InBox w q → AreApart (zone_distance f) v w → AreClear (f.park + f.reach) p q
clear_zones f v w p q b c (AreApart.left h) = AreClear.left (omega (arith, b.right, c.left))
clear_zones f v w p q b c (AreApart.right h) = AreClear.right (omega (arith, b.left, c.right))
clear_zones f v w p q b c (AreApart.under h) = AreClear.under (omega (arith, b.top, c.bottom))
clear_zones f v w p q b c (AreApart.over h) = AreClear.over (omega (arith, b.bottom, c.top))

same_coordinates : (p q : Point) → p.x ≡ q.x → p.y ≡ q.y → p ≡ q
same_coordinates p q ex ey = ap (λ u. point_at u p.y) ex ∙ ap (λ v. point_at q.x v) ey

take_nil : (n : ℕ) → take {A = Zone} n [] ≡ []
take_nil zero = refl
take_nil (suc n) = refl

-- two different places of a row: places are d apart, and the right trap of a site is w further than the left one
side_step : (i j w least : ℕ) → i ≤ 1 → j ≤ 1 → (i ≡ j) ⊎ (least ≤ w) → i * w < j * w → i * w + least ≤ j * w
side_step i j w least il jl (inl e) lt = absurd (omega (arith, ap (λ n. n * w) e))
side_step zero zero w least il jl (inr le) lt = absurd (omega arith)
side_step zero (suc zero) w least il jl (inr le) lt = omega arith
side_step zero (suc (suc j)) w least il jl (inr le) lt = absurd (omega arith)
side_step (suc zero) zero w least il jl (inr le) lt = absurd (omega arith)
side_step (suc zero) (suc zero) w least il jl (inr le) lt = absurd (omega arith)
side_step (suc zero) (suc (suc j)) w least il jl (inr le) lt = absurd (omega arith)
side_step (suc (suc i)) j w least il jl (inr le) lt = absurd (omega arith)

row_step : (m n i j d w least : ℕ) → i ≤ 1 → j ≤ 1 → least + w ≤ d → (i ≡ j) ⊎ (least ≤ w) → m * d + i * w < n * d + j * w → m * d + i * w + least ≤ n * d + j * w
row_step m n i j d w least il jl wide narrow lt =
    elim (cases_order m n) as (λ _. m * d + i * w + least ≤ n * d + j * w) [
      | inl e ↦
          let same : m * d ≡ n * d = ap (λ k. k * d) e in
          omega (arith, same, side_step i j w least il jl narrow (omega (arith, same)))
      | inr x ↦
          elim x as (λ _. m * d + i * w + least ≤ n * d + j * w) [
            | inl less ↦ omega (arith, mul-le (m + 1) d n d (omega arith) (omega arith), mul-le i w 1 w il (omega arith))
            | inr more ↦ absurd (omega (arith, mul-le (n + 1) d m d (omega arith) (omega arith), mul-le j w 1 w jl (omega arith)))
          ]
    ]

side_most : (k : ZoneKind) (side : ℕ) → side < traps_per_place k → side ≤ 1
side_most Storage side lt = omega arith
side_most Entangling side lt = omega arith

side_zero : (k : ZoneKind) (side : ℕ) → k ≡ Storage → side < traps_per_place k → side ≡ 0
side_zero k side e lt = let one : traps_per_place k ≡ 1 = ap traps_per_place e in omega (arith, one)

-- how far the columns of traps in one zone are apart
x_step : (z : Zone) (j k least : ℕ) (p q : Point) (g : InGrid z j p) (i : InGrid z k q) → least + z.pair ≤ z.dx → (g.side ≡ i.side) ⊎ (least ≤ z.pair) → p.x < q.x → p.x + least ≤ q.x
x_step z j k least p q g i wide narrow lt =
    omega (arith, g.x_is, i.x_is, row_step g.column i.column g.side i.side z.dx z.pair least (side_most z.kind g.side g.side_in) (side_most z.kind i.side i.side_in) wide narrow (omega (arith, g.x_is, i.x_is)))

y_step : (z : Zone) (j k : ℕ) (p q : Point) (g : InGrid z j p) (i : InGrid z k q) → p.y < q.y → p.y + z.dy ≤ q.y
y_step z j k p q g i lt =
    elim (cases_lt g.row i.row) as (λ _. p.y + z.dy ≤ q.y) [
      | inl less ↦ omega (arith, g.y_is, i.y_is, mul-le (g.row + 1) z.dy i.row z.dy (omega arith) (omega arith))
      | inr more ↦ absurd (omega (arith, g.y_is, i.y_is, mul-le i.row z.dy g.row z.dy more (omega arith)))
    ]

-- there is room for a parked beam between two columns of one zone, and the beam is out of reach of both
pub record HasStep (f : Figures) (here there : ℕ) : Type 0 where
  pub room : here + f.park + f.gap ≤ there
  pub clear : here + f.park + f.reach < there

zone_x_step : (a : Architecture) → KeepsRules a → (n : ℕ) (z : Zone) → slice_get a.zones n ≡ Some z → (j k : ℕ) (p q : Point) → InGrid z j p → InGrid z k q → p.x < q.x → HasStep a.figures p.x q.x
zone_x_step a h n z e j k p q g i lt =
    let f = a.figures in
    let rules = zone_rules a h n z e in
    elim (kind_cases z.kind) as (λ _. HasStep f p.x q.x) [
      | inl s ↦
          let none = no_pair a h n z e s in
          let sides : g.side ≡ i.side = side_zero z.kind g.side s g.side_in ∙ sym (side_zero z.kind i.side s i.side_in) in
          record {
            room = omega (arith, x_step z j k (f.park + f.gap) p q g i (omega (arith, none, rules.dx_room)) (inl sides) lt);
            clear = omega (arith, x_step z j k (f.park + f.reach + 1) p q g i (omega (arith, none, rules.dx_clear)) (inl sides) lt);
          }
      | inr s ↦
          let sites = site_rules a h n z e s in
          record {
            room = omega (arith, x_step z j k (f.park + f.gap) p q g i sites.between_room (inr sites.pair_room) lt);
            clear = omega (arith, x_step z j k (f.park + f.reach + 1) p q g i (omega (arith, sites.between_clear)) (inr (omega (arith, sites.pair_clear))) lt);
          }
    ]

zone_y_step : (a : Architecture) → KeepsRules a → (n : ℕ) (z : Zone) → slice_get a.zones n ≡ Some z → (j k : ℕ) (p q : Point) → InGrid z j p → InGrid z k q → p.y < q.y → HasStep a.figures p.y q.y
zone_y_step a h n z e j k p q g i lt =
    let rules = zone_rules a h n z e in
    let step = y_step z j k p q g i lt in
    record { room = omega (arith, step, rules.dy_room); clear = omega (arith, step, rules.dy_clear) }

-- two traps are more than park + reach apart along one axis
pub traps_clear : (a : Architecture) → KeepsRules a → (t u : ℕ) (p q : Point) → t ≢ u → StandsAt a t p → StandsAt a u q → AreClear (a.figures.park + a.figures.reach) p q
traps_clear a h t u p q ne s r =
    let l = locate a.zones t p s in
    let m = locate a.zones u q r in
    elim (cases_eq l.number m.number) as (λ _. AreClear (a.figures.park + a.figures.reach) p q) [
      | inl e ↦
          let same = same_item a.zones l.number m.number l.zone m.zone e l.is_zone m.is_zone in
          let grid = subst (λ z. InGrid z m.place q) (sym same) m.grid in
          elim (cases_order p.y q.y) as (λ _. AreClear (a.figures.park + a.figures.reach) p q) [
            | inl ey ↦
                elim (cases_order p.x q.x) as (λ _. AreClear (a.figures.park + a.figures.reach) p q) [
                  | inl ex ↦
                      let one : p ≡ q = same_coordinates p q ex ey in
                      absurd (ne (one_trap a h t u q (subst (StandsAt a t) one s) r))
                  | inr x ↦
                      elim x as (λ _. AreClear (a.figures.park + a.figures.reach) p q) [
                        | inl lt ↦ AreClear.left (omega (arith, (zone_x_step a h l.number l.zone l.is_zone l.place m.place p q l.grid grid lt).clear))
                        | inr lt ↦ AreClear.right (omega (arith, (zone_x_step a h l.number l.zone l.is_zone m.place l.place q p grid l.grid lt).clear))
                      ]
                ]
            | inr y ↦
                elim y as (λ _. AreClear (a.figures.park + a.figures.reach) p q) [
                  | inl lt ↦ AreClear.under (omega (arith, (zone_y_step a h l.number l.zone l.is_zone l.place m.place p q l.grid grid lt).clear))
                  | inr lt ↦ AreClear.over (omega (arith, (zone_y_step a h l.number l.zone l.is_zone m.place l.place q p grid l.grid lt).clear))
                ]
          ]
      | inr ne' ↦
          clear_zones a.figures l.zone m.zone p q (in_box l.zone l.place p l.grid) (in_box m.zone m.place q m.grid) (zones_apart a h l.number m.number l.zone m.zone l.is_zone m.is_zone ne')
    ]

-- p' is p, or at most park beyond it along each axis
pub record IsBeyond (park : ℕ) (p p' : Point) : Type 0 where
  pub left : p.x ≤ p'.x
  pub right : p'.x ≤ p.x + park
  pub bottom : p.y ≤ p'.y
  pub top : p'.y ≤ p.y + park

square_more : (d m : ℕ) → d < m → d * d < m * m
square_more d m lt = omega (arith, mul-le (d + 1) (d + 1) m m (omega arith) (omega arith))

far_along_x : (d : ℕ) (p q : Point) → d < difference p.x q.x → IsFarther d p q
far_along_x d p q lt = omega (arith, square_more d (difference p.x q.x) lt)

far_along_y : (d : ℕ) (p q : Point) → d < difference p.y q.y → IsFarther d p q
far_along_y d p q lt = omega (arith, square_more d (difference p.y q.y) lt)

clear_far : (park reach : ℕ) (p q p' q' : Point) → AreClear (park + reach) p q → IsBeyond park p p' → IsBeyond park q q' → IsFarther reach p' q'
clear_far park reach p q p' q' (AreClear.left h) b c =
    far_along_x reach p' q' (omega (arith, b.right, c.left))
clear_far park reach p q p' q' (AreClear.right h) b c =
    far_along_x reach p' q' (omega (arith, b.left, c.right))
clear_far park reach p q p' q' (AreClear.under h) b c =
    far_along_y reach p' q' (omega (arith, b.top, c.bottom))
clear_far park reach p q p' q' (AreClear.over h) b c =
    far_along_y reach p' q' (omega (arith, b.bottom, c.top))

-- what stands or is parked at two traps is out of reach
pub spots_far : (a : Architecture) → KeepsRules a → (t u : ℕ) (p q p' q' : Point) → t ≢ u → StandsAt a t p → StandsAt a u q → IsBeyond a.figures.park p p' → IsBeyond a.figures.park q q' → IsFarther a.figures.reach p' q'
spots_far a h t u p q p' q' ne s r b c =
    clear_far a.figures.park a.figures.reach p q p' q' (traps_clear a h t u p q ne s r) b c

itself : (park : ℕ) (p : Point) → IsBeyond park p p
itself park p =
    record { left = omega arith; right = omega arith; bottom = omega arith; top = omega arith }

-- two traps are out of reach of each other
pub traps_far : (a : Architecture) → KeepsRules a → (t u : ℕ) (p q : Point) → t ≢ u → StandsAt a t p → StandsAt a u q → IsFarther a.figures.reach p q
traps_far a h t u p q ne s r =
    spots_far a h t u p q p q ne s r (itself a.figures.park p) (itself a.figures.park q)

-- what is parked beyond a trap is out of reach of every trap
pub parked_far : (a : Architecture) → KeepsRules a → (t u : ℕ) (p q p' : Point) → StandsAt a t p → StandsAt a u q → IsBeyond a.figures.park p p' → (p'.x ≡ p.x + a.figures.park) ⊎ (p'.y ≡ p.y + a.figures.park) → IsFarther a.figures.reach p' q
parked_far a h t u p q p' s r b parked =
    elim (cases_eq t u) as (λ _. IsFarther a.figures.reach p' q) [
      | inl e ↦
          let one : p ≡ q = one_point a u p q (subst (λ n. StandsAt a n p) e s) r in
          let out = (figure_ranges a h).reach_below_park in
          subst (IsFarther a.figures.reach p') one (elim parked as (λ _. IsFarther a.figures.reach p' p) [
            | inl x ↦ far_along_x a.figures.reach p' p (omega (arith, out))
            | inr y ↦ far_along_y a.figures.reach p' p (omega (arith, out))
          ])
      | inr ne ↦
          spots_far a h t u p q p' q ne s r b (itself a.figures.park q)
    ]

corner_beyond : (park : ℕ) (p q : Point) → IsCorner park p q → IsBeyond park p q
corner_beyond park p q c = record {
  left = elim c.along_x as (λ _. p.x ≤ q.x) [ inl e ↦ omega arith | inr e ↦ omega arith ];
  right = elim c.along_x as (λ _. q.x ≤ p.x + park) [ inl e ↦ omega arith | inr e ↦ omega arith ];
  bottom = elim c.along_y as (λ _. p.y ≤ q.y) [ inl e ↦ omega arith | inr e ↦ omega arith ];
  top = elim c.along_y as (λ _. q.y ≤ p.y + park) [ inl e ↦ omega arith | inr e ↦ omega arith ];
}

-- the corners at two traps are out of reach of each other
pub corners_far : (a : Architecture) → KeepsRules a → (t u : ℕ) (p q r s : Point) → t ≢ u → StandsAt a t p → StandsAt a u q → IsCorner a.figures.park p r → IsCorner a.figures.park q s → IsFarther a.figures.reach r s
corners_far a h t u p q r s ne tp uq pr qs =
    spots_far a h t u p q r s ne tp uq (corner_beyond a.figures.park p r pr) (corner_beyond a.figures.park q s qs)

parked_axis : (park : ℕ) (p q : Point) → IsParkedBeside park p q → (q.x ≡ p.x + park) ⊎ (q.y ≡ p.y + park)
parked_axis park p q k =
    elim k.corner.along_x as (λ _. (q.x ≡ p.x + park) ⊎ (q.y ≡ p.y + park)) [
      | inl x ↦
          elim k.corner.along_y as (λ _. (q.x ≡ p.x + park) ⊎ (q.y ≡ p.y + park)) [
            | inl y ↦ absurd (k.elsewhere (same_coordinates q p x y))
            | inr y ↦ inr y
          ]
      | inr x ↦ inl x
    ]

-- a point beside a trap is out of reach of every trap
pub parked_beside_far : (a : Architecture) → KeepsRules a → (t u : ℕ) (p q r : Point) → StandsAt a t p → StandsAt a u q → IsParkedBeside a.figures.park p r → IsFarther a.figures.reach r q
parked_beside_far a h t u p q r tp uq k =
    parked_far a h t u p q r tp uq (corner_beyond a.figures.park p r k.corner) (parked_axis a.figures.park p r k)

-- the number of a trap's zone
count_take-le : (zs : List Zone) (m n : ℕ) → m ≤ n → count (take m zs) ≤ count (take n zs)
count_take-le [] m n le = le_of_eq (ap count (take_nil m) ∙ sym (ap count (take_nil n)))
count_take-le (z ∷ zs) zero n le = omega arith
count_take-le (z ∷ zs) (suc m) zero le = absurd (omega arith)
count_take-le (z ∷ zs) (suc m) (suc n) le =
    omega (arith, count_take-le zs m n (omega arith), count-cons z (take m zs), count-cons z (take n zs))

count_take-suc : (zs : List Zone) (k : ℕ) (z : Zone) → slice_get zs k ≡ Some z → count (take (k + 1) zs) ≡ count (take k zs) + length (zone_traps z)
count_take-suc zs k z e =
    let lt = slice_get_within zs k z e in
    count_more zs k z lt ∙ ap (λ v. count (take k zs) + length (zone_traps v)) (get_or_from_slice_get zs k z z e)

-- a trap's zone and its place there
pub in_zone : (a : Architecture) (k place : ℕ) (z : Zone) → slice_get a.zones k ≡ Some z → place < length (zone_traps z) → IsInZone a (count (take k a.zones) + place) k
in_zone a k place z e lt =
    record { from = omega arith; below = omega (arith, count_take-suc a.zones k z e) }

pub one_zone : (a : Architecture) (t m n : ℕ) → IsInZone a t m → IsInZone a t n → m ≡ n
one_zone a t m n i j =
    elim (cases_order m n) as (λ _. m ≡ n) [
      | inl e ↦ e
      | inr x ↦
          elim x as (λ _. m ≡ n) [
            | inl lt ↦ absurd (omega (arith, i.below, j.from, count_take-le a.zones (m + 1) n (omega arith)))
            | inr lt ↦ absurd (omega (arith, j.below, i.from, count_take-le a.zones (n + 1) m (omega arith)))
          ]
    ]

-- a trap of a zone: the zone, and the place in its grid
pub record ZoneTrap (a : Architecture) (n : ℕ) (p : Point) : Type 0 where
  pub zone : Zone
  pub place : ℕ
  pub is_zone : slice_get a.zones n ≡ Some zone
  pub grid : InGrid zone place p

pub zone_trap : (a : Architecture) (t n : ℕ) (p : Point) → IsInZone a t n → StandsAt a t p → ZoneTrap a n p
zone_trap a t n p i s =
    let l = locate a.zones t p s in
    let here : IsInZone a t l.number = subst (λ k. IsInZone a k l.number) (sym l.is_trap) (in_zone a l.number l.place l.zone l.is_zone l.place_in) in
    let number = one_zone a t l.number n here i in
    record { zone = l.zone; place = l.place; is_zone = ap (slice_get a.zones) (sym number) ∙ l.is_zone; grid = l.grid }

-- the columns of a zone, and its rows, leave room for a parked beam between them
pub x_steps : (a : Architecture) → KeepsRules a → (n t u : ℕ) (p q : Point) → IsInZone a t n → IsInZone a u n → StandsAt a t p → StandsAt a u q → p.x < q.x → HasStep a.figures p.x q.x
x_steps a h n t u p q i j s r lt =
    let l = zone_trap a t n p i s in
    let m = zone_trap a u n q j r in
    let same = same_item a.zones n n l.zone m.zone refl l.is_zone m.is_zone in
    zone_x_step a h n l.zone l.is_zone l.place m.place p q l.grid (subst (λ z. InGrid z m.place q) (sym same) m.grid) lt

pub y_steps : (a : Architecture) → KeepsRules a → (n t u : ℕ) (p q : Point) → IsInZone a t n → IsInZone a u n → StandsAt a t p → StandsAt a u q → p.y < q.y → HasStep a.figures p.y q.y
y_steps a h n t u p q i j s r lt =
    let l = zone_trap a t n p i s in
    let m = zone_trap a u n q j r in
    let same = same_item a.zones n n l.zone m.zone refl l.is_zone m.is_zone in
    zone_y_step a h n l.zone l.is_zone l.place m.place p q l.grid (subst (λ z. InGrid z m.place q) (sym same) m.grid) lt

-- the traps of a zone are a full product: a trap of it stands in the column of one and the row of another
pub crossing_trap : (a : Architecture) (n t u : ℕ) (p q : Point) → IsInZone a t n → IsInZone a u n → StandsAt a t p → StandsAt a u q → (v : ℕ) × IsInZone a v n × StandsAt a v (point_at p.x q.y)
crossing_trap a n t u p q i j s r =
    let l = zone_trap a t n p i s in
    let m = zone_trap a u n q j r in
    let z = l.zone in
    let same = same_item a.zones n n z m.zone refl l.is_zone m.is_zone in
    let below = subst (λ y. InGrid y m.place q) (sym same) m.grid in
    let g = l.grid in
    let w = traps_per_place z.kind in
    let place = below.row * (z.columns * w) + (g.column * w + g.side) in
    let at = at_place z place below.row g.column g.side below.row_in g.column_in g.side_in refl in
    let here : slice_get (zone_traps z) place ≡ Some (point_at p.x q.y) = at ∙ sym (ap (λ x. Some (point_at x (z.y + below.row * z.dy))) g.x_is) ∙ sym (ap (λ y. Some (point_at p.x y)) below.y_is) in
    (count (take n a.zones) + place, in_zone a n place z l.is_zone (slice_get_within (zone_traps z) place _ here), stands_at_place a.zones n place z (point_at p.x q.y) l.is_zone here)
