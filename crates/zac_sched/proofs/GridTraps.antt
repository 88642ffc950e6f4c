-- The listed traps of a job are those of its grids.
use Rattle.std.proofs.Common.{◌≡◌, ℕ, ◌<◌, ◌≤◌, ◌⊎◌, inl, inr, true, false, List, [], ◌∷◌, ◌++◌, map, refl, ap, subst, arith}
use Rattle.std.specs.List.{All, Any, Contains, list_any}
use Rattle.std.proofs.lemmas.List.Elements.{Contains-append_left, Contains-append_right, Contains-append_cases}
use Rattle.std.proofs.lemmas.List.Folds.{Any-from_list_any, list_any-from_Any}
use Rattle.std.proofs.lemmas.Bool.{both_ways, le-leb, leb-true}
use Rattle.std.specs.Prelude.{nat_le}
use Rattle.std.proofs.lemmas.Option.{slice_get_within}
use Rattle.zac_arch.specs.Architecture.{Architecture, StandsAt, storage_count, trap_count, trap_points}
use Rattle.zac_arch.specs.declared.place.Point.{Point}
use Rattle.zac_arch.specs.declared.place.TrapId.{TrapId}
use Rattle.zac_aod.specs.Jobs.{StandAt}
use Rattle.zac_aod.specs.Lines.{crossings_of, source_points, target_points}
use Rattle.zac_aod.specs.Soundness.{IsOnGrids}
use Rattle.zac_aod.proofs.ListParts.{contained_in_flat_map, contains_flat_map}
use Rattle.zac_group.specs.declared.shift.Shift.{Shift}
use Rattle.zair_state.proofs.Membership.{contains_here, contains_later, contains_cases, contains_none, contains_map, contained_in_map, all_from_contains}
use Rattle.zair_state.specs.Resources.{IsOnGrid}
use Rattle.zac_sched.proofs.Clashes.{AreGridTraps, MeetsZones}
use Rattle.zac_sched.proofs.Latest.{any_none, any_here, any_later, any_cases, any_weaker}

-- a trap stands at each point of the list
stands_listed : (a : Architecture) (ts : List TrapId) (ps : List Point) (p : Point) → StandAt a ts ps → Contains ps p → Any (λ (k : TrapId). StandsAt a k.0 p) ts
stands_listed a [] [] p h c = absurd (contains_none p c)
stands_listed a [] (q ∷ ps) p h c = absurd h
stands_listed a (t ∷ ts) [] p h c = absurd h
stands_listed a (t ∷ ts) (q ∷ ps) p h c = elim (contains_cases q p ps c) [
  | inl e ↦ any_here (λ (k : TrapId). StandsAt a k.0 p) t ts (subst (λ (x : Point). StandsAt a t.0 x) e h.0)
  | inr later ↦ any_later (λ (k : TrapId). StandsAt a k.0 p) t ts (stands_listed a ts ps p h.1 later)
]

-- each trap stands at a point of the list
listed_stands : (a : Architecture) (ts : List TrapId) (ps : List Point) (t : ℕ) → StandAt a ts ps → Any (λ (k : TrapId). k.0 ≡ t) ts → (p : Point) × Contains ps p × StandsAt a t p
listed_stands a [] ps t h k = absurd (any_none (λ (k : TrapId). k.0 ≡ t) k)
listed_stands a (u ∷ ts) [] t h k = absurd h
listed_stands a (u ∷ ts) (q ∷ ps) t h k = elim (any_cases (λ (k : TrapId). k.0 ≡ t) u ts k) [
  | inl e ↦ (q, contains_here q ps, subst (λ (n : ℕ). StandsAt a n q) e h.0)
  | inr later ↦ let r = listed_stands a ts ps t h.1 later in (r.0, contains_later q r.0 ps r.1, r.2)
]

-- a point of the crossings has one of the columns and one of the rows
has_crossing : (xs ys : List ℕ) (p : Point) → Contains xs p.x → Contains ys p.y → Contains (crossings_of xs ys) p
has_crossing xs ys p cx cy =
    contains_flat_map (λ (y : ℕ). map (λ (x : ℕ). let q : Point = record { x = x; y = y } in q) xs) ys p.y p cy
    (contains_map (λ (x : ℕ). let q : Point = record { x = x; y = p.y } in q) xs p.x cx)

of_crossing : (xs ys : List ℕ) (p : Point) → Contains (crossings_of xs ys) p → Contains xs p.x × Contains ys p.y
of_crossing xs ys p c =
    let row = contained_in_flat_map (λ (y : ℕ). map (λ (x : ℕ). let q : Point = record { x = x; y = y } in q) xs) ys p c in
    let column = contained_in_map (λ (x : ℕ). let q : Point = record { x = x; y = row.0 } in q) xs p row.2 in
    let is_x : column.0 ≡ p.x = ap (λ (q : Point). q.x) column.2 in
    let is_y : row.0 ≡ p.y = ap (λ (q : Point). q.y) column.2 in
    (subst (λ (n : ℕ). Contains xs n) is_x column.1, subst (λ (n : ℕ). Contains ys n) is_y row.1)

on_one_grid : (a : Architecture) (xs ys : List ℕ) (t : ℕ) → IsOnGrid a xs ys t → (p : Point) × Contains (crossings_of xs ys) p × StandsAt a t p
on_one_grid a xs ys t h = (h.0, has_crossing xs ys h.0 h.2 h.3, h.1)

is_on_grid : (a : Architecture) (xs ys : List ℕ) (t : ℕ) (p : Point) → Contains (crossings_of xs ys) p → StandsAt a t p → IsOnGrid a xs ys t
is_on_grid a xs ys t p c s = let parts = of_crossing xs ys p c in (p, s, parts.0, parts.1)

on_points : (a : Architecture) (shifts : List Shift) (t : ℕ) → IsOnGrids a shifts t → (p : Point) × Contains (source_points a shifts ++ target_points a shifts) p × StandsAt a t p
on_points a shifts t (inl h) = let r = on_one_grid a _ _ t h in (r.0, Contains-append_left (source_points a shifts) (target_points a shifts) r.0 r.1, r.2)
on_points a shifts t (inr h) = let r = on_one_grid a _ _ t h in (r.0, Contains-append_right (source_points a shifts) (target_points a shifts) r.0 r.1, r.2)

of_points : (a : Architecture) (shifts : List Shift) (t : ℕ) (p : Point) → Contains (source_points a shifts) p ⊎ Contains (target_points a shifts) p → StandsAt a t p → IsOnGrids a shifts t
of_points a shifts t p (inl c) s = inl (is_on_grid a _ _ t p c s)
of_points a shifts t p (inr c) s = inr (is_on_grid a _ _ t p c s)

pub grid_traps : (a : Architecture) (shifts : List Shift) (grid : List TrapId) → ((t u : ℕ) (p : Point) → StandsAt a t p → StandsAt a u p → t ≡ u)
    → StandAt a grid (source_points a shifts ++ target_points a shifts) → AreGridTraps a shifts grid
grid_traps a shifts grid one_trap stand = record {
  listed = λ t h.
      let at = on_points a shifts t h in
      any_weaker (λ (k : TrapId). StandsAt a k.0 at.0) (λ (k : TrapId). k.0 ≡ t) (λ k s. one_trap k.0 t at.0 s at.2) grid
      (stands_listed a grid (source_points a shifts ++ target_points a shifts) at.0 stand at.1);
  on_grids = λ t h.
      let at = listed_stands a grid (source_points a shifts ++ target_points a shifts) t stand h in
      of_points a shifts t at.0 (Contains-append_cases (source_points a shifts) (target_points a shifts) at.0 at.1) at.2;
  within = λ t h.
      let at = listed_stands a grid (source_points a shifts ++ target_points a shifts) t stand h in
      slice_get_within (trap_points a) t at.0 at.2;
}

pub all_within : (a : Architecture) (shifts : List Shift) (grid : List TrapId) → AreGridTraps a shifts grid → All (λ (k : TrapId). k.0 < trap_count a) grid
all_within a shifts grid g = all_from_contains (λ (k : TrapId). k.0 < trap_count a) grid (λ x c. g.within x.0 (c.0, x, c.1, c.2, refl))

-- the test of a trap of the entangling zones
pub meets : (a : Architecture) (grid : List TrapId) (storage : ℕ) → storage ≡ storage_count a → list_any (λ (k : TrapId). nat_le storage k.0) grid ≡ true → MeetsZones a grid
meets a grid storage e h =
    any_weaker (λ (k : TrapId). nat_le storage k.0 ≡ true) (λ (k : TrapId). storage_count a ≤ k.0) (λ k t. let le = leb-true storage k.0 t in omega arith) grid
    (Any-from_list_any (λ (k : TrapId). nat_le storage k.0) grid h)

pub clear_of_zones : (a : Architecture) (grid : List TrapId) (storage : ℕ) → storage ≡ storage_count a → list_any (λ (k : TrapId). nat_le storage k.0) grid ≡ false → ¬ MeetsZones a grid
clear_of_zones a grid storage e h m =
    both_ways (list_any (λ (k : TrapId). nat_le storage k.0) grid) h
    (list_any-from_Any (λ (k : TrapId). nat_le storage k.0) grid
    (any_weaker (λ (k : TrapId). storage_count a ≤ k.0) (λ (k : TrapId). nat_le storage k.0 ≡ true) (λ k le. le-leb storage k.0 (omega arith)) grid m))
