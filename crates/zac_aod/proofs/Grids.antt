-- A trap stands at each crossing of the two grids.
use Rattle.std.proofs.Common.{◌≡◌, ℕ, ◌+◌, ◌*◌, ◌≤◌, List, ◌++◌, map, subst, arith}
use Rattle.std.specs.List.{All, Contains}
use Rattle.zac_arch.specs.Architecture.{Architecture, StandsAt}
use Rattle.zac_arch.specs.declared.place.Point.{Point}
use Rattle.zac_arch.specs.declared.place.TrapId.{TrapId}
use Rattle.zac_aod.specs.Jobs.{StandAt}
use Rattle.zac_group.specs.declared.shift.Shift.{Shift}
use Rattle.zair_state.proofs.Membership.{all_from_contains, contained_in_map}
use Rattle.zac_aod.specs.Lines.{rows_of, columns_of, source_points, target_points}
use Rattle.zac_aod.specs.declared.line.Line.{Line}
use Rattle.zac_aod.specs.CardLaws.{CardLaws, Grouped}
use Rattle.zac_aod.proofs.GridFacts.{source_trap, target_trap, rows_on_field, columns_on_field}

-- a trap stands there
abbrev pub HasTrap : Architecture → ℕ → ℕ → Type 0
HasTrap a x y = (t : ℕ) × StandsAt a t (record { x = x; y = y })

pub sources_stand : (a : Architecture) (shifts : List Shift) → CardLaws a → Grouped a shifts → (xs ys : List ℕ)
    → xs ≡ map (λ (l : Line). l.from) (columns_of a shifts) → ys ≡ map (λ (l : Line). l.from) (rows_of a shifts)
    → All (λ y. All (λ x. HasTrap a x y) xs) ys
sources_stand a shifts laws g xs ys ex ey =
    all_from_contains (λ y. All (λ x. HasTrap a x y) xs) ys (λ y cy. all_from_contains (λ x. HasTrap a x y) xs (λ x cx.
    let row = contained_in_map (λ (l : Line). l.from) (rows_of a shifts) y (subst (λ (ns : List ℕ). Contains ns y) ey cy) in
    let column = contained_in_map (λ (l : Line). l.from) (columns_of a shifts) x (subst (λ (ns : List ℕ). Contains ns x) ex cx) in
    let there = source_trap a shifts laws g row.0 column.0 row.1 column.1 in
    (there.trap, subst (λ (p : Point). StandsAt a there.trap p) (λ i. record { x = column.2 i; y = row.2 i }) there.stands)))

pub targets_stand : (a : Architecture) (shifts : List Shift) → CardLaws a → Grouped a shifts → (xs ys : List ℕ)
    → xs ≡ map (λ (l : Line). l.to) (columns_of a shifts) → ys ≡ map (λ (l : Line). l.to) (rows_of a shifts)
    → All (λ y. All (λ x. HasTrap a x y) xs) ys
targets_stand a shifts laws g xs ys ex ey =
    all_from_contains (λ y. All (λ x. HasTrap a x y) xs) ys (λ y cy. all_from_contains (λ x. HasTrap a x y) xs (λ x cx.
    let row = contained_in_map (λ (l : Line). l.to) (rows_of a shifts) y (subst (λ (ns : List ℕ). Contains ns y) ey cy) in
    let column = contained_in_map (λ (l : Line). l.to) (columns_of a shifts) x (subst (λ (ns : List ℕ). Contains ns x) ex cx) in
    let there = target_trap a shifts laws g row.0 column.0 row.1 column.1 in
    (there.trap, subst (λ (p : Point). StandsAt a there.trap p) (λ i. record { x = column.2 i; y = row.2 i }) there.stands)))

-- beams can be parked beyond the lines, on the field
pub rows_park_at_sources : (a : Architecture) (shifts : List Shift) → CardLaws a → Grouped a shifts → (park : ℕ) → park ≡ a.figures.park → (lines : List Line) → lines ≡ rows_of a shifts
    → All (λ (l : Line). l.from + park ≤ 1000000) lines
rows_park_at_sources a shifts laws g park e lines is =
    all_from_contains (λ (l : Line). l.from + park ≤ 1000000) lines (λ l c.
    let on = (rows_on_field a shifts laws g l (subst (λ (ls : List Line). Contains ls l) is c)).at_source in omega arith)

pub rows_park_at_targets : (a : Architecture) (shifts : List Shift) → CardLaws a → Grouped a shifts → (park : ℕ) → park ≡ a.figures.park → (lines : List Line) → lines ≡ rows_of a shifts
    → All (λ (l : Line). l.to + park ≤ 1000000) lines
rows_park_at_targets a shifts laws g park e lines is =
    all_from_contains (λ (l : Line). l.to + park ≤ 1000000) lines (λ l c.
    let on = (rows_on_field a shifts laws g l (subst (λ (ls : List Line). Contains ls l) is c)).at_target in omega arith)

pub columns_park_at_sources : (a : Architecture) (shifts : List Shift) → CardLaws a → Grouped a shifts → (park : ℕ) → park ≡ a.figures.park → (lines : List Line) → lines ≡ columns_of a shifts
    → All (λ (l : Line). l.from + park ≤ 1000000) lines
columns_park_at_sources a shifts laws g park e lines is =
    all_from_contains (λ (l : Line). l.from + park ≤ 1000000) lines (λ l c.
    let on = (columns_on_field a shifts laws g l (subst (λ (ls : List Line). Contains ls l) is c)).at_source in omega arith)

pub columns_park_at_targets : (a : Architecture) (shifts : List Shift) → CardLaws a → Grouped a shifts → (park : ℕ) → park ≡ a.figures.park → (lines : List Line) → lines ≡ columns_of a shifts
    → All (λ (l : Line). l.to + park ≤ 1000000) lines
columns_park_at_targets a shifts laws g park e lines is =
    all_from_contains (λ (l : Line). l.to + park ≤ 1000000) lines (λ l c.
    let on = (columns_on_field a shifts laws g l (subst (λ (ls : List Line). Contains ls l) is c)).at_target in omega arith)

pub no_fewer : (traps storage sites : ℕ) → traps ≡ storage + 2 * sites → storage ≤ traps
no_fewer traps storage sites e = omega arith

-- the same traps stand at the same points
pub same_grid : (a b : Architecture) (shifts others : List Shift) (traps same : List TrapId) → a ≡ b → shifts ≡ others → traps ≡ same
    → StandAt a traps (source_points a shifts ++ target_points a shifts) → StandAt b same (source_points b others ++ target_points b others)
same_grid a b shifts others traps same e f g h =
    subst (λ (x : Architecture). StandAt x same (source_points x others ++ target_points x others)) e
    (subst (λ (ss : List Shift). StandAt a same (source_points a ss ++ target_points a ss)) f
    (subst (λ (ts : List TrapId). StandAt a ts (source_points a shifts ++ target_points a shifts)) g h))
