-- The storage zones of a card: how their traps are numbered, and where they stand.
use Rattle.std.proofs.Common.{◌≡◌, ℕ, zero, suc, ◌+◌, ◌*◌, ◌<◌, ◌⊎◌, inl, inr, true, false, cond, not, ◌||◌, IsTrue, List, [], ◌∷◌, length, get_or, map, take, refl, sym, ap, ◌∙◌, subst, arith}
use Rattle.std.specs.List.{filter, flat_map, list_all, range_with_len, sum_by}
use Rattle.std.proofs.lemmas.Bool.{and_parts, false≢true}
use Rattle.std.proofs.lemmas.List.{length-append, length-map, length-take}
use Rattle.std.proofs.lemmas.List.Concat.{flat_map_single, get_or-flat_map}
use Rattle.std.proofs.lemmas.List.FromFn.{get_or-map-range_with_len, get_or-range_with_len, length-range_with_len}
use Rattle.std.proofs.lemmas.List.Sums.{AllPass-from_list_all, sum_by-cons}
use Rattle.std.proofs.lemmas.Nat.{mul-add-lt}
use Rattle.zac_arch.specs.Architecture.{Architecture, is_storage, traps_at, zone_traps, trap_points, storage_count}
use Rattle.zac_arch.specs.Rules.{KeepsRules, passes_pairs, stands_in_order}
use Rattle.zac_arch.specs.declared.card.Zone.{Zone}
use Rattle.zac_arch.specs.declared.card.ZoneKind.{ZoneKind}
use Rattle.zac_arch.specs.declared.card.ZoneKind.TheVariants.{Storage, Entangling}
use Rattle.zac_arch.specs.declared.place.Point.{Point}

-- pieces that each have w elements
length-pieces : {X A : Type 0} (f : X → List A) (w : ℕ) → ((x : X) → length (f x) ≡ w) → (xs : List X) → length (flat_map f xs) ≡ length xs * w
length-pieces f w each [] = omega arith
length-pieces f w each (x ∷ xs) = omega (arith, length-append (f x) (flat_map f xs), each x, length-pieces f w each xs)

-- the trap at a row and a column of a storage zone
abbrev pub grid_point : Zone → ℕ → ℕ → Point
grid_point z row column = record { x = z.x + column * z.dx; y = z.y + row * z.dy }

-- one row of it, and all its traps
abbrev row_points : Zone → ℕ → List Point
row_points z row = flat_map (λ column. grid_point z row column ∷ []) (range_with_len 0 z.columns)

row_is : (z : Zone) (row : ℕ) → row_points z row ≡ map (grid_point z row) (range_with_len 0 z.columns)
row_is z row = flat_map_single (grid_point z row) (range_with_len 0 z.columns)

length-row : (z : Zone) (row : ℕ) → length (row_points z row) ≡ z.columns
length-row z row =
    ap length (row_is z row) ∙ length-map (range_with_len 0 z.columns) (grid_point z row) ∙ length-range_with_len 0 z.columns

traps_are : (z : Zone) → z.kind ≡ Storage → zone_traps z ≡ flat_map (row_points z) (range_with_len 0 z.rows)
traps_are z e =
    ap (λ (kind : ZoneKind). flat_map (λ (row : ℕ). flat_map (λ (column : ℕ). traps_at kind z.pair (z.x + column * z.dx) (z.y + row * z.dy)) (range_with_len 0 z.columns)) (range_with_len 0 z.rows)) e

pub length-storage_zone : (z : Zone) → z.kind ≡ Storage → length (zone_traps z) ≡ z.rows * z.columns
length-storage_zone z e =
    ap length (traps_are z e) ∙ length-pieces (row_points z) z.columns (length-row z) (range_with_len 0 z.rows) ∙ ap (λ (n : ℕ). n * z.columns) (length-range_with_len 0 z.rows)

zone_point : (z : Zone) (row column : ℕ) (d : Point) → z.kind ≡ Storage → row < z.rows → column < z.columns → get_or (zone_traps z) (row * z.columns + column) d ≡ grid_point z row column
zone_point z row column d e row_in column_in =
    let rows = range_with_len 0 z.rows in
    let len : length rows ≡ z.rows = length-range_with_len 0 z.rows in
    let here : get_or rows row 0 ≡ row = get_or-range_with_len 0 z.rows row 0 row_in ∙ omega arith in
    let before : length (flat_map (row_points z) (take row rows)) ≡ row * z.columns =
    length-pieces (row_points z) z.columns (length-row z) (take row rows) ∙ ap (λ (n : ℕ). n * z.columns) (length-take row rows ∙ omega (arith, len)) in
    let inside : column < length (row_points z (get_or rows row 0)) = omega (arith, length-row z (get_or rows row 0)) in
    ap (λ (l : List Point). get_or l (row * z.columns + column) d) (traps_are z e)
    ∙ ap (λ (n : ℕ). get_or (flat_map (row_points z) rows) (n + column) d) (sym before)
    ∙ get_or-flat_map (row_points z) rows row column 0 d (omega (arith, len)) inside
    ∙ ap (λ (r : ℕ). get_or (row_points z r) column d) here
    ∙ ap (λ (l : List Point). get_or l column d) (row_is z row)
    ∙ get_or-map-range_with_len (grid_point z row) 0 z.columns column column d column_in (omega arith)

-- how many storage traps a zone has
abbrev pub storage_part : Zone → ℕ
storage_part z = cond (is_storage z.kind) (z.rows * z.columns) 0

pub kind_cases : (k : ZoneKind) → (k ≡ Storage) ⊎ (k ≡ Entangling)
kind_cases Storage = inl refl
kind_cases Entangling = inr refl

pub part_of_storage : (z : Zone) → z.kind ≡ Storage → storage_part z ≡ z.rows * z.columns
part_of_storage z e = ap (λ (k : ZoneKind). cond (is_storage k) (z.rows * z.columns) 0) e

pub part_of_entangling : (z : Zone) → z.kind ≡ Entangling → storage_part z ≡ 0
part_of_entangling z e = ap (λ (k : ZoneKind). cond (is_storage k) (z.rows * z.columns) 0) e

storage_sum : (zs : List Zone) → length (flat_map zone_traps (filter (λ (z : Zone). is_storage z.kind) zs)) ≡ sum_by storage_part zs
storage_sum [] = refl
storage_sum (z ∷ zs) =
    let others = filter (λ (y : Zone). is_storage y.kind) zs in
    let chosen : (k : ZoneKind) → z.kind ≡ k → filter (λ (y : Zone). is_storage y.kind) (z ∷ zs) ≡ cond (is_storage k) (z ∷ others) others =
    λ k e. ap (λ (j : ZoneKind). cond (is_storage j) (z ∷ others) others) e in
    elim (kind_cases z.kind) as (λ _. length (flat_map zone_traps (filter (λ (y : Zone). is_storage y.kind) (z ∷ zs))) ≡ sum_by storage_part (z ∷ zs)) [
      | inl e ↦ ap (λ (ys : List Zone). length (flat_map zone_traps ys)) (chosen Storage e)
          ∙ omega (arith, length-append (zone_traps z) (flat_map zone_traps others), length-storage_zone z e, part_of_storage z e, storage_sum zs, sum_by-cons storage_part z zs)
      | inr e ↦ ap (λ (ys : List Zone). length (flat_map zone_traps ys)) (chosen Entangling e)
          ∙ omega (arith, part_of_entangling z e, storage_sum zs, sum_by-cons storage_part z zs)
    ]

pub storage_count_is : (a : Architecture) (zs : List Zone) → zs ≡ a.zones → sum_by storage_part zs ≡ storage_count a
storage_count_is a zs e = ap (sum_by storage_part) e ∙ sym (storage_sum a.zones)

-- a zone before a storage zone is a storage zone
earlier_is_storage : (y : Zone) (zs : List Zone) (k : ℕ) (d : Zone) → IsTrue (list_all (stands_in_order y) zs) → k < length zs → (get_or zs k d).kind ≡ Storage → y.kind ≡ Storage
earlier_is_storage y zs k d all lt e =
    let z = get_or zs k d in
    let test : (is_storage y.kind || not (is_storage z.kind)) ≡ true = AllPass-from_list_all (stands_in_order y) zs all k d lt in
    let at : (is_storage y.kind || false) ≡ true = subst (λ (j : ZoneKind). (is_storage y.kind || not (is_storage j)) ≡ true) e test in
    elim (kind_cases y.kind) as (λ _. y.kind ≡ Storage) [
      | inl s ↦ s
      | inr s ↦ absurd (false≢true (sym (ap (λ (j : ZoneKind). is_storage j || false) s) ∙ at))
    ]

-- as many traps stand before a storage zone as there are storage traps before it
pub traps_before_storage : (zs : List Zone) (k : ℕ) (d : Zone) → IsTrue (passes_pairs stands_in_order zs) → k < length zs → (get_or zs k d).kind ≡ Storage → length (flat_map zone_traps (take k zs)) ≡ sum_by storage_part (take k zs)
traps_before_storage [] k d order lt e = absurd (omega arith)
traps_before_storage (y ∷ zs) zero d order lt e = refl
traps_before_storage (y ∷ zs) (suc k) d order lt e =
    let parts = and_parts (list_all (stands_in_order y) zs) (passes_pairs stands_in_order zs) order in
    let s = earlier_is_storage y zs k d parts.0 (omega arith) e in
    omega (arith, length-append (zone_traps y) (flat_map zone_traps (take k zs)), length-storage_zone y s, part_of_storage y s, traps_before_storage zs k d parts.1 (omega arith) e, sum_by-cons storage_part y (take k zs))

-- where the trap at a row and a column of the storage zone of a number stands
pub storage_point : (a : Architecture) (zs : List Zone) (k first row column : ℕ) (d : Zone) → KeepsRules a → zs ≡ a.zones → k < length zs → (get_or zs k d).kind ≡ Storage → first ≡ sum_by storage_part (take k zs) →
    row < (get_or zs k d).rows → column < (get_or zs k d).columns → get_or (trap_points a) (first + (row * (get_or zs k d).columns + column)) (record { x = 0; y = 0 }) ≡ grid_point (get_or zs k d) row column
storage_point a zs k first row column d rules e lt kind first_is row_in column_in =
    let z = get_or zs k d in
    let none : Point = record { x = 0; y = 0 } in
    let place = row * z.columns + column in
    let order : IsTrue (passes_pairs stands_in_order zs) = subst (λ (l : List Zone). IsTrue (passes_pairs stands_in_order l)) (sym e) rules.order in
    let before : first ≡ length (flat_map zone_traps (take k zs)) = first_is ∙ sym (traps_before_storage zs k d order lt kind) in
    let inside : place < length (zone_traps z) = omega (arith, length-storage_zone z kind, mul-add-lt row z.columns column z.rows row_in column_in) in
    ap (λ (l : List Zone). get_or (flat_map zone_traps l) (first + place) none) (sym e)
    ∙ ap (λ (n : ℕ). get_or (flat_map zone_traps zs) (n + place) none) before
    ∙ get_or-flat_map zone_traps zs k place d none lt inside
    ∙ zone_point z row column none kind row_in column_in
