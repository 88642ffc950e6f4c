-- The nearest free trap: columns of a row, rows of a block and blocks that are no better than what was found.
use Rattle.std.proofs.Common.{◌≡◌, ℕ, ◌+◌, ◌-◌, ◌*◌, ◌<◌, ◌≤◌, ◌⊎◌, inl, inr, Bool, true, false, not, List, Option, Some, None, length, get_or, refl, sym, ap, ◌∙◌, subst, arith}
use Rattle.std.specs.Prelude.{IfSome}
use Rattle.std.specs.List.{Contains, range_with_len, slice_index_or}
use Rattle.std.specs.Option.{MatchOption}
use Rattle.std.proofs.lemmas.Bool.{and_from, and_parts, cases_lt, not_from_false}
use Rattle.std.proofs.lemmas.List.{get_or_default}
use Rattle.std.proofs.lemmas.List.FromFn.{get_or-range_with_len, length-range_with_len}
use Rattle.std.proofs.lemmas.Nat.{mul-le}
use Rattle.zac_arch.specs.Architecture.{storage_count}
use Rattle.zac_arch.specs.Distances.{difference}
use Rattle.zac_arch.specs.declared.place.Point.{Point}
use Rattle.zac_world.specs.Blocks.{AreBlocks, IsBlock, block_distance, size_of}
use Rattle.zac_world.specs.Free.{AreNoBetter, HasLimits, IsFirst, IsFirstFree, IsFound, IsOn, is_free, rank, rank_of}
use Rattle.zac_world.specs.Nearest.{IsFree, IsNearestFree, distance_from}
use Rattle.zac_world.specs.Places.{Places, is_empty}
use Rattle.zac_world.specs.declared.block.Block.{Block}
use Rattle.zac_world.specs.declared.free.Side.{Side}
use Rattle.zac_world.specs.declared.free.Side.TheVariants.{Left, Right}
use Rattle.zac_world.specs.declared.walk.Candidate.{Candidate}
use Rattle.zac_world.proofs.ListFacts.{contains_filtered, contains_from_filter}
use Rattle.zac_world.proofs.NearestFacts.{in_blocks}
use Rattle.zac_world.proofs.RankFacts.{below_storage}
use Rattle.zac_world.proofs.WalkFacts.{place_of, row_distance}

-- ---- columns of a row

-- a column further to the left is farther, whatever its number
pub left_farther : (n x dx i j up first : ℕ) → 1 ≤ dx → i ≤ j → x + j * dx ≤ n → first + j < 65536 → (difference n (x + j * dx) + up) * 65536 + (first + j) ≤ (difference n (x + i * dx) + up) * 65536 + (first + i)
left_farther n x dx i j up first rises le left few =
    elim (cases_lt i j) as (λ _. (difference n (x + j * dx) + up) * 65536 + (first + j) ≤ (difference n (x + i * dx) + up) * 65536 + (first + i)) [
      | inl less ↦ omega (arith, mul-le (i + 1) dx j dx (omega arith) (omega arith))
      | inr more ↦
          let same : i ≡ j = omega arith in
          subst (λ (k : ℕ). (difference n (x + j * dx) + up) * 65536 + (first + j) ≤ (difference n (x + k * dx) + up) * 65536 + (first + k)) (sym same) (omega arith)
    ]

pub right_farther : (n x dx i j up first : ℕ) → j ≤ i → n ≤ x + j * dx → (difference n (x + j * dx) + up) * 65536 + (first + j) ≤ (difference n (x + i * dx) + up) * 65536 + (first + i)
right_farther n x dx i j up first le right = omega (arith, mul-le j dx i dx le (omega arith))

-- the rank of the trap at a column of a row
pub rank_at : (p : Places) (from : Point) (b : Block) (row column : ℕ) → IsBlock p.architecture b → row < b.zone.rows → column < b.zone.columns →
    rank p from ((b.first + row * b.zone.columns) + column) ≡ block_distance b row column from * 65536 + ((b.first + row * b.zone.columns) + column)
rank_at p from b row column block row_in column_in =
    ap (λ (n : ℕ). n * 65536 + ((b.first + row * b.zone.columns) + column)) (row_distance p.architecture b from row column block row_in column_in)

-- the numbers of a row are those of its block
pub in_row : (b : Block) (row column : ℕ) → row < b.zone.rows → column < b.zone.columns → (b.first + row * b.zone.columns) + column < b.first + size_of b
in_row b row column row_in column_in = omega (arith, mul-le (row + 1) b.zone.columns b.zone.rows b.zone.columns (omega arith) (omega arith))

pub found_at : (p : Places) (marks : List Bool) (from : Point) (b : Block) (row column : ℕ) (c : Candidate) → IsBlock p.architecture b → row < b.zone.rows → column < b.zone.columns →
    is_free p marks ((b.first + row * b.zone.columns) + column) ≡ true → c.distance ≡ block_distance b row column from → c.trap.0 ≡ (b.first + row * b.zone.columns) + column → HasLimits c → IsFound p marks from c
found_at p marks from b row column c block row_in column_in free far number limits =
    record {
      limits = limits;
      in_storage = omega (arith, in_row b row column row_in column_in, block.storage, number);
      free = subst (λ (t : ℕ). is_free p marks t ≡ true) (sym number) free;
      distance_is = far ∙ sym (row_distance p.architecture b from row column block row_in column_in) ∙ ap (distance_from p.architecture from) (sym number);
    }

pub found_one : (p : Places) (marks : List Bool) (from : Point) (best result : Option Candidate) (c : Candidate) → IfSome best (IsFound p marks from) → IsFound p marks from c → (result ≡ best) ⊎ (result ≡ Some c) → IfSome result (IsFound p marks from)
found_one p marks from best result c old new one =
    elim one as (λ _. IfSome result (IsFound p marks from)) [
      | inl same ↦ subst (λ (o : Option Candidate). IfSome o (IsFound p marks from)) (sym same) old
      | inr other ↦ subst (λ (o : Option Candidate). IfSome o (IsFound p marks from)) (sym other) new
    ]

pub not_both : {P : Type 0} (b : Bool) → b ≡ true → b ≡ false → P
not_both b holds fails = absurd (let both : true ≡ false = sym holds ∙ fails in cc)

-- the columns on one side of the point are no better than the first free one of them on the way outward
pub columns_done : (p : Places) (marks : List Bool) (from : Point) (b : Block) (row begin end t best : ℕ) (side : Side) → IsBlock p.architecture b → row < b.zone.rows → end ≤ b.zone.columns →
    ((i : ℕ) → begin ≤ i → i < end → IsOn side b from i) → IsFirstFree p marks side ((b.first + row * b.zone.columns) + begin) ((b.first + row * b.zone.columns) + end) t →
    best ≤ block_distance b row (t - (b.first + row * b.zone.columns)) from * 65536 + t →
    (i : ℕ) → begin ≤ i → i < end → is_free p marks ((b.first + row * b.zone.columns) + i) ≡ true → best ≤ rank p from ((b.first + row * b.zone.columns) + i)
columns_done p marks from b row begin end t best Left block row_in end_in on found here i ge lt free =
    let first = b.first + row * b.zone.columns in
    let k = t - first in
    let after : first + i ≤ t = found.first (first + i) (omega arith) (omega arith) free in
    let k_in : k < end = omega (arith, found.from_begin, found.before_end) in
    omega (
      arith,
      here,
      rank_at p from b row i block row_in (omega arith),
      left_farther from.x b.zone.x b.zone.dx i k (difference from.y (b.zone.y + row * b.zone.dy)) first block.field.columns_rise (omega arith) (on k (omega arith) k_in) (omega (arith, in_row b row k row_in (omega arith), block.few)),
    )
columns_done p marks from b row begin end t best Right block row_in end_in on found here i ge lt free =
    let first = b.first + row * b.zone.columns in
    let k = t - first in
    let before : t ≤ first + i = found.first (first + i) (omega arith) (omega arith) free in
    let k_ge : begin ≤ k = omega (arith, found.from_begin) in
    omega (
      arith,
      here,
      found.from_begin,
      rank_at p from b row i block row_in (omega arith),
      right_farther from.x b.zone.x b.zone.dx i k (difference from.y (b.zone.y + row * b.zone.dy)) first (omega arith) (on k k_ge (omega arith)),
    )

-- ---- rows of a block

-- a trap that is farther than the reach
pub beyond : (p : Places) (from : Point) (b : Block) (row column reach best : ℕ) → IsBlock p.architecture b → row < b.zone.rows → column < b.zone.columns → best ≤ (reach + 1) * 65536 → reach < block_distance b row column from →
    best ≤ rank p from ((b.first + row * b.zone.columns) + column)
beyond p from b row column reach best block row_in column_in within far =
    omega (arith, rank_at p from b row column block row_in column_in, far)

-- the rows that are left at a step are farther than so many steps
pub row_farther : (n y dy row middle step count : ℕ) → row < count → ((i : ℕ) → i < middle → y + i * dy < n) → ((i : ℕ) → middle ≤ i → i < count → n ≤ y + i * dy) → (row + step < middle) ⊎ (middle + step ≤ row) → step * dy ≤ difference n (y + row * dy)
row_farther n y dy row middle step count row_in below others (inl low) =
    omega (arith, below (row + step) low)
row_farther n y dy row middle step count row_in below others (inr high) =
    omega (arith, others middle (omega arith) (omega arith), mul-le (middle + step) dy row dy high (omega arith))

-- the rows around the middle up to a step
abbrev pub RowsSoFar : Places → List Bool → Point → Block → ℕ → ℕ → Option Candidate → Type 0
RowsSoFar p marks from b middle step best =
    (row : ℕ) → row < b.zone.rows → middle ≤ row + step → row < middle + step → AreNoBetter p marks from best (b.first + row * b.zone.columns) b.zone.columns

-- where a place of a block is no better by its row and column
by_place : (p : Places) (marks : List Bool) (from : Point) (b : Block) (best : Option Candidate) → IsBlock p.architecture b →
    ((row : ℕ) → row < b.zone.rows → AreNoBetter p marks from best (b.first + row * b.zone.columns) b.zone.columns) → AreNoBetter p marks from best b.first (size_of b)
by_place p marks from b best block rows i lt free =
    let at = place_of b i block.field.some_column lt in
    let e : (b.first + at.row * b.zone.columns) + at.column ≡ b.first + i = omega (arith, at.is) in
    subst (λ (t : ℕ). rank_of best ≤ rank p from t) e
    (rows at.row at.row_in at.column at.column_in (subst (λ (t : ℕ). is_free p marks t ≡ true) (sym e) free))

pub block_pruned : (p : Places) (marks : List Bool) (from : Point) (b : Block) (middle step reach : ℕ) (best : Option Candidate) → IsBlock p.architecture b →
    ((i : ℕ) → i < middle → b.zone.y + i * b.zone.dy < from.y) → ((i : ℕ) → middle ≤ i → i < b.zone.rows → from.y ≤ b.zone.y + i * b.zone.dy) →
    RowsSoFar p marks from b middle step best → rank_of best ≤ (reach + 1) * 65536 → reach < step * b.zone.dy → AreNoBetter p marks from best b.first (size_of b)
block_pruned p marks from b middle step reach best block below others so_far within far =
    by_place p marks from b best block
    (λ row row_in column column_in free.
    elim (cases_lt (row + step) middle) as (λ _. rank_of best ≤ rank p from ((b.first + row * b.zone.columns) + column)) [
      | inl low ↦
          beyond p from b row column reach (rank_of best) block row_in column_in within
          (omega (arith, row_farther from.y b.zone.y b.zone.dy row middle step b.zone.rows row_in below others (inl low)))
      | inr high ↦ elim (cases_lt row (middle + step)) as (λ _. rank_of best ≤ rank p from ((b.first + row * b.zone.columns) + column)) [
        | inl near ↦ so_far row row_in high near column column_in free
        | inr past ↦
            beyond p from b row column reach (rank_of best) block row_in column_in within
            (omega (arith, row_farther from.y b.zone.y b.zone.dy row middle step b.zone.rows row_in below others (inr past)))
      ]
    ])

pub block_done : (p : Places) (marks : List Bool) (from : Point) (b : Block) (middle step : ℕ) (best : Option Candidate) → IsBlock p.architecture b → middle ≤ b.zone.rows → b.zone.rows ≤ step →
    RowsSoFar p marks from b middle step best → AreNoBetter p marks from best b.first (size_of b)
block_done p marks from b middle step best block middle_in all so_far =
    by_place p marks from b best block (λ row row_in. so_far row row_in (omega arith) (omega arith))

-- two rows more
pub rows_more : (p : Places) (marks : List Bool) (from : Point) (b : Block) (middle step below : ℕ) (old mid new : Option Candidate) →
    RowsSoFar p marks from b middle step old → rank_of mid ≤ rank_of old → rank_of new ≤ rank_of mid → (step < middle → below + step + 1 ≡ middle) →
    (below < b.zone.rows → AreNoBetter p marks from mid (b.first + below * b.zone.columns) b.zone.columns) →
    (middle + step < b.zone.rows → AreNoBetter p marks from new (b.first + (middle + step) * b.zone.columns) b.zone.columns) → RowsSoFar p marks from b middle (step + 1) new
rows_more p marks from b middle step below old mid new so_far less lesser at_below lower upper row row_in ge lt i i_in free =
    elim (cases_lt (row + step) middle) as (λ _. rank_of new ≤ rank p from ((b.first + row * b.zone.columns) + i)) [
      | inl low ↦
          let same : row ≡ below = omega (arith, at_below (omega arith)) in
          let here : AreNoBetter p marks from mid (b.first + row * b.zone.columns) b.zone.columns =
          subst (λ (r : ℕ). AreNoBetter p marks from mid (b.first + r * b.zone.columns) b.zone.columns) (sym same) (lower (subst (λ (r : ℕ). r < b.zone.rows) same row_in)) in
          omega (arith, here i i_in free)
      | inr high ↦ elim (cases_lt row (middle + step)) as (λ _. rank_of new ≤ rank p from ((b.first + row * b.zone.columns) + i)) [
        | inl near ↦ omega (arith, so_far row row_in high near i i_in free)
        | inr past ↦
            let same : row ≡ middle + step = omega arith in
            let here : AreNoBetter p marks from new (b.first + row * b.zone.columns) b.zone.columns =
            subst (λ (r : ℕ). AreNoBetter p marks from new (b.first + r * b.zone.columns) b.zone.columns) (sym same) (upper (subst (λ (r : ℕ). r < b.zone.rows) same row_in)) in
            omega (arith, here i i_in free)
      ]
    ]

-- ---- blocks

pub block_more : (p : Places) (marks : List Bool) (from : Point) (blocks : List Block) (n : ℕ) (d : Block) (old new : Option Candidate) → n < length blocks → rank_of new ≤ rank_of old →
    ((k : ℕ) (b : Block) → k < n → AreNoBetter p marks from old (get_or blocks k b).first (size_of (get_or blocks k b))) →
    AreNoBetter p marks from new (get_or blocks n d).first (size_of (get_or blocks n d)) →
    (k : ℕ) (b : Block) → k < n + 1 → AreNoBetter p marks from new (get_or blocks k b).first (size_of (get_or blocks k b))
block_more p marks from blocks n d old new within less so_far here k b lt =
    elim (cases_lt k n) as (λ _. AreNoBetter p marks from new (get_or blocks k b).first (size_of (get_or blocks k b))) [
      | inl before ↦ λ i i_in free. omega (arith, so_far k b before i i_in free)
      | inr last ↦
          let e : n ≡ k = omega arith in
          subst (λ (x : Block). AreNoBetter p marks from new x.first (size_of x)) (get_or_default blocks n d b within ∙ ap (λ (j : ℕ). get_or blocks j b) e) here
    ]

pub blocks_done : (p : Places) (marks : List Bool) (from : Point) (blocks : List Block) (best : Option Candidate) → AreBlocks p.architecture blocks →
    ((k : ℕ) (b : Block) → k < length blocks → AreNoBetter p marks from best (get_or blocks k b).first (size_of (get_or blocks k b))) → AreNoBetter p marks from best 0 (storage_count p.architecture)
blocks_done p marks from blocks best are each t lt free =
    in_blocks (λ (s : ℕ). is_free p marks s ≡ true → rank_of best ≤ rank p from s) blocks 0
    (λ k b k_in. are.in_turn k b k_in ∙ omega arith) (λ k b k_in i i_in. each k b k_in i i_in)
    (0 + t) (omega arith) (omega (arith, are.whole)) free

-- ---- the answer

-- no trap is farther from a point of the field, or has a greater number
limits_at : (p : Places) (from : Point) (blocks : List Block) → AreBlocks p.architecture blocks → from.x ≤ 1000000 → from.y ≤ 1000000 → (t : ℕ) → t < storage_count p.architecture → (distance_from p.architecture from t ≤ 2000000) × (t < 65536)
limits_at p from blocks are x_most y_most t lt =
    in_blocks (λ (s : ℕ). (distance_from p.architecture from s ≤ 2000000) × (s < 65536)) blocks 0
    (λ k b k_in. are.in_turn k b k_in ∙ omega arith)
    (λ k b k_in i i_in.
    let block = are.each k b k_in in
    let one = get_or blocks k b in
    let at = place_of one i block.field.some_column i_in in
    let e : (one.first + at.row * one.zone.columns) + at.column ≡ one.first + i = omega (arith, at.is) in
    let far = row_distance p.architecture one from at.row at.column block at.row_in at.column_in in
    let most : distance_from p.architecture from ((one.first + at.row * one.zone.columns) + at.column) ≤ 2000000 =
    omega (arith, far, block.field.last_column, block.field.last_row, mul-le at.column one.zone.dx (one.zone.columns - 1) one.zone.dx (omega (arith, at.column_in)) (omega arith), mul-le at.row one.zone.dy (one.zone.rows - 1) one.zone.dy (omega (arith, at.row_in)) (omega arith)) in
    (subst (λ (s : ℕ). distance_from p.architecture from s ≤ 2000000) e most, omega (arith, block.few)))
    t (omega arith) (omega (arith, are.whole))

free_from : (p : Places) (marks : List Bool) (t : ℕ) → IsFree p marks t → (t < storage_count p.architecture) × (is_free p marks t ≡ true)
free_from p marks t free =
    let empty = (contains_from_filter (is_empty p.traps) t (range_with_len 0 (storage_count p.architecture)) free.0).1 in
    (below_storage p t free.0, and_from (is_empty p.traps t) (not (slice_index_or marks t false)) empty (not_from_false (slice_index_or marks t false) free.1))

to_free : (p : Places) (marks : List Bool) (t : ℕ) → t < storage_count p.architecture → is_free p marks t ≡ true → IsFree p marks t
to_free p marks t lt free =
    let n = storage_count p.architecture in
    let parts = and_parts (is_empty p.traps t) (not (slice_index_or marks t false)) free in
    let all : Contains (range_with_len 0 n) t = (t, omega (arith, length-range_with_len 0 n), get_or-range_with_len 0 n t t lt ∙ omega arith) in
    (contains_filtered (is_empty p.traps) t (range_with_len 0 n) all parts.0, unmarked (slice_index_or marks t false) parts.1)
  where
    unmarked : (b : Bool) → not b ≡ true → b ≡ false
    unmarked true e = sym e
    unmarked false e = refl

in_order : (c d t u : ℕ) → c * 65536 + t ≤ d * 65536 + u → t < 65536 → u < 65536 → (c < d) ⊎ ((c ≡ d) × (t ≤ u))
in_order c d t u le t_few u_few =
    elim (cases_lt c d) as (λ _. (c < d) ⊎ ((c ≡ d) × (t ≤ u))) [
      | inl less ↦ inl less
      | inr more ↦ let same : c ≡ d = omega arith in inr (same, omega arith)
    ]

pub nearest_by_rank : (p : Places) (marks : List Bool) (from : Point) (blocks : List Block) (best : Option Candidate) → AreBlocks p.architecture blocks → from.x ≤ 1000000 → from.y ≤ 1000000 →
    IfSome best (IsFound p marks from) → AreNoBetter p marks from best 0 (storage_count p.architecture) →
    MatchOption best ((t : ℕ) → IsFree p marks t → ⊥) (IsNearestFree p marks from)
nearest_by_rank p marks from blocks None are x_most y_most found none = λ t free.
    let facts = free_from p marks t free in
    let limits = limits_at p from blocks are x_most y_most t facts.0 in
    let e : t ≡ 0 + t = omega arith in
    let past : 2000001 * 65536 ≤ rank p from (0 + t) = none t facts.0 (subst (λ (s : ℕ). is_free p marks s ≡ true) e facts.1) in
    let past_t : 2000001 * 65536 ≤ rank p from t = subst (λ (s : ℕ). 2000001 * 65536 ≤ rank p from s) (sym e) past in
    omega (arith, past_t, limits.0, limits.1)
nearest_by_rank p marks from blocks (Some c) are x_most y_most found none =
    record {
      free = to_free p marks c.trap.0 found.in_storage found.free;
      distance_is = found.distance_is;
      least = λ t free.
          let facts = free_from p marks t free in
          let limits = limits_at p from blocks are x_most y_most t facts.0 in
          let e : t ≡ 0 + t = omega arith in
          let least : rank_of (Some c) ≤ rank p from (0 + t) = none t facts.0 (subst (λ (s : ℕ). is_free p marks s ≡ true) e facts.1) in
          in_order c.distance (distance_from p.architecture from t) c.trap.0 t (subst (λ (s : ℕ). rank_of (Some c) ≤ rank p from s) (sym e) least) found.limits.few limits.1;
    }
