-- The empty traps within reach, of a row, of a block and of all blocks.
use Rattle.std.proofs.Common.{◌≡◌, ℕ, zero, suc, ◌+◌, ◌-◌, ◌*◌, ◌/◌, ◌%◌, ◌<◌, ◌≤◌, ◌↔◌, inl, inr, Bool, true, false, cond, not, ◌&&◌, ◌==◌, IsTrue, is_none, List, [], ◌∷◌, ◌++◌, Option, Some, None, length, get_or, map, take, refl, sym, ap, ◌∙◌, arith}
use Rattle.std.specs.List.{filter, list_any, range_with_len, slice_get, sum_by}
use Rattle.std.specs.Option.{MatchOption}
use Rattle.std.proofs.lemmas.Bool.{cases_lt, eq-eqb, le-leb, lt-leb}
use Rattle.std.proofs.lemmas.List.{map-append, append-nil}
use Rattle.std.proofs.lemmas.List.Elements.{filter-append}
use Rattle.std.proofs.lemmas.List.Folds.{list_any-from_Any}
use Rattle.std.proofs.lemmas.List.Sums.{sum_by_more}
use Rattle.std.proofs.lemmas.Nat.{div_below, div-add-mod', le-div, mod_below, mul-le}
use Rattle.std.proofs.lemmas.Option.{get_or_from_slice_get, slice_get_within}
use Rattle.zac_arch.specs.Architecture.{Architecture}
use Rattle.zac_arch.specs.Distances.{difference}
use Rattle.zac_arch.specs.declared.place.Point.{Point}
use Rattle.zac_world.specs.Blocks.{AreBlocks, IsBlock, size_of}
use Rattle.zac_world.specs.Places.{Places, is_empty}
use Rattle.zac_world.specs.Nearest.{distance_from}
use Rattle.zac_world.specs.Walks.{candidate, candidates_in, is_within}
use Rattle.zac_world.specs.declared.block.Block.{Block}
use Rattle.zac_world.specs.declared.walk.Candidate.{Candidate}
use Rattle.zac_world.specs.declared.walk.Disc.{Disc}

-- a range in two parts
range-split : (s m n : ℕ) → range_with_len s (m + n) ≡ range_with_len s m ++ range_with_len (s + m) n
range-split s zero n =
    let e : zero + n ≡ n = omega arith in
    let f : s ≡ s + zero = omega arith in
    ap (range_with_len s) e ∙ ap (λ (r : ℕ). range_with_len r n) f
range-split s (suc m) n =
    let e : suc m + n ≡ suc (m + n) = omega arith in
    let f : (s + 1) + m ≡ s + suc m = omega arith in
    ap (range_with_len s) e ∙ ap (λ (l : List ℕ). s ∷ l) (range-split (s + 1) m n ∙ ap (λ (r : ℕ). range_with_len (s + 1) m ++ range_with_len r n) f)

pub split : (p : Places) (d : Disc) (s m n : ℕ) → candidates_in p d s (m + n) ≡ candidates_in p d s m ++ candidates_in p d (s + m) n
split p d s m n =
    let near : ℕ → Bool = λ t. is_within p.architecture d t && is_empty p.traps t in
    let of : ℕ → Candidate = candidate p.architecture d.centre in
    ap (λ (l : List ℕ). map of (filter near l)) (range-split s m n)
    ∙ ap (map of) (filter-append near (range_with_len s m) (range_with_len (s + m) n))
    ∙ map-append of (filter near (range_with_len s m)) (filter near (range_with_len (s + m) n))

-- no trap within reach
pub none_within : (p : Places) (d : Disc) (s n : ℕ) → ((i : ℕ) → i < n → is_within p.architecture d (s + i) ≡ false) → candidates_in p d s n ≡ []
none_within p d s zero out = refl
none_within p d s (suc n) out =
    let here : is_within p.architecture d s ≡ false = (let e : s ≡ s + 0 = omega arith in ap (is_within p.architecture d) e ∙ out 0 (omega arith)) in
    let rest : candidates_in p d (s + 1) n ≡ [] = none_within p d (s + 1) n (λ i lt. let e : (s + 1) + i ≡ s + (i + 1) = omega arith in ap (is_within p.architecture d) e ∙ out (i + 1) (omega arith)) in
    ap (λ (b : Bool). map (candidate p.architecture d.centre) (cond (b && is_empty p.traps s) (s ∷ filter (λ (t : ℕ). is_within p.architecture d t && is_empty p.traps t) (range_with_len (s + 1) n)) (filter (λ (t : ℕ). is_within p.architecture d t && is_empty p.traps t) (range_with_len (s + 1) n)))) here
    ∙ rest

-- no further trap within reach
pub none_further : (p : Places) (d : Disc) (s m n : ℕ) → m ≤ n → ((i : ℕ) → m ≤ i → i < n → is_within p.architecture d (s + i) ≡ false) → candidates_in p d s n ≡ candidates_in p d s m
none_further p d s m n le out =
    let e : n ≡ m + (n - m) = omega arith in
    ap (candidates_in p d s) e ∙ split p d s m (n - m)
    ∙ ap (λ (l : List Candidate). candidates_in p d s m ++ l) (none_within p d (s + m) (n - m) (λ i lt. let f : (s + m) + i ≡ s + (m + i) = omega arith in ap (is_within p.architecture d) f ∙ out (m + i) (omega arith) (omega arith)))
    ∙ append-nil (candidates_in p d s m)

-- one trap more, which is within reach
pub one_within : (p : Places) (d : Disc) (s i : ℕ) (b : Bool) → is_within p.architecture d (s + i) ≡ true → is_empty p.traps (s + i) ≡ b → candidates_in p d s (i + 1) ≡ candidates_in p d s i ++ cond b (candidate p.architecture d.centre (s + i) ∷ []) []
one_within p d s i b near test =
    let t = s + i in
    let of : ℕ → Candidate = candidate p.architecture d.centre in
    split p d s i 1
    ∙ ap (λ (w : Bool). candidates_in p d s i ++ map of (cond (w && is_empty p.traps t) (t ∷ []) [])) near
    ∙ ap (λ (e : Bool). candidates_in p d s i ++ map of (cond e (t ∷ []) [])) test
    ∙ ap (λ (l : List Candidate). candidates_in p d s i ++ l) (chosen b)
  where
    chosen : (c : Bool) → map (candidate p.architecture d.centre) (cond c ((s + i) ∷ []) []) ≡ cond c (candidate p.architecture d.centre (s + i) ∷ []) []
    chosen true = refl
    chosen false = refl

-- how far the trap at a row and a column of a block is
pub distance_in : (a : Architecture) (b : Block) (p : Point) (row column : ℕ) → IsBlock a b → row < b.zone.rows → column < b.zone.columns →
    distance_from a p (b.first + (row * b.zone.columns + column)) ≡ difference p.x (b.zone.x + column * b.zone.dx) + difference p.y (b.zone.y + row * b.zone.dy)
distance_in a b p row column block row_in column_in =
    ap (λ (q : Point). difference p.x q.x + difference p.y q.y) (block.stands row column row_in column_in)

-- which of the numbers a step apart are near, as a span
abbrev pub IsSpan : ℕ → ℕ → ℕ → ℕ → ℕ → ℕ → ℕ → Type 0
IsSpan first step count n reach begin end =
    (i : ℕ) → i < count → (difference n (first + i * step) ≤ reach) ↔ ((begin ≤ i) × (i < end))

-- how far the trap at a column of a row is
pub row_distance : (a : Architecture) (b : Block) (p : Point) (row column : ℕ) → IsBlock a b → row < b.zone.rows → column < b.zone.columns →
    distance_from a p ((b.first + row * b.zone.columns) + column) ≡ difference p.x (b.zone.x + column * b.zone.dx) + difference p.y (b.zone.y + row * b.zone.dy)
row_distance a b p row column block row_in column_in =
    let e : (b.first + row * b.zone.columns) + column ≡ b.first + (row * b.zone.columns + column) = omega arith in
    ap (distance_from a p) e ∙ distance_in a b p row column block row_in column_in

-- a row of a block that is too far up
pub row_too_far : (p : Places) (d : Disc) (b : Block) (row up : ℕ) → IsBlock p.architecture b → row < b.zone.rows → up ≡ difference d.centre.y (b.zone.y + row * b.zone.dy) → d.reach < up →
    candidates_in p d (b.first + row * b.zone.columns) b.zone.columns ≡ []
row_too_far p d b row up block row_in is far =
    none_within p d (b.first + row * b.zone.columns) b.zone.columns
    (λ i lt. lt-leb (distance_from p.architecture d.centre ((b.first + row * b.zone.columns) + i)) d.reach (omega (arith, row_distance p.architecture b d.centre row i block row_in lt)))

-- a column outside the span of a row is too far, and one inside is near
row_outside : (p : Places) (d : Disc) (b : Block) (row up begin end column : ℕ) → IsBlock p.architecture b → row < b.zone.rows → column < b.zone.columns → up ≡ difference d.centre.y (b.zone.y + row * b.zone.dy) → up ≤ d.reach →
    IsSpan b.zone.x b.zone.dx b.zone.columns d.centre.x (d.reach - up) begin end → ((begin ≤ column) × (column < end) → ⊥) →
    is_within p.architecture d ((b.first + row * b.zone.columns) + column) ≡ false
row_outside p d b row up begin end column block row_in column_in is near span out =
    let far : distance_from p.architecture d.centre ((b.first + row * b.zone.columns) + column) ≡ difference d.centre.x (b.zone.x + column * b.zone.dx) + up = row_distance p.architecture b d.centre row column block row_in column_in ∙ ap (λ (n : ℕ). difference d.centre.x (b.zone.x + column * b.zone.dx) + n) (sym is) in
    elim (cases_lt (d.reach - up) (difference d.centre.x (b.zone.x + column * b.zone.dx))) as (λ _. is_within p.architecture d ((b.first + row * b.zone.columns) + column) ≡ false) [
      | inl more ↦ lt-leb (distance_from p.architecture d.centre ((b.first + row * b.zone.columns) + column)) d.reach (omega (arith, far))
      | inr le ↦ absurd (out ((span column column_in).0 le))
    ]

pub row_inside : (p : Places) (d : Disc) (b : Block) (row up begin end column : ℕ) → IsBlock p.architecture b → row < b.zone.rows → column < b.zone.columns → up ≡ difference d.centre.y (b.zone.y + row * b.zone.dy) → up ≤ d.reach →
    IsSpan b.zone.x b.zone.dx b.zone.columns d.centre.x (d.reach - up) begin end → begin ≤ column → column < end →
    is_within p.architecture d ((b.first + row * b.zone.columns) + column) ≡ true
row_inside p d b row up begin end column block row_in column_in is near span from below =
    let far : distance_from p.architecture d.centre ((b.first + row * b.zone.columns) + column) ≡ difference d.centre.x (b.zone.x + column * b.zone.dx) + up = row_distance p.architecture b d.centre row column block row_in column_in ∙ ap (λ (n : ℕ). difference d.centre.x (b.zone.x + column * b.zone.dx) + n) (sym is) in
    let le = (span column column_in).1 (from, below) in
    le-leb (distance_from p.architecture d.centre ((b.first + row * b.zone.columns) + column)) d.reach (omega (arith, far))

pub row_before : (p : Places) (d : Disc) (b : Block) (row up begin end : ℕ) → IsBlock p.architecture b → row < b.zone.rows → up ≡ difference d.centre.y (b.zone.y + row * b.zone.dy) → up ≤ d.reach →
    IsSpan b.zone.x b.zone.dx b.zone.columns d.centre.x (d.reach - up) begin end → begin ≤ b.zone.columns →
    candidates_in p d (b.first + row * b.zone.columns) begin ≡ []
row_before p d b row up begin end block row_in is near span most =
    none_within p d (b.first + row * b.zone.columns) begin
    (λ i lt. row_outside p d b row up begin end i block row_in (omega arith) is near span (λ inside. let le = inside.0 in omega arith))

pub row_after : (p : Places) (d : Disc) (b : Block) (row up begin end column : ℕ) → IsBlock p.architecture b → row < b.zone.rows → up ≡ difference d.centre.y (b.zone.y + row * b.zone.dy) → up ≤ d.reach →
    IsSpan b.zone.x b.zone.dx b.zone.columns d.centre.x (d.reach - up) begin end → end ≤ column → column ≤ b.zone.columns →
    candidates_in p d (b.first + row * b.zone.columns) b.zone.columns ≡ candidates_in p d (b.first + row * b.zone.columns) column
row_after p d b row up begin end column block row_in is near span past most =
    none_further p d (b.first + row * b.zone.columns) column b.zone.columns most
    (λ i from lt. row_outside p d b row up begin end i block row_in lt is near span (λ inside. let below = inside.1 in omega arith))

-- the row and the column of a place of a block
pub record PlaceOf (b : Block) (i : ℕ) : Type 0 where
  pub row : ℕ
  pub column : ℕ
  pub row_is : row ≡ i / b.zone.columns
  pub row_in : row < b.zone.rows
  pub column_in : column < b.zone.columns
  pub is : i ≡ row * b.zone.columns + column

abbrev pub place_of : (b : Block) (i : ℕ) → 1 ≤ b.zone.columns → i < size_of b → PlaceOf b i
place_of b i some lt =
    record {
      row = i / b.zone.columns;
      column = i % b.zone.columns;
      row_is = refl;
      row_in = div_below i b.zone.columns b.zone.rows some lt;
      column_in = mod_below i b.zone.columns some;
      is = sym (div-add-mod' i b.zone.columns);
    }

pub place_distance : (a : Architecture) (b : Block) (p : Point) (i : ℕ) → IsBlock a b → (at : PlaceOf b i) →
    distance_from a p (b.first + i) ≡ difference p.x (b.zone.x + at.column * b.zone.dx) + difference p.y (b.zone.y + at.row * b.zone.dy)
place_distance a b p i block at =
    ap (λ (n : ℕ). distance_from a p (b.first + n)) at.is ∙ distance_in a b p at.row at.column block at.row_in at.column_in

-- no column of the block is nearer than this
abbrev pub IsAcross : Block → ℕ → ℕ → Type 0
IsAcross b x across = (i : ℕ) → i < b.zone.columns → across ≤ difference x (b.zone.x + i * b.zone.dx)

pub block_too_far : (p : Places) (d : Disc) (b : Block) (across : ℕ) → IsBlock p.architecture b → IsAcross b d.centre.x across → d.reach < across → candidates_in p d b.first (size_of b) ≡ []
block_too_far p d b across block least far =
    none_within p d b.first (size_of b)
    (λ i lt.
    let at = place_of b i block.field.some_column lt in
    lt-leb (distance_from p.architecture d.centre (b.first + i)) d.reach (omega (arith, place_distance p.architecture b d.centre i block at, least at.column at.column_in)))

block_outside : (p : Places) (d : Disc) (b : Block) (across begin end i : ℕ) → IsBlock p.architecture b → IsAcross b d.centre.x across → across ≤ d.reach →
    IsSpan b.zone.y b.zone.dy b.zone.rows d.centre.y (d.reach - across) begin end → i < size_of b → ((begin ≤ i / b.zone.columns) × (i / b.zone.columns < end) → ⊥) →
    is_within p.architecture d (b.first + i) ≡ false
block_outside p d b across begin end i block least near span lt out =
    let at = place_of b i block.field.some_column lt in
    let far = place_distance p.architecture b d.centre i block at in
    elim (cases_lt (d.reach - across) (difference d.centre.y (b.zone.y + at.row * b.zone.dy))) as (λ _. is_within p.architecture d (b.first + i) ≡ false) [
      | inl more ↦ lt-leb (distance_from p.architecture d.centre (b.first + i)) d.reach (omega (arith, far, least at.column at.column_in))
      | inr le ↦ absurd (out ((span at.row at.row_in).0 le))
    ]

pub block_before : (p : Places) (d : Disc) (b : Block) (across begin end : ℕ) → IsBlock p.architecture b → IsAcross b d.centre.x across → across ≤ d.reach →
    IsSpan b.zone.y b.zone.dy b.zone.rows d.centre.y (d.reach - across) begin end → begin ≤ b.zone.rows →
    candidates_in p d b.first (begin * b.zone.columns) ≡ []
block_before p d b across begin end block least near span most =
    none_within p d b.first (begin * b.zone.columns)
    (λ i lt. block_outside p d b across begin end i block least near span (omega (arith, mul-le begin b.zone.columns b.zone.rows b.zone.columns most (omega arith)))
    (λ inside. let from = inside.0 in omega (arith, div_below i b.zone.columns begin block.field.some_column lt)))

pub block_after : (p : Places) (d : Disc) (b : Block) (across begin end row : ℕ) → IsBlock p.architecture b → IsAcross b d.centre.x across → across ≤ d.reach →
    IsSpan b.zone.y b.zone.dy b.zone.rows d.centre.y (d.reach - across) begin end → end ≤ row → row ≤ b.zone.rows →
    candidates_in p d b.first (size_of b) ≡ candidates_in p d b.first (row * b.zone.columns)
block_after p d b across begin end row block least near span past most =
    none_further p d b.first (row * b.zone.columns) (size_of b) (mul-le row b.zone.columns b.zone.rows b.zone.columns most (omega arith))
    (λ i from lt. block_outside p d b across begin end i block least near span lt
    (λ inside. let below = inside.1 in omega (arith, le-div row i b.zone.columns block.field.some_column from)))

-- one row more
pub one_row : (p : Places) (d : Disc) (b : Block) (row : ℕ) → candidates_in p d b.first ((row + 1) * b.zone.columns) ≡ candidates_in p d b.first (row * b.zone.columns) ++ candidates_in p d (b.first + row * b.zone.columns) b.zone.columns
one_row p d b row =
    let e : (row + 1) * b.zone.columns ≡ row * b.zone.columns + b.zone.columns = omega arith in
    ap (candidates_in p d b.first) e ∙ split p d b.first (row * b.zone.columns) b.zone.columns

-- one block more
pub one_block : (p : Places) (d : Disc) (blocks : List Block) (k : ℕ) (b : Block) → AreBlocks p.architecture blocks → k < length blocks →
    candidates_in p d 0 (sum_by size_of (take (k + 1) blocks)) ≡ candidates_in p d 0 (sum_by size_of (take k blocks)) ++ candidates_in p d (get_or blocks k b).first (size_of (get_or blocks k b))
one_block p d blocks k b are lt =
    let m = sum_by size_of (take k blocks) in
    let n = size_of (get_or blocks k b) in
    let e : 0 + m ≡ (get_or blocks k b).first = omega (arith, are.in_turn k b lt) in
    ap (candidates_in p d 0) (sum_by_more size_of blocks k b lt) ∙ split p d 0 m n ∙ ap (λ (s : ℕ). candidates_in p d 0 m ++ candidates_in p d s n) e

-- a trap is empty exactly where no atom is found in it
pub empty_by_atom : (traps : List ℕ) (t : ℕ) (o : Option ℕ) → MatchOption o (IsTrue (is_empty traps t)) (λ q. slice_get traps q ≡ Some t) → is_empty traps t ≡ is_none o
empty_by_atom traps t None found = found
empty_by_atom traps t (Some q) found =
    let taken : list_any (λ (x : ℕ). x == t) traps ≡ true = list_any-from_Any (λ (x : ℕ). x == t) traps (q, t, slice_get_within traps q t found, get_or_from_slice_get traps q t t found, eq-eqb t t refl) in
    ap not taken
