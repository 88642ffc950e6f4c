-- The nearest empty storage traps are the first of those around a point, once these are sorted.
use Rattle.std.proofs.Common.{◌≡◌, ◌==◌, ℕ, zero, suc, ◌+◌, ◌-◌, ◌<◌, ◌≤◌, ◌⊎◌, inl, inr, true, false, cond, List, [], ◌∷◌, length, get_or, min, max, take, sym, ap, ◌∙◌, subst, arith}
use Rattle.std.specs.List.{All, AllPairs, sum_by}
use Rattle.std.specs.Ordering.{is_lt, nat_cmp, ordering_then}
use Rattle.std.specs.declared.cmp.Ordering.TheVariants.{Less, Equal, Greater}
use Rattle.std.proofs.lemmas.Bool.{cases_lt, cases_order, eq-eqb, le-ltb, lt-ltb}
use Rattle.std.proofs.lemmas.List.Sums.{sum_by-cons}
use Rattle.std.proofs.lemmas.Cmp.{nat_cmp_total, on_total, then_total}
use Rattle.std.proofs.lemmas.List.Sorted.{ranks_by, sorted_far}
use Rattle.zac_arch.specs.Architecture.{Architecture, storage_count}
use Rattle.zac_arch.specs.declared.place.Point.{Point}
use Rattle.zac_world.specs.Around.{AreAround, IsBefore, IsBetween}
use Rattle.zac_world.specs.Blocks.{AreBlocks, block_distance, size_of}
use Rattle.zac_world.specs.Places.{Places}
use Rattle.zac_world.specs.Nearest.{distance_from}
use Rattle.zac_world.specs.Walks.{candidates_in}
use Rattle.zac_world.specs.declared.block.Block.{Block}
use Rattle.zac_world.specs.declared.walk.Candidate.{Candidate}
use Rattle.std.proofs.lemmas.List.{get_or_default}
use Rattle.zac_world.proofs.WalkFacts.{place_of, place_distance}

-- bounds of the blocks so far, and of one more
pub between_more : (blocks : List Block) (from : Point) (k least greatest l g new_least new_greatest : ℕ) (d : Block) →
    ((i : ℕ) (b : Block) → i < k → IsBetween from least greatest (get_or blocks i b)) →
    ((row column : ℕ) → row < (get_or blocks k d).zone.rows → column < (get_or blocks k d).zone.columns → l ≤ block_distance (get_or blocks k d) row column from) →
    ((row column : ℕ) → row < (get_or blocks k d).zone.rows → column < (get_or blocks k d).zone.columns → block_distance (get_or blocks k d) row column from ≤ g) →
    k < length blocks → new_least ≡ min least l → new_greatest ≡ max greatest g →
    (i : ℕ) (b : Block) → i < k + 1 → IsBetween from new_least new_greatest (get_or blocks i b)
between_more blocks from k least greatest l g new_least new_greatest d so_far low high within least_is greatest_is i b lt =
    elim (cases_lt i k) as (λ _. IsBetween from new_least new_greatest (get_or blocks i b)) [
      | inl less ↦
          let bounds = so_far i b less in
          record {
            from_least = λ row column row_in column_in. omega (arith, bounds.from_least row column row_in column_in);
            to_greatest = λ row column row_in column_in. omega (arith, bounds.to_greatest row column row_in column_in);
          }
      | inr more ↦
          let here : IsBetween from new_least new_greatest (get_or blocks k d) = record {
            from_least = λ row column row_in column_in. omega (arith, low row column row_in column_in);
            to_greatest = λ row column row_in column_in. omega (arith, high row column row_in column_in);
          } in
          let last : k ≡ i = omega arith in
          subst (IsBetween from new_least new_greatest) (get_or_default blocks k d b within ∙ ap (λ (n : ℕ). get_or blocks n b) last) here
    ]

-- the traps within a reach, where they are enough
pub enough_around : (p : Places) (centre : Point) (count : ℕ) (found : List Candidate) (reach : ℕ) → found ≡ candidates_in p (record { centre = centre; reach = reach }) 0 (storage_count p.architecture) → count ≤ length found → AreAround p centre count found
enough_around p centre count found reach are enough =
    record { reach = reach; are = are; enough = inl enough }

-- what holds of each trap of each block holds of each storage trap
pub in_blocks : (P : ℕ → Type 0) (blocks : List Block) (start : ℕ) → ((k : ℕ) (b : Block) → k < length blocks → (get_or blocks k b).first ≡ start + sum_by size_of (take k blocks)) →
    ((k : ℕ) (b : Block) → k < length blocks → (i : ℕ) → i < size_of (get_or blocks k b) → P ((get_or blocks k b).first + i)) → (t : ℕ) → start ≤ t → t < start + sum_by size_of blocks → P t
in_blocks P [] start in_turn each t from lt = absurd (omega arith)
in_blocks P (b ∷ blocks) start in_turn each t from lt =
    let first : b.first ≡ start = in_turn zero b (omega arith) ∙ omega arith in
    elim (cases_lt t (start + size_of b)) as (λ _. P t) [
      | inl here ↦
          let e : b.first + (t - start) ≡ t = omega arith in
          subst P e (each zero b (omega arith) (t - start) (omega arith))
      | inr later ↦
          in_blocks P blocks (start + size_of b)
          (λ k c k_in. in_turn (suc k) c (omega arith) ∙ omega (arith, sum_by-cons size_of b (take k blocks)))
          (λ k c k_in. each (suc k) c (omega arith)) t later (omega (arith, sum_by-cons size_of b blocks))
    ]

within_blocks : (a : Architecture) (centre : Point) (reach : ℕ) (blocks : List Block) → AreBlocks a blocks →
    ((k : ℕ) (b : Block) → k < length blocks → (i : ℕ) → i < size_of (get_or blocks k b) → distance_from a centre ((get_or blocks k b).first + i) ≤ reach) →
    (t : ℕ) → t < sum_by size_of blocks → distance_from a centre t ≤ reach
within_blocks a centre reach blocks are near t lt =
    in_blocks (λ (u : ℕ). distance_from a centre u ≤ reach) blocks 0 (λ k b k_in. are.in_turn k b k_in ∙ omega arith) near t (omega arith) (omega arith)

-- where the reach is at least the greatest distance, they are all
pub all_around : (p : Places) (centre : Point) (count : ℕ) (found : List Candidate) (blocks : List Block) (least greatest reach : ℕ) → found ≡ candidates_in p (record { centre = centre; reach = reach }) 0 (storage_count p.architecture) →
    AreBlocks p.architecture blocks → All (IsBetween centre least greatest) blocks → greatest ≤ reach → AreAround p centre count found
all_around p centre count found blocks least greatest reach are are_blocks between far =
    record {
      reach = reach;
      are = are;
      enough = inr (λ t lt. within_blocks p.architecture centre reach blocks are_blocks
          (λ k b k_in i i_in.
          let block = are_blocks.each k b k_in in
          let at = place_of (get_or blocks k b) i block.field.some_column i_in in
          omega (arith, place_distance p.architecture (get_or blocks k b) centre i block at, (between k b k_in).to_greatest at.row at.column at.row_in at.column_in))
          t (omega (arith, are_blocks.whole)));
    }

cmp_less : (a b : ℕ) → a < b → nat_cmp a b ≡ Less
cmp_less a b lt = ap (λ t. cond t Less (cond (a == b) Equal Greater)) (lt-ltb a b lt)

cmp_equal : (a b : ℕ) → a ≡ b → nat_cmp a b ≡ Equal
cmp_equal a b e =
    ap (λ t. cond t Less (cond (a == b) Equal Greater)) (le-ltb a b (omega arith)) ∙ ap (λ t. cond t Equal Greater) (eq-eqb a b e)

not_before : (a b m n : ℕ) → is_lt (ordering_then (nat_cmp a b) (nat_cmp m n)) ≡ false → (b < a) ⊎ ((b ≡ a) × (n ≤ m))
not_before a b m n h =
    elim (cases_order a b) [
      | inl e ↦ elim (cases_lt m n) [
        | inl lt ↦
            let holds : is_lt (ordering_then (nat_cmp a b) (nat_cmp m n)) ≡ true =
            ap (λ o. is_lt (ordering_then o (nat_cmp m n))) (cmp_equal a b e) ∙ ap is_lt (cmp_less m n lt) in
            absurd (let x : true ≡ false = sym holds ∙ h in cc)
        | inr ge ↦ inr (sym e, ge)
      ]
      | inr w ↦ elim w [
        | inl lt ↦
            let holds : is_lt (ordering_then (nat_cmp a b) (nat_cmp m n)) ≡ true =
            ap (λ o. is_lt (ordering_then o (nat_cmp m n))) (cmp_less a b lt) in
            absurd (let x : true ≡ false = sym holds ∙ h in cc)
        | inr gt ↦ inl gt
      ]
    ]

-- candidates that are sorted by distance, then number
pub sorted_before : (xs : List Candidate) → ((k : ℕ) (d : Candidate) → 0 ≤ k → k + 1 < length xs → is_lt (ordering_then (nat_cmp (get_or xs (k + 1) d).distance (get_or xs k d).distance) (nat_cmp (get_or xs (k + 1) d).trap.0 (get_or xs k d).trap.0)) ≡ false) → AllPairs IsBefore xs
sorted_before xs sorted i j d lt j_in =
    let order = then_total (on_total (λ (c : Candidate). c.distance) nat_cmp_total) (on_total (λ (c : Candidate). c.trap.0) nat_cmp_total) in
    let far = sorted_far _ (ranks_by order (λ (c : Candidate). c)) xs sorted i j d (omega arith) j_in in
    not_before (get_or xs j d).distance (get_or xs i d).distance (get_or xs j d).trap.0 (get_or xs i d).trap.0 far
