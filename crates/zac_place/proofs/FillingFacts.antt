-- The storage traps in the order of their filling.
use Rattle.std.proofs.Common.{ℕ, ◌≡◌, ◌≢◌, ◌==◌, ◌+◌, ◌<◌, ◌≤◌, ◌⊎◌, inl, inr, true, false, List, [], ◌∷◌, ◌++◌, length, map, get_or, refl, sym, ap, ◌∙◌, subst, arith}
use Rattle.std.specs.Prelude.{All}
use Rattle.std.specs.Cmp.{IsTotalOrder}
use Rattle.std.specs.List.{AllPairs, Contains, range_with_len}
use Rattle.std.specs.List.Sorted.{IsPermutation, IsSorted}
use Rattle.std.specs.Ordering.{MatchOrdering, is_lt, nat_cmp, ordering_then}
use Rattle.std.specs.declared.cmp.Ordering.{Ordering}
use Rattle.std.specs.declared.cmp.Ordering.TheVariants.{Less, Equal, Greater}
use Rattle.std.proofs.lemmas.Bool.{cases_eq, eq-eqb, ne_eqb}
use Rattle.std.proofs.lemmas.Bool.Decides.{Decides-eqb}
use Rattle.std.proofs.lemmas.Cmp.{ranked, nat_cmp_total, on_total, then_total}
use Rattle.std.proofs.lemmas.List.{length-map, map-id, get_or-map}
use Rattle.std.proofs.lemmas.List.FromFn.{length-range_with_len, get_or-range_with_len, map-range_with_len_more}
use Rattle.std.proofs.lemmas.List.Sorted.{IsPermutation-map, All-permutation, Contains-permutation, ranks_by, sorted_far}
use Rattle.std.proofs.lemmas.Map.Keys.{IsDistinct-IsPermutation}
use Rattle.std.proofs.lemmas.Map.Made.{AllPairs-from_IsDistinct, IsDistinct-from_AllPairs}
use Rattle.zac_arch.specs.Architecture.{Architecture}
use Rattle.zac_place.specs.Homes.{IsFilledBefore, IsOrderBelow}
use Rattle.zac_place.specs.Ranks.{IsRanked, number_of}
use Rattle.zac_place.specs.declared.offsets.RankedTrap.{RankedTrap}

-- the order by rise, then run, then number
abbrev pub filling_cmp : RankedTrap → RankedTrap → Ordering
filling_cmp r s = ordering_then (nat_cmp r.rise s.rise) (ordering_then (nat_cmp r.run s.run) (nat_cmp r.number s.number))

filling_total : IsTotalOrder filling_cmp
filling_total = then_total (on_total (λ r. r.rise) nat_cmp_total) (then_total (on_total (λ r. r.run) nat_cmp_total) (on_total (λ r. r.number) nat_cmp_total))

-- what doesn't come first by one number and then by something else
not_first : (m n : ℕ) (o : Ordering) → is_lt (ordering_then (nat_cmp m n) o) ≡ false → (n < m) ⊎ ((m ≡ n) × (is_lt o ≡ false))
not_first m n o h = by_case (nat_cmp m n) (ranked m n (nat_cmp m n) refl) h
  where
    by_case : (r : Ordering) → MatchOrdering r (m < n) (m ≡ n) (n < m) → is_lt (ordering_then r o) ≡ false → (n < m) ⊎ ((m ≡ n) × (is_lt o ≡ false))
    by_case Less lt is = absurd (let wrong : true ≡ false = is in cc)
    by_case Equal same is = inr (same, is)
    by_case Greater gt is = inl gt

not_less : (m n : ℕ) → is_lt (nat_cmp m n) ≡ false → n ≤ m
not_less m n h = by_case (nat_cmp m n) (ranked m n (nat_cmp m n) refl) h
  where
    by_case : (r : Ordering) → MatchOrdering r (m < n) (m ≡ n) (n < m) → is_lt r ≡ false → n ≤ m
    by_case Less lt is = absurd (let wrong : true ≡ false = is in cc)
    by_case Equal same is = omega arith
    by_case Greater gt is = omega arith

-- of two traps in order, of which no number is that of the other, the first is filled before the second
filled_before : (a : Architecture) (r s : RankedTrap) → IsRanked a r → IsRanked a s → r.number ≢ s.number → is_lt (filling_cmp s r) ≡ false → IsFilledBefore a r.number s.number
filled_before a r s r_ranked s_ranked apart h =
    elim (not_first s.rise r.rise (ordering_then (nat_cmp s.run r.run) (nat_cmp s.number r.number)) h) [
      | inl lower ↦ inl (omega (arith, r_ranked.rise_is, s_ranked.rise_is))
      | inr (same_rise, rest) ↦ elim (not_first s.run r.run (nat_cmp s.number r.number) rest) [
        | inl nearer ↦ inr (omega (arith, r_ranked.rise_is, s_ranked.rise_is), inl (omega (arith, r_ranked.run_is, s_ranked.run_is)))
        | inr (same_run, last) ↦
            let le = not_less s.number r.number last in
            inr (omega (arith, r_ranked.rise_is, s_ranked.rise_is), inr (omega (arith, r_ranked.run_is, s_ranked.run_is), omega (arith, apart)))
      ]
    ]

-- one number more
pub range_more : (n : ℕ) → range_with_len 0 (n + 1) ≡ range_with_len 0 n ++ n ∷ []
range_more n =
    let more = map-range_with_len_more (λ (x : ℕ). x) 0 n n (let e : 0 + n ≡ n = omega arith in e) in
    sym (map-id (range_with_len 0 (n + 1))) ∙ more ∙ ap (λ (l : List ℕ). l ++ n ∷ []) (map-id (range_with_len 0 n))

flips : (x y : ℕ) → (x == y) ≡ (y == x)
flips x y =
    elim (cases_eq x y) [
      | inl e ↦ eq-eqb x y e ∙ sym (eq-eqb y x (sym e))
      | inr ne ↦ ne_eqb x y ne ∙ sym (ne_eqb y x (λ e. ne (sym e)))
    ]

-- numbers below a count, each once, keep so in another order
module _ (n : ℕ) (numbers : List ℕ) (permutes : IsPermutation (range_with_len 0 n) numbers) where
  has_all : (k : ℕ) → k < n → Contains numbers k
  has_all k lt =
      let within : k < length (range_with_len 0 n) = omega (arith, length-range_with_len 0 n) in
      let at : get_or (range_with_len 0 n) k k ≡ k = get_or-range_with_len 0 n k k lt ∙ (let e : 0 + k ≡ k = omega arith in e) in
      Contains-permutation (range_with_len 0 n) numbers k permutes (k, within, at)

  has_below : All (λ k. k < n) numbers
  has_below = All-permutation (λ k. k < n) (range_with_len 0 n) numbers permutes (λ k d lt.
      let in_range : k < n = omega (arith, length-range_with_len 0 n) in
      let at : get_or (range_with_len 0 n) k d ≡ 0 + k = get_or-range_with_len 0 n k d in_range in
      subst (λ (x : ℕ). x < n) (sym at) (omega arith))

  has_once : AllPairs (λ j k. j ≢ k) numbers
  has_once = AllPairs-from_IsDistinct Decides-eqb numbers (IsDistinct-IsPermutation (λ j k. j == k) flips (range_with_len 0 n) numbers permutes (IsDistinct-from_AllPairs Decides-eqb (range_with_len 0 n) rising))
    where
      rising : AllPairs (λ j k. j ≢ k) (range_with_len 0 n)
      rising i j d lt j_in same =
          let len = length-range_with_len 0 n in
          let at_i = get_or-range_with_len 0 n i d (omega arith) in
          let at_j = get_or-range_with_len 0 n j d (omega arith) in
          omega arith

-- the sorted storage traps
pub IsOrderBelow-sorted : (a : Architecture) (n : ℕ) (given sorted : List RankedTrap) → IsPermutation given sorted → All (IsRanked a) given → map number_of given ≡ range_with_len 0 n → IsSorted filling_cmp sorted → IsOrderBelow (IsFilledBefore a) n (map number_of sorted)
IsOrderBelow-sorted a n given sorted permutes ranks numbers rising =
    let moved : IsPermutation (range_with_len 0 n) (map number_of sorted) = subst (λ (l : List ℕ). IsPermutation l (map number_of sorted)) numbers (IsPermutation-map number_of given sorted permutes) in
    let ranks_after : All (IsRanked a) sorted = All-permutation (IsRanked a) given sorted permutes ranks in
    let once = has_once n (map number_of sorted) moved in
    record {
      all = has_all n (map number_of sorted) moved;
      below = has_below n (map number_of sorted) moved;
      in_order = λ i j d lt j_in.
          let none : RankedTrap = record { rise = 0; run = 0; number = 0 } in
          let j_within : j < length sorted = omega (arith, length-map sorted number_of) in
          let i_within : i < length sorted = omega arith in
          let at_i : get_or (map number_of sorted) i d ≡ (get_or sorted i none).number = get_or-map number_of sorted i none d i_within in
          let at_j : get_or (map number_of sorted) j d ≡ (get_or sorted j none).number = get_or-map number_of sorted j none d j_within in
          let apart : (get_or sorted i none).number ≢ (get_or sorted j none).number = λ same. once i j d lt j_in (at_i ∙ same ∙ sym at_j) in
          let later : is_lt (filling_cmp (get_or sorted j none) (get_or sorted i none)) ≡ false = sorted_far (λ r s. is_lt (filling_cmp r s)) (ranks_by filling_total (λ r. r)) sorted rising i j none (omega arith) j_within in
          let before = filled_before a (get_or sorted i none) (get_or sorted j none) (ranks_after i none i_within) (ranks_after j none j_within) apart later in
          subst (λ (x : ℕ). IsFilledBefore a x (get_or (map number_of sorted) j d)) (sym at_i) (subst (λ (y : ℕ). IsFilledBefore a (get_or sorted i none).number y) (sym at_j) before);
    }
