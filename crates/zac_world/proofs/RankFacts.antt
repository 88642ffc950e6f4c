-- Which of the sorted empty storage traps are the nearest: the first ones, since each has as many nearer ones as stand
-- before it.
use Rattle.std.proofs.Common.{◌≡◌, ◌≢◌, ◌==◌, ℕ, ◌<◌, ◌≤◌, ◌⊎◌, inl, inr, Bool, true, false, cond, nat_lt, ◌&&◌, ◌||◌, IsTrue, List, [], ◌∷◌, length, get_or, map, min, take, refl, sym, ap, ◌∙◌, subst, arith}
use Rattle.std.specs.List.{All, AllPairs, Contains, count_by, filter, range_with_len}
use Rattle.std.specs.List.Sorted.{IsPermutation}
use Rattle.std.proofs.lemmas.Bool.{and_from, and_parts, cases_Bool, cases_eq, eq-eqb, eqb-true, false_from_ne_true, le-leb, leb-false, leb-true, lt-ltb, ltb-true, or_cases, or_left, or_right}
use Rattle.std.proofs.lemmas.List.{get_or_default, get_or-map, get_or-take, length-map, length-take, take-map}
use Rattle.std.proofs.lemmas.List.Elements.{All-map, Contains-get_or}
use Rattle.std.proofs.lemmas.List.FromFn.{get_or-range_with_len, length-range_with_len}
use Rattle.std.proofs.lemmas.List.Sorted.{All-permutation, Contains-permutation, IsPermutation-map, IsPermutation-sym, length_permutation, sum_by-IsPermutation}
use Rattle.std.proofs.lemmas.List.Sums.{count_by-le-length, length-filter}
use Rattle.std.proofs.lemmas.Option.{get_or_from_slice_get}
use Rattle.zac_arch.specs.Architecture.{Architecture, StandsAt, storage_count, trap_points}
use Rattle.zac_arch.specs.declared.place.Point.{Point}
use Rattle.zac_arch.specs.declared.place.TrapId.{TrapId}
use Rattle.zac_world.specs.Around.{AreAround, IsBefore}
use Rattle.zac_world.specs.Nearest.{AreNearest, IsAmongNearest, is_nearer, nearer_count, point_of, trap_distance}
use Rattle.zac_world.specs.Places.{Places, empty_storage, is_empty}
use Rattle.zac_world.specs.Walks.{candidate, candidates_in, is_within}
use Rattle.zac_world.specs.declared.walk.Candidate.{Candidate}
use Rattle.zac_world.proofs.ListFacts.{AllPairs-take, contains_filtered, contains_from_filter, count-filter, count-filter-le, count_first, filter-filter, filter_all, permuted_apart}

-- what the test of the nearer trap tells
pub nearer_test : (a b s t : ℕ) → (a < b) ⊎ ((a ≡ b) × (s < t)) → (nat_lt a b || ((a == b) && nat_lt s t)) ≡ true
nearer_test a b s t (inl lt) = or_left (nat_lt a b) ((a == b) && nat_lt s t) (lt-ltb a b lt)
nearer_test a b s t (inr both) = or_right (nat_lt a b) ((a == b) && nat_lt s t) (and_from (a == b) (nat_lt s t) (eq-eqb a b both.0) (lt-ltb s t both.1))

pub nearer_cases : (a b s t : ℕ) → (nat_lt a b || ((a == b) && nat_lt s t)) ≡ true → (a < b) ⊎ ((a ≡ b) × (s < t))
nearer_cases a b s t test =
    elim (or_cases (nat_lt a b) ((a == b) && nat_lt s t) test) [
      | inl lt ↦ inl (ltb-true a b lt)
      | inr both ↦ let parts = and_parts (a == b) (nat_lt s t) both in inr (eqb-true a b parts.0, ltb-true s t parts.1)
    ]

one_way : (a b s t : ℕ) → (a < b) ⊎ ((a ≡ b) × (s < t)) → (b < a) ⊎ ((b ≡ a) × (t ≤ s)) → ⊥
one_way a b s t (inl lt) (inl gt) = omega arith
one_way a b s t (inl lt) (inr both) = let e = both.0 in omega arith
one_way a b s t (inr both) (inl gt) = let e = both.0 in omega arith
one_way a b s t (inr both) (inr back) = let lt = both.1 in let le = back.1 in omega arith

pub not_nearer : (a b s t : ℕ) → (b < a) ⊎ ((b ≡ a) × (t ≤ s)) → (nat_lt a b || ((a == b) && nat_lt s t)) ≡ false
not_nearer a b s t back =
    false_from_ne_true (nat_lt a b || ((a == b) && nat_lt s t)) (λ test. one_way a b s t (nearer_cases a b s t test) back)

pub no_farther : (a b s t : ℕ) → (a < b) ⊎ ((a ≡ b) × (s < t)) → a ≤ b
no_farther a b s t (inl lt) = omega arith
no_farther a b s t (inr both) = let e = both.0 in omega arith

weaker : (a b s t : ℕ) → (a < b) ⊎ ((a ≡ b) × (s < t)) → (a < b) ⊎ ((a ≡ b) × (s ≤ t))
weaker a b s t (inl lt) = inl lt
weaker a b s t (inr both) = inr (both.0, let lt = both.1 in omega arith)

stronger : (a b s t : ℕ) → (a < b) ⊎ ((a ≡ b) × (s ≤ t)) → s ≢ t → (a < b) ⊎ ((a ≡ b) × (s < t))
stronger a b s t (inl lt) apart = inl lt
stronger a b s t (inr both) apart = inr (both.0, let le = both.1 in omega arith)

-- the number of a candidate's trap
abbrev number : Candidate → ℕ
number c = c.trap.0

-- the traps within reach of a trap
abbrev within : Places → ℕ → ℕ → ℕ → Bool
within p from reach t = is_within p.architecture (record { centre = point_of p.architecture from; reach = reach }) t

-- some candidate
nothing : Candidate
nothing = record { distance = 0; trap = record { 0 = 0 } }

number-candidates : (a : Architecture) (centre : Point) (ts : List ℕ) → map number (map (candidate a centre) ts) ≡ ts
number-candidates a centre [] = refl
number-candidates a centre (t ∷ ts) = ap (λ (l : List ℕ). t ∷ l) (number-candidates a centre ts)

-- sorted numbers of the empty storage traps within a reach
pub record AreSorted (p : Places) (from reach : ℕ) (ps : List ℕ) : Type 0 where
  pub permutes : IsPermutation (filter (within p from reach) (empty_storage p)) ps
  pub in_order : AllPairs (λ s t. IsTrue (is_nearer p.architecture from s t)) ps

pub sorted_numbers : (p : Places) (from reach : ℕ) (found sorted : List Candidate) → found ≡ candidates_in p (record { centre = point_of p.architecture from; reach = reach }) 0 (storage_count p.architecture) →
    IsPermutation found sorted → AllPairs IsBefore sorted → AreSorted p from reach (map number sorted)
sorted_numbers p from reach found sorted are permutes order =
    let a = p.architecture in
    let centre = point_of a from in
    let n = storage_count a in
    let near : ℕ → Bool = λ t. within p from reach t && is_empty p.traps t in
    let numbers : map number found ≡ filter near (range_with_len 0 n) = ap (map number) are ∙ number-candidates a centre (filter near (range_with_len 0 n)) in
    let permuted : IsPermutation (filter near (range_with_len 0 n)) (map number sorted) = subst (λ (l : List ℕ). IsPermutation l (map number sorted)) numbers (IsPermutation-map number found sorted permutes) in
    let told : All (λ (c : Candidate). c ≡ candidate a centre c.trap.0) sorted =
    All-permutation (λ (c : Candidate). c ≡ candidate a centre c.trap.0) found sorted permutes
    (subst (All (λ (c : Candidate). c ≡ candidate a centre c.trap.0)) (sym are)
    (All-map (λ (c : Candidate). c ≡ candidate a centre c.trap.0) (candidate a centre) (filter near (range_with_len 0 n)) (λ k d lt. refl))) in
    record {
      permutes = subst (λ (l : List ℕ). IsPermutation l (map number sorted)) (filter-filter (within p from reach) (is_empty p.traps) (range_with_len 0 n)) permuted;
      in_order = λ i j d lt j_in.
          let len = length-map sorted number in
          let j_low : j < length sorted = omega arith in
          let i_low : i < length sorted = omega arith in
          let c = get_or sorted i nothing in
          let e = get_or sorted j nothing in
          let ci : get_or (map number sorted) i d ≡ number c = get_or-map number sorted i nothing d i_low in
          let ej : get_or (map number sorted) j d ≡ number e = get_or-map number sorted j nothing d j_low in
          let apart : number c ≢ number e = λ same. permuted_apart near 0 n (map number sorted) permuted i j d lt j_in (ci ∙ same ∙ sym ej) in
          let c_far : c.distance ≡ trap_distance a from (number c) = ap (λ (x : Candidate). x.distance) (told i nothing i_low) in
          let e_far : e.distance ≡ trap_distance a from (number e) = ap (λ (x : Candidate). x.distance) (told j nothing j_low) in
          let before = stronger c.distance e.distance (number c) (number e) (order i j nothing lt j_low) apart in
          let first = subst (λ (x : ℕ). (x < e.distance) ⊎ ((x ≡ e.distance) × (number c < number e))) c_far before in
          let both = subst (λ (y : ℕ). (trap_distance a from (number c) < y) ⊎ ((trap_distance a from (number c) ≡ y) × (number c < number e))) e_far first in
          let test : IsTrue (is_nearer a from (number c) (number e)) = nearer_test (trap_distance a from (number c)) (trap_distance a from (number e)) (number c) (number e) both in
          subst (λ (x : ℕ). IsTrue (is_nearer a from x (get_or (map number sorted) j d))) (sym ci)
          (subst (λ (y : ℕ). IsTrue (is_nearer a from (number c) y)) (sym ej) test);
    }

-- each of them is within reach, and is an empty storage trap
one_of : (p : Places) (from reach : ℕ) (ps : List ℕ) (k d : ℕ) → AreSorted p from reach ps → k < length ps → Contains (empty_storage p) (get_or ps k d) × (within p from reach (get_or ps k d) ≡ true)
one_of p from reach ps k d sorted lt =
    let ts = filter (within p from reach) (empty_storage p) in
    contains_from_filter (within p from reach) (get_or ps k d) (empty_storage p) (Contains-permutation ps ts (get_or ps k d) (IsPermutation-sym ts ps sorted.permutes) (Contains-get_or ps k d lt))

-- as many are nearer than one of them as stand before it
rank : (p : Places) (from reach : ℕ) (ps : List ℕ) (k d : ℕ) → AreSorted p from reach ps → k < length ps → nearer_count p from (get_or ps k d) ≡ k
rank p from reach ps k d sorted lt =
    let a = p.architecture in
    let t = get_or ps k d in
    let far : ℕ → ℕ = trap_distance a from in
    let q : ℕ → Bool = λ s. is_nearer a from s t in
    let w = within p from reach in
    let t_near = (one_of p from reach ps k d sorted lt).1 in
    sym (count-filter q w (empty_storage p) (λ s test. le-leb (far s) reach (omega (arith, no_farther (far s) (far t) s t (nearer_cases (far s) (far t) s t test), leb-true (far t) reach t_near))))
    ∙ sym (sum_by-IsPermutation (λ (s : ℕ). cond (q s) 1 0) (filter w (empty_storage p)) ps sorted.permutes)
    ∙ count_first q ps k (omega arith)
    (λ i e i_lt. subst (λ (s : ℕ). q s ≡ true) (get_or_default ps i d e (omega arith)) (sorted.in_order i k d i_lt lt))
    (λ i e from_k i_in. subst (λ (s : ℕ). q s ≡ false) (get_or_default ps i d e i_in)
    (elim (cases_eq i k) as (λ _. q (get_or ps i d) ≡ false) [
      | inl same ↦ let e : t ≡ get_or ps i d = ap (λ (n : ℕ). get_or ps n d) (sym same) in
          subst (λ (s : ℕ). q s ≡ false) e (not_nearer (far t) (far t) t t (inr (refl, omega arith)))
      | inr other ↦
          let s = get_or ps i d in
          not_nearer (far s) (far t) s t (weaker (far t) (far s) t s (nearer_cases (far t) (far s) t s (sorted.in_order k i d (omega arith) i_in)))
    ]))

-- and all of them are nearer than one out of reach
rank_outside : (p : Places) (from reach : ℕ) (ps : List ℕ) (t : ℕ) → AreSorted p from reach ps → within p from reach t ≡ false → length ps ≤ nearer_count p from t
rank_outside p from reach ps t sorted out =
    let a = p.architecture in
    let far : ℕ → ℕ = trap_distance a from in
    let q : ℕ → Bool = λ s. is_nearer a from s t in
    let w = within p from reach in
    let all : count_by q ps ≡ length ps =
    count_first q ps (length ps) (omega arith)
    (λ i e i_lt. nearer_test (far (get_or ps i e)) (far t) (get_or ps i e) t (inl (omega (arith, leb-true (far (get_or ps i e)) reach (one_of p from reach ps i e sorted i_lt).1, leb-false (far t) reach out))))
    (λ i e le lt. absurd (omega arith)) in
    omega (arith, all, sum_by-IsPermutation (λ (s : ℕ). cond (q s) 1 0) (filter w (empty_storage p)) ps sorted.permutes, count-filter-le q w (empty_storage p))

pub below_storage : (p : Places) (t : ℕ) → Contains (empty_storage p) t → t < storage_count p.architecture
below_storage p t c =
    let n = storage_count p.architecture in
    let all = (contains_from_filter (is_empty p.traps) t (range_with_len 0 n) c).0 in
    let k = all.0 in
    let k_in : k < n = omega (arith, all.1, length-range_with_len 0 n) in
    omega (arith, get_or-range_with_len 0 n k t k_in, all.2)

pub are_nearest : (p : Places) (from reach count : ℕ) (ps : List ℕ) → AreSorted p from reach ps → (count ≤ length ps) ⊎ ((t : ℕ) → t < storage_count p.architecture → trap_distance p.architecture from t ≤ reach) →
    AreNearest p from count (take count ps)
are_nearest p from reach count ps sorted enough =
    record {
      each = λ k d k_in.
          let len = length-take count ps in
          let k_low : k < count = omega arith in
          let k_within : k < length ps = omega arith in
          let here : get_or ps k d ≡ get_or (take count ps) k d = sym (get_or-take count ps k d k_low) in
          subst (IsAmongNearest p from count) here (record {
            empty = (one_of p from reach ps k d sorted k_within).0;
            few = omega (arith, rank p from reach ps k d sorted k_within);
          });
      none_left_out = λ t among.
          elim (cases_Bool (within p from reach t)) as (λ _. Contains (take count ps) t) [
            | inl near ↦
                let found = Contains-permutation (filter (within p from reach) (empty_storage p)) ps t sorted.permutes (contains_filtered (within p from reach) t (empty_storage p) among.empty near) in
                let k = found.0 in
                let k_is : nearer_count p from t ≡ k = ap (nearer_count p from) (sym found.2) ∙ rank p from reach ps k t sorted found.1 in
                let k_low : k < count = omega (arith, among.few, k_is) in
                (k, omega (arith, length-take count ps, found.1), get_or-take count ps k t k_low ∙ found.2)
            | inr out ↦ absurd (elim enough as (λ _. ⊥) [
              | inl many ↦ omega (arith, among.few, rank_outside p from reach ps t sorted out)
              | inr all ↦ omega (arith, all t (below_storage p t among.empty), leb-false (trap_distance p.architecture from t) reach out)
            ])
          ];
      in_order = AllPairs-take (λ s t. IsTrue (is_nearer p.architecture from s t)) count ps sorted.in_order;
    }

pub how_many : (p : Places) (from reach count : ℕ) (ps : List ℕ) → AreSorted p from reach ps → (count ≤ length ps) ⊎ ((t : ℕ) → t < storage_count p.architecture → trap_distance p.architecture from t ≤ reach) →
    length (take count ps) ≡ min count (length (empty_storage p))
how_many p from reach count ps sorted enough =
    let w = within p from reach in
    let ts = filter w (empty_storage p) in
    let len = length_permutation ts ps sorted.permutes in
    let most : length ts ≤ length (empty_storage p) = omega (arith, length-filter w (empty_storage p), count_by-le-length w (empty_storage p)) in
    elim enough as (λ _. length (take count ps) ≡ min count (length (empty_storage p))) [
      | inl many ↦ omega (arith, length-take count ps)
      | inr all ↦
          let same : ts ≡ empty_storage p =
          filter_all w (empty_storage p)
          (λ k d lt. let t = get_or (empty_storage p) k d in le-leb (trap_distance p.architecture from t) reach (all t (below_storage p t (Contains-get_or (empty_storage p) k d lt)))) in
          omega (arith, length-take count ps, ap length same)
    ]

-- what the first of the sorted candidates are
pub record AreFirst (p : Places) (from count : ℕ) (traps : List TrapId) : Type 0 where
  pub nearest : AreNearest p from count (map (λ (t : TrapId). t.0) traps)
  pub many : length traps ≡ min count (length (empty_storage p))

numbers-traps : (cs : List Candidate) → map (λ (t : TrapId). t.0) (map (λ (c : Candidate). c.trap) cs) ≡ map number cs
numbers-traps [] = refl
numbers-traps (c ∷ cs) = ap (λ (l : List ℕ). number c ∷ l) (numbers-traps cs)

pub first_are_nearest : (p : Places) (a : Architecture) (from count : ℕ) (centre : Point) (found sorted : List Candidate) (traps : List TrapId) → a ≡ p.architecture → StandsAt a from centre →
    AreAround p centre count found → IsPermutation found sorted → AllPairs IsBefore sorted → traps ≡ map (λ (c : Candidate). c.trap) (take count sorted) → AreFirst p from count traps
first_are_nearest p a from count centre found sorted traps same at around permutes order is =
    let here : centre ≡ point_of p.architecture from = sym (get_or_from_slice_get (trap_points a) from centre (record { x = 0; y = 0 }) at) ∙ ap (λ (b : Architecture). point_of b from) same in
    let there = subst (λ (c : Point). AreAround p c count found) here around in
    let ps = map number sorted in
    let in_order = sorted_numbers p from there.reach found sorted there.are permutes order in
    let enough : (count ≤ length ps) ⊎ ((t : ℕ) → t < storage_count p.architecture → trap_distance p.architecture from t ≤ there.reach) =
    elim there.enough as (λ _. (count ≤ length ps) ⊎ ((t : ℕ) → t < storage_count p.architecture → trap_distance p.architecture from t ≤ there.reach)) [
      | inl many ↦ inl (omega (arith, length-map sorted number, length_permutation found sorted permutes))
      | inr all ↦ inr all
    ] in
    let numbers : map (λ (t : TrapId). t.0) traps ≡ take count ps = ap (map (λ (t : TrapId). t.0)) is ∙ numbers-traps (take count sorted) ∙ sym (take-map number count sorted) in
    record {
      nearest = subst (AreNearest p from count) (sym numbers) (are_nearest p from there.reach count ps in_order enough);
      many = sym (length-map traps (λ (t : TrapId). t.0)) ∙ ap length numbers ∙ how_many p from there.reach count ps in_order enough;
    }
