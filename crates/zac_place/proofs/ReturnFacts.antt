-- The nearest traps are enough: a least placing in them is least in all empty storage traps.
use Rattle.std.proofs.Common.{◌≡◌, ◌≢◌, ◌==◌, ℕ, zero, suc, ◌+◌, ◌<◌, ◌≤◌, ◌⊎◌, inl, inr, Bool, true, false, cond, List, [], ◌∷◌, ◌++◌, Some, length, get_or, map, ℤ, pos, ◌+ℤ◌, ◌≤ℤ◌, refl, sym, ap, ◌∙◌, subst, arith, nat_eq}
use Rattle.std.proofs.lemmas.Int.{ints}
use Rattle.std.specs.List.{All, AllPairs, Any, Contains, filter, list_any, range_with_len, slice_get}
use Rattle.std.proofs.lemmas.Bool.{cases_Bool, cases_lt, eq-eqb, eqb-true, ne_eqb}
use Rattle.std.proofs.lemmas.Cmp.{nat_eq_equiv}
use Rattle.std.proofs.lemmas.List.{get_or-map, get_or_default, length-map, map-append}
use Rattle.std.proofs.lemmas.List.Elements.{All-contains, All-weaker}
use Rattle.std.proofs.lemmas.List.Folds.{Any-from_list_any, list_any-from_Any}
use Rattle.std.proofs.lemmas.List.FromFn.{length-range_with_len}
use Rattle.std.proofs.lemmas.List.Kept.{AllPairs-filter}
use Rattle.std.proofs.lemmas.List.Sums.{count_by-le-length, length-filter, sum_by-le-sum_by}
use Rattle.std.proofs.lemmas.Map.Keys.{IsDistinct-from_apart}
use Rattle.std.proofs.lemmas.Map.Made.{length-le_from_is_member}
use Rattle.std.proofs.lemmas.Option.{get_or_from_slice_get, slice_get-get_or, slice_get_within}
use Rattle.zac_arch.specs.Architecture.{Architecture, storage_count}
use Rattle.zac_arch.specs.Rules.{KeepsRules}
use Rattle.zac_arch.proofs.Geometry.{storage_count_most}
use Rattle.zac_assign.specs.Assignment.{Table, price_at}
use Rattle.zac_world.specs.Places.{Places, empty_storage, is_empty}
use Rattle.zac_world.specs.Nearest.{AreNearest, IsAmongNearest, is_nearer, nearer_count, trap_distance}
use Rattle.zac_world.proofs.ListFacts.{contains_from_filter, range_rises}
use Rattle.zac_world.proofs.PlacesFacts.{filter_more}
use Rattle.zac_world.proofs.RankFacts.{below_storage, nearer_cases, nearer_test, no_farther, not_nearer}
use Rattle.zac_place.specs.Offers.{AreOffered, price_of}
use Rattle.zac_place.specs.Placing.{IsPlacing, ProvesPlacing}
use Rattle.zac_place.specs.Returns.{AreNear, return_cost, trap_in}
use Rattle.zac_place.specs.Tables.{Tabulates}

-- ---- how many places there are

-- whether a list has a number
has : ℕ → List ℕ → Bool
has n ns = list_any (λ m. m == n) ns

contained : (n : ℕ) (ns : List ℕ) → has n ns ≡ true → Contains ns n
unfolding has
contained n ns test =
    let any = Any-from_list_any (λ m. m == n) ns test in
    let same : any.1 ≡ n = eqb-true any.1 n any.4 in
    (any.0, any.2, get_or_default ns any.0 n any.1 any.2 ∙ any.3 ∙ same)

has_contained : (n : ℕ) (ns : List ℕ) → Contains ns n → has n ns ≡ true
unfolding has
has_contained n ns c = list_any-from_Any (λ m. m == n) ns (c.0, n, c.1, c.2, eq-eqb n n refl)

pub cases_contains : (n : ℕ) (ns : List ℕ) → Contains ns n ⊎ (Contains ns n → ⊥)
cases_contains n ns =
    elim (cases_Bool (has n ns)) as (λ _. Contains ns n ⊎ (Contains ns n → ⊥)) [
      | inl test ↦ inl (contained n ns test)
      | inr test ↦ inr (λ c. let yes' : true ≡ false = sym (has_contained n ns c) ∙ test in cc)
    ]

-- numbers that are apart and all in another list are no more than it has
pub no_more : (xs ys : List ℕ) → AllPairs (λ a b. a ≢ b) xs → All (Contains ys) xs → length xs ≤ length ys
no_more xs ys apart within =
    length-le_from_is_member nat_eq_equiv xs ys
    (IsDistinct-from_apart nat_eq xs (λ i j d lt j_in. ne_eqb (get_or xs i d) (get_or xs j d) (apart i j d lt j_in)))
    (λ q test.
    let any = Any-from_list_any (nat_eq q) xs test in
    let same : q ≡ any.1 = eqb-true q any.1 any.4 in
    let held = All-contains (Contains ys) xs q within (any.0, any.2, get_or_default xs any.0 q any.1 any.2 ∙ any.3 ∙ sym same) in
    list_any-from_Any (nat_eq q) ys (held.0, q, held.1, held.2, eq-eqb q q refl))

-- of more numbers that are apart than another list has, one isn't in that list
free_one : (xs ys : List ℕ) → AllPairs (λ a b. a ≢ b) xs → length ys < length xs → (x : ℕ) × Contains xs x × (Contains ys x → ⊥)
free_one xs ys apart fewer =
    elim (search xs) as (λ _. (x : ℕ) × Contains xs x × (Contains ys x → ⊥)) [
      | inl found ↦ found
      | inr all ↦ absurd (omega (arith, no_more xs ys apart all))
    ]
  where
    search : (zs : List ℕ) → ((x : ℕ) × Contains zs x × (Contains ys x → ⊥)) ⊎ All (Contains ys) zs
    search [] = inr (λ k d lt. absurd (omega arith))
    search (z ∷ zs) =
        elim (cases_contains z ys) as (λ _. ((x : ℕ) × Contains (z ∷ zs) x × (Contains ys x → ⊥)) ⊎ All (Contains ys) (z ∷ zs)) [
          | inl here ↦ elim (search zs) as (λ _. ((x : ℕ) × Contains (z ∷ zs) x × (Contains ys x → ⊥)) ⊎ All (Contains ys) (z ∷ zs)) [
            | inl found ↦ let lt = found.1.1 in inl (found.0, (suc found.1.0, omega arith, found.1.2), found.2)
            | inr all ↦ inr (every z zs here all)
          ]
          | inr missing ↦ inl (z, (zero, omega arith, refl), missing)
        ]
      where
        every : (z : ℕ) (zs : List ℕ) → Contains ys z → All (Contains ys) zs → All (Contains ys) (z ∷ zs)
        every z zs here all zero d lt = here
        every z zs here all (suc k) d lt = all k d (omega arith)

-- rising numbers below another are no more than it
pub few_rising : (xs : List ℕ) (n : ℕ) → AllPairs (λ a b. a < b) xs → All (λ x. x < n) xs → length xs ≤ n
few_rising xs n rising below = by_length (length xs) (omega arith)
  where
    at_least : (k : ℕ) → k < length xs → k ≤ get_or xs k 0
    at_least zero lt = omega arith
    at_least (suc k) lt = omega (arith, at_least k (omega arith), rising k (suc k) 0 (omega arith) lt)

    by_length : (m : ℕ) → m ≤ length xs → m ≤ n
    by_length zero le = omega arith
    by_length (suc m) le = omega (arith, at_least m (omega arith), below m 0 (omega arith))

pub rising_apart : (xs : List ℕ) → AllPairs (λ a b. a < b) xs → AllPairs (λ a b. a ≢ b) xs
rising_apart xs rising i j d lt j_in same = omega (arith, rising i j d lt j_in, same)

-- ---- the prices of all places

-- the price of an offered place
pub price_of-offered : (os : List ℕ) (ps : List ℤ) (k : ℕ) → AllPairs (λ a b. a < b) os → length ps ≡ length os → k < length os → price_of os ps (get_or os k 0) ≡ price_at ps k
price_of-offered [] ps k rising len lt = absurd (omega arith)
price_of-offered (o ∷ os) [] k rising len lt = absurd (omega arith)
price_of-offered (o ∷ os) (p ∷ ps) zero rising len lt = ap (λ (b : Bool). cond b p (price_of os ps o)) (eq-eqb o o refl)
price_of-offered (o ∷ os) (p ∷ ps) (suc k) rising len lt =
    let above = rising zero (suc k) 0 (omega arith) lt in
    ap (λ (b : Bool). cond b p (price_of os ps (get_or os k 0))) (ne_eqb o (get_or os k 0) (λ same. omega (arith, above, same)))
    ∙ price_of-offered os ps k (λ i j d i_lt j_in. rising (suc i) (suc j) d (omega arith) (omega arith)) (omega arith) (omega arith)

pub price_of-others : (os : List ℕ) (ps : List ℤ) (t : ℕ) → (Contains os t → ⊥) → price_of os ps t ≡ pos 0
price_of-others [] ps t missing = refl
price_of-others (o ∷ os) [] t missing = refl
price_of-others (o ∷ os) (p ∷ ps) t missing =
    ap (λ (b : Bool). cond b p (price_of os ps t)) (ne_eqb o t (λ same. missing (zero, omega arith, same)))
    ∙ price_of-others os ps t (λ c. let lt = c.1 in missing (suc c.0, omega arith, c.2))

-- ---- the traps that are offered

-- an offered trap is an empty storage trap
pub offered_empty : (p : Places) (leaving offered : List ℕ) → AreNear p leaving offered → All (Contains (empty_storage p)) offered
offered_empty p leaving offered near k d lt = (near k d lt).4.empty

pub offered_below : (p : Places) (leaving offered : List ℕ) → AreNear p leaving offered → All (λ t. t < storage_count p.architecture) offered
offered_below p leaving offered near k d lt = below_storage p (get_or offered k d) (offered_empty p leaving offered near k d lt)

-- the nearest traps of a qubit are apart
nearest_apart : (p : Places) (from count : ℕ) (traps : List ℕ) → AreNearest p from count traps → AllPairs (λ a b. a ≢ b) traps
nearest_apart p from count traps are i j d lt j_in same =
    let far = trap_distance p.architecture from in
    let t = get_or traps j d in
    let nearer : is_nearer p.architecture from t t ≡ true = ap (λ (s : ℕ). is_nearer p.architecture from s t) (sym same) ∙ are.in_order i j d lt j_in in
    let not : is_nearer p.architecture from t t ≡ false = not_nearer (far t) (far t) t t (inr (refl, omega arith)) in
    (let both : true ≡ false = sym nearer ∙ not in cc)

-- there are as many as leaving atoms at least
pub enough_offered : (p : Places) (leaving offered : List ℕ) → AllPairs (λ a b. a < b) offered → AreOffered p leaving offered → length leaving ≤ length (empty_storage p) → length leaving ≤ length offered
enough_offered p leaving offered rising are few =
    elim (cases_lt 0 (length leaving)) as (λ _. length leaving ≤ length offered) [
      | inl some ↦
          let first = are.complete 0 0 some in
          omega (arith, first.many, no_more first.nearest offered (nearest_apart p _ _ first.nearest first.are) first.offers)
      | inr none ↦ omega arith
    ]

-- a trap that isn't offered is no nearer to a leaving atom than some offered trap that isn't chosen
pub record FreeTrap (p : Places) (leaving offered targets : List ℕ) (row place : ℕ) : Type 0 where
  pub trap : ℕ
  pub is_offered : Contains offered trap
  pub is_free : Contains targets trap → ⊥
  pub no_farther : return_cost p leaving row trap ≤ return_cost p leaving row place

fewer : (p : Places) (from s t u : ℕ) → trap_distance p.architecture from t < trap_distance p.architecture from u → ◌≤◌ (cond (is_nearer p.architecture from s t) 1 0) (cond (is_nearer p.architecture from s u) 1 0)
fewer p from s t u lt =
    let far = trap_distance p.architecture from in
    elim (cases_Bool (is_nearer p.architecture from s t)) as (λ _. ◌≤◌ (cond (is_nearer p.architecture from s t) 1 0) (cond (is_nearer p.architecture from s u) 1 0)) [
      | inl near ↦
          let nearer_too : is_nearer p.architecture from s u ≡ true = nearer_test (far s) (far u) s u (inl (omega (arith, no_farther (far s) (far t) s t (nearer_cases (far s) (far t) s t near)))) in
          omega (arith, ap {B = ℕ} (λ (b : Bool). cond b 1 0) near, ap {B = ℕ} (λ (b : Bool). cond b 1 0) nearer_too)
      | inr out ↦ omega (arith, ap {B = ℕ} (λ (b : Bool). cond b 1 0) out)
    ]

free_trap : (p : Places) (leaving offered targets : List ℕ) (row place : ℕ) → AreOffered p leaving offered → length targets ≡ length leaving → row < length leaving → Contains (empty_storage p) place → (Contains offered place → ⊥) → FreeTrap p leaving offered targets row place
free_trap p leaving offered targets row place are len row_in is_empty not_offered =
    let q = get_or leaving row 0 in
    let from = trap_in p q in
    let far = trap_distance p.architecture from in
    let n = length leaving + 1 in
    let own = are.complete row 0 row_in in
    let left_out : IsAmongNearest p from n place → ⊥ = λ among. not_offered (All-contains (Contains offered) own.nearest place own.offers (own.are.none_left_out place among)) in
    let many : n ≤ nearer_count p from place =
    elim (cases_lt (nearer_count p from place) n) as (λ _. n ≤ nearer_count p from place) [
      | inl less ↦ absurd (left_out (record { empty = is_empty; few = less }))
      | inr le ↦ le
    ] in
    let most = count_by-le-length (λ s. is_nearer p.architecture from s place) (empty_storage p) in
    let one = free_one own.nearest targets (nearest_apart p from n own.nearest own.are) (omega (arith, own.many, many, most, len)) in
    let among = All-contains (IsAmongNearest p from n) own.nearest one.0 own.are.each one.1 in
    record {
      trap = one.0;
      is_offered = All-contains (Contains offered) own.nearest one.0 own.offers one.1;
      is_free = one.2;
      no_farther = elim (cases_lt (far place) (far one.0)) as (λ _. far one.0 ≤ far place) [
        | inl nearer ↦
            let counted : nearer_count p from place ≤ nearer_count p from one.0 =
            sum_by-le-sum_by (λ s. cond (is_nearer p.architecture from s place) 1 0) (λ s. cond (is_nearer p.architecture from s one.0) 1 0) (empty_storage p) (λ s. fewer p from s place one.0 nearer) in
            absurd (omega (arith, counted, many, among.few))
        | inr le ↦ le
      ];
    }

-- ---- the prices and the placing over all empty storage traps

-- the price of an offered trap, by its place in the offer
of_offered : (os : List ℕ) (ps : List ℤ) (place : ℕ) → AllPairs (λ a b. a < b) os → length ps ≡ length os → Contains os place → (j : ℕ) × (slice_get os j ≡ Some place) × (price_of os ps place ≡ price_at ps j)
of_offered os ps place rising len c =
    let at : get_or os c.0 0 ≡ place = get_or_default os c.0 0 place c.1 ∙ c.2 in
    (c.0, slice_get-get_or os c.0 0 c.1 ∙ ap (λ (t : ℕ). Some t) at, ap (price_of os ps) (sym at) ∙ price_of-offered os ps c.0 rising len c.1)

-- the price at a place of the list of all
pub price_in_all : (os : List ℕ) (ps : List ℤ) (es : List ℕ) (k place : ℕ) → slice_get es k ≡ Some place → price_at (map (price_of os ps) es) k ≡ price_of os ps place
price_in_all os ps es k place is =
    get_or-map (price_of os ps) es k 0 (pos 0) (slice_get_within es k place is) ∙ ap (price_of os ps) (get_or_from_slice_get es k place 0 is)

under : (u v w : ℤ) (a b : ℕ) → v ≡ pos 0 → w ≡ pos 0 → (u +ℤ v) ≤ℤ pos a → a ≤ b → (u +ℤ w) ≤ℤ pos b
under u v w a b ev ew le more = omega (arith, ints)

no_more_than_zero : (v : ℤ) → v ≡ pos 0 → v ≤ℤ pos 0
no_more_than_zero v e = omega (arith, ints)

pub prices_of_all : (p : Places) (leaving offered targets : List ℕ) (row_price ps : List ℤ) → AllPairs (λ a b. a < b) offered → AreOffered p leaving offered → IsPlacing offered (length leaving) targets →
    ProvesPlacing (return_cost p leaving) offered (length leaving) targets row_price ps → ProvesPlacing (return_cost p leaving) (empty_storage p) (length leaving) targets row_price (map (price_of offered ps) (empty_storage p))
prices_of_all p leaving offered targets row_price ps rising are placing prices =
    let es = empty_storage p in
    let f = price_of offered ps in
    let all = map f es in
    let cost = return_cost p leaving in
    record {
      each_row = prices.each_row;
      each_place = length-map es f;
      bound = λ row k place row_in is.
          elim (cases_contains place offered) as (λ _. (price_at row_price row +ℤ price_at all k) ≤ℤ pos (cost row place)) [
            | inl c ↦
                let o = of_offered offered ps place rising prices.each_place c in
                subst (λ (z : ℤ). (price_at row_price row +ℤ z) ≤ℤ pos (cost row place)) (sym (price_in_all offered ps es k place is ∙ o.2)) (prices.bound row o.0 place row_in o.1)
            | inr missing ↦
                let free = free_trap p leaving offered targets row place are placing.each_row row_in (k, slice_get_within es k place is, get_or_from_slice_get es k place place is) missing in
                let o = of_offered offered ps free.trap rising prices.each_place free.is_offered in
                under (price_at row_price row) (price_at ps o.0) (price_at all k) (cost row free.trap) (cost row place)
                (prices.zero_elsewhere o.0 free.trap o.1 free.is_free)
                (price_in_all offered ps es k place is ∙ price_of-others offered ps place missing)
                (prices.bound row o.0 free.trap row_in o.1) free.no_farther
          ];
      chosen = λ row k place at is.
          let within = slice_get_within targets row place at in
          let c : Contains offered place = subst (Contains offered) (get_or_from_slice_get targets row place place at) (placing.offers row place within) in
          let o = of_offered offered ps place rising prices.each_place c in
          subst (λ (z : ℤ). price_at row_price row +ℤ z ≡ pos (cost row place)) (sym (price_in_all offered ps es k place is ∙ o.2)) (prices.chosen row o.0 place at o.1);
      at_most_zero = λ k lt.
          let place = get_or es k 0 in
          let is = slice_get-get_or es k 0 lt in
          elim (cases_contains place offered) as (λ _. price_at all k ≤ℤ pos 0) [
            | inl c ↦
                let o = of_offered offered ps place rising prices.each_place c in
                subst (λ (z : ℤ). z ≤ℤ pos 0) (sym (price_in_all offered ps es k place is ∙ o.2)) (prices.at_most_zero o.0 (slice_get_within offered o.0 place o.1))
            | inr missing ↦ no_more_than_zero (price_at all k) (price_in_all offered ps es k place is ∙ price_of-others offered ps place missing)
          ];
      zero_elsewhere = λ k place is unchosen.
          elim (cases_contains place offered) as (λ _. price_at all k ≡ pos 0) [
            | inl c ↦
                let o = of_offered offered ps place rising prices.each_place c in
                price_in_all offered ps es k place is ∙ o.2 ∙ prices.zero_elsewhere o.0 place o.1 unchosen
            | inr missing ↦ price_in_all offered ps es k place is ∙ price_of-others offered ps place missing
          ];
    }

pub placing_in_all : (p : Places) (leaving offered targets : List ℕ) → AreOffered p leaving offered → IsPlacing offered (length leaving) targets → IsPlacing (empty_storage p) (length leaving) targets
placing_in_all p leaving offered targets are placing =
    record {
      each_row = placing.each_row;
      offers = All-weaker (Contains offered) (Contains (empty_storage p)) (λ t c. All-contains (Contains (empty_storage p)) offered t (offered_empty p leaving offered are.near) c) targets placing.offers;
      distinct = placing.distinct;
    }

pub near_targets : (p : Places) (leaving offered targets : List ℕ) → AreOffered p leaving offered → IsPlacing offered (length leaving) targets → AreNear p leaving targets
near_targets p leaving offered targets are placing k d lt =
    All-contains (λ t. Any (λ q. IsAmongNearest p (trap_in p q) (length leaving + 1) t) leaving) offered (get_or targets k d) are.near (placing.offers k d lt)

pub empty_apart : (p : Places) → AllPairs (λ a b. a ≢ b) (empty_storage p)
empty_apart p =
    rising_apart (empty_storage p) (AllPairs-filter (λ a b. a < b) (is_empty p.traps) (range_with_len 0 (storage_count p.architecture)) (range_rises 0 (storage_count p.architecture)))

-- ---- the traps of a card

pub few_empty : (p : Places) (a : Architecture) → p.architecture ≡ a → KeepsRules a → (length (empty_storage p) ≤ storage_count a) × (storage_count a ≤ 65536)
few_empty p a e rules =
    let n = storage_count p.architecture in
    let same : n ≡ storage_count a = ap storage_count e in
    (omega (arith, same, length-filter (is_empty p.traps) (range_with_len 0 n), count_by-le-length (is_empty p.traps) (range_with_len 0 n), length-range_with_len 0 n), storage_count_most a rules)

pub rests : (p : Places) (q t : ℕ) → slice_get p.traps q ≡ Some t → trap_in p q ≡ t
rests p q t is = get_or_from_slice_get p.traps q t 0 is

-- ---- the walk over all storage traps

-- the price of one trap more
pub price_more : (f : ℕ → ℤ) (e : ℕ → Bool) (t : ℕ) (b : Bool) → e t ≡ b → map f (filter e (range_with_len 0 (t + 1))) ≡ map f (filter e (range_with_len 0 t)) ++ cond b (f t ∷ []) []
price_more f e t b is =
    ap (map f) (filter_more e t b is) ∙ map-append f (filter e (range_with_len 0 t)) (cond b (t ∷ []) []) ∙ ap (λ (l : List ℤ). map f (filter e (range_with_len 0 t)) ++ l) (chosen b)
  where
    chosen : (c : Bool) → map f (cond c (t ∷ []) []) ≡ cond c (f t ∷ []) []
    chosen true = refl
    chosen false = refl

-- the offered traps from the next one on stand at t or behind it; where none of them is t, behind it
pub behind : (os : List ℕ) (next t : ℕ) → ((k : ℕ) → next ≤ k → k < length os → t ≤ get_or os k 0) → ((k : ℕ) → next ≤ k → k < length os → get_or os k 0 ≢ t) → (k : ℕ) → next ≤ k → k < length os → t + 1 ≤ get_or os k 0
behind os next t after other k le lt = let apart = other k le lt in omega (arith, after k le lt, apart)

-- the offered traps before the next one stand before t, and the next one at t
pub before_next : (os : List ℕ) (next t : ℕ) → ((k : ℕ) → k < next → get_or os k 0 < t) → get_or os next 0 ≡ t → (k : ℕ) → k < next + 1 → get_or os k 0 < t + 1
before_next os next t before at k lt =
    elim (cases_lt k next) as (λ _. get_or os k 0 < t + 1) [
      | inl less ↦ omega (arith, before k less)
      | inr more ↦ let e : next ≡ k = omega arith in omega (arith, ap (λ (i : ℕ). get_or os i 0) e, at)
    ]

-- the next offered trap is the only one at its number
pub others_differ : (os : List ℕ) (next t : ℕ) → AllPairs (λ a b. a < b) os → ((k : ℕ) → next ≤ k → k < length os → t ≤ get_or os k 0) → (next < length os → get_or os next 0 ≢ t) → (k : ℕ) → next ≤ k → k < length os → get_or os k 0 ≢ t
others_differ os next t rising after first k le lt same =
    elim (cases_lt next k) as (λ _. ⊥) [
      | inl less ↦ omega (arith, rising next k 0 less lt, after next (omega arith) (omega arith), same)
      | inr more ↦ let e : next ≡ k = omega arith in first (omega arith) (ap (λ (i : ℕ). get_or os i 0) e ∙ same)
    ]

pub not_offered : (os : List ℕ) (next t : ℕ) → ((k : ℕ) → k < next → get_or os k 0 < t) → ((k : ℕ) → next ≤ k → k < length os → get_or os k 0 ≢ t) → Contains os t → ⊥
not_offered os next t before after c =
    let at : get_or os c.0 0 ≡ t = get_or_default os c.0 0 t c.1 ∙ c.2 in
    elim (cases_lt c.0 next) as (λ _. ⊥) [
      | inl less ↦ omega (arith, before c.0 less, at)
      | inr more ↦ after c.0 more c.1 at
    ]

-- a trap with an atom isn't offered
pub taken_not_offered : (p : Places) (os : List ℕ) (t : ℕ) → All (Contains (empty_storage p)) os → is_empty p.traps t ≡ false → (k : ℕ) → k < length os → get_or os k 0 ≢ t
taken_not_offered p os t empty taken k lt same =
    let free = (contains_from_filter (is_empty p.traps) (get_or os k 0) (range_with_len 0 (storage_count p.architecture)) (empty k 0 lt)).1 in
    (let both : true ≡ false = sym free ∙ ap (is_empty p.traps) same ∙ taken in cc)

-- ---- the answer for the offer, in the offer's own terms

pub placing_of : (offered xs : List ℕ) (m n : ℕ) (targets : List ℕ) → xs ≡ offered → m ≡ n → IsPlacing xs m targets → IsPlacing offered n targets
placing_of offered xs m n targets e f placing =
    subst (λ (k : ℕ). IsPlacing offered k targets) f (subst (λ (l : List ℕ). IsPlacing l m targets) e placing)

pub proof_of : (cost : ℕ → ℕ → ℕ) (offered xs ys : List ℕ) (n : ℕ) (costs : Table) (targets : List ℕ) (row_price place_price : List ℤ) → xs ≡ offered → ys ≡ offered → Tabulates cost xs n costs →
    ((pays : ℕ → ℕ → ℕ) → Tabulates pays ys costs.rows costs → ProvesPlacing pays ys costs.rows targets row_price place_price) → ProvesPlacing cost offered n targets row_price place_price
proof_of cost offered xs ys n costs targets row_price place_price e f tab proves =
    let there : Tabulates cost ys costs.rows costs = subst (λ (l : List ℕ). Tabulates cost l costs.rows costs) (e ∙ sym f) (subst (λ (k : ℕ). Tabulates cost xs k costs) (sym tab.rows_are) tab) in
    subst (λ (k : ℕ). ProvesPlacing cost offered k targets row_price place_price) tab.rows_are
    (subst (λ (l : List ℕ). ProvesPlacing cost l costs.rows targets row_price place_price) f (proves cost there))
