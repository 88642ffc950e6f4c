-- Rising tracks, one more track, and how many there are.
use Rattle.std.proofs.Common.{◌≡◌, ◌≢◌, ◌↔◌, ℕ, zero, suc, ◌+◌, ◌-◌, ◌<◌, ◌≤◌, ◌==◌, ◌||◌, Bool, true, false, inl, inr, cond, leb, List, [], ◌∷◌, ◌++◌, IsTrue, length, map, get_or, refl, sym, ap, ◌∙◌, subst, arith, All}
use Rattle.std.specs.List.{Contains, insert}
use Rattle.std.specs.List.Sorted.{IsPermutation, IsNonDecreasingBy}
use Rattle.std.proofs.lemmas.Bool.{cases_lt, eq-eqb, leb-true, le-leb, ne_eqb, or_cases, or_from, or_left, or_right}
use Rattle.std.proofs.lemmas.Bool.Decides.{Decides-eqb}
use Rattle.std.proofs.lemmas.List.Elements.{All-contains, All-contains_itself, All-push, All-weaker, Contains-append_left, Contains-push, Contains-push_cases}
use Rattle.std.proofs.lemmas.List.{get_or_default}
use Rattle.std.proofs.lemmas.List.Edits.{get_or-insert_above, get_or-insert_at, get_or-insert_below, length-insert}
use Rattle.std.proofs.lemmas.List.Sorted.{All-permutation, IsPermutation-insert, IsPermutation-sym, IsPermutation-to_front, IsPermutation-trans}
use Rattle.zac_group.specs.declared.tracks.Track.{Track}
use Rattle.zac_group.specs.Groups.{count_distinct}
use Rattle.zac_group.specs.Tracks.{AreRising, AreTracksOf, IsBelow, IsBetween, KeepsOrder}
use Rattle.zac_group.proofs.Compare.{cmp_equal, cmp_greater, cmp_less}
use Rattle.zac_group.proofs.Distinct.{count_same, has}

-- where tracks begin
abbrev pub begins : List Track → List ℕ
begins ts = map (λ (t : Track). t.from) ts

-- some track
nowhere : Track
nowhere = record { from = 0; to = 0 }

pub keeps_below : (s t : Track) → IsBelow s t → KeepsOrder s t
keeps_below s t h = cmp_less s.from t.from h.from ∙ sym (cmp_less s.to t.to h.to)

pub keeps_above : (s t : Track) → IsBelow t s → KeepsOrder s t
keeps_above s t h = cmp_greater s.from t.from h.from ∙ sym (cmp_greater s.to t.to h.to)

pub keeps_same : (s t : Track) → s ≡ t → KeepsOrder s t
keeps_same s t e = cmp_equal s.from t.from (ap (λ (x : Track). x.from) e) ∙ sym (cmp_equal s.to t.to (ap (λ (x : Track). x.to) e))

pub begins_rise : (ts : List Track) → AreRising ts → IsNonDecreasingBy (λ (t : Track). t.from) ts
begins_rise ts h = λ i j d le j_in. elim (cases_lt i j) as (λ _. (get_or ts i d).from ≤ (get_or ts j d).from) [
  | inl lt ↦ let below = (h i j d lt j_in).from in omega arith
  | inr ge ↦ let e : i ≡ j = omega arith in subst (λ (k : ℕ). (get_or ts i d).from ≤ (get_or ts k d).from) e (omega arith)
]

-- a rising list with one of its tracks
pub shared_keeps : (ts : List Track) (t : Track) → AreRising ts → Contains ts t → All (KeepsOrder t) ts
shared_keeps ts t h c = λ k d k_in.
    let is : get_or ts c.0 t ≡ t = c.2 in
    let c_in = c.1 in
    let same : get_or ts c.0 d ≡ t = get_or_default ts c.0 d t c_in ∙ is in
    elim (cases_lt c.0 k) as (λ _. KeepsOrder t (get_or ts k d)) [
      | inl lt ↦ subst (λ (s : Track). KeepsOrder s (get_or ts k d)) same (keeps_below (get_or ts c.0 d) (get_or ts k d) (h c.0 k d lt k_in))
      | inr ge ↦ elim (cases_lt k c.0) as (λ _. KeepsOrder t (get_or ts k d)) [
        | inl lt ↦ subst (λ (s : Track). KeepsOrder s (get_or ts k d)) same (keeps_above (get_or ts c.0 d) (get_or ts k d) (h k c.0 d lt c_in))
        | inr le ↦ let e : c.0 ≡ k = omega arith in keeps_same t (get_or ts k d) (sym same ∙ ap (λ (n : ℕ). get_or ts n d) e)
      ]
    ]

-- a track between those of a rising list
pub between_keeps : (ts : List Track) (t : Track) (place : ℕ) → IsBetween ts t place → All (KeepsOrder t) ts
between_keeps ts t place h = λ k d k_in.
    elim (cases_lt k place) as (λ _. KeepsOrder t (get_or ts k d)) [
      | inl lt ↦ keeps_above t (get_or ts k d) (h.below k d lt)
      | inr ge ↦ keeps_below t (get_or ts k d) (h.above k d ge k_in)
    ]

-- how many there are
any_true : (n : ℕ) (ts : List Track) (k : ℕ) (d : Track) → k < length ts → (get_or ts k d).from ≡ n → has n (begins ts) ≡ true
any_true n [] k d lt e = absurd (omega arith)
any_true n (t ∷ ts) zero d lt e = or_left (t.from == n) (has n (begins ts)) (eq-eqb t.from n e)
any_true n (t ∷ ts) (suc k) d lt e = or_right (t.from == n) (has n (begins ts)) (any_true n ts k d (omega arith) e)

any_false : (n : ℕ) (ts : List Track) → ((k : ℕ) (d : Track) → k < length ts → (get_or ts k d).from ≢ n) → has n (begins ts) ≡ false
any_false n [] h = refl
any_false n (t ∷ ts) h =
    or_from (t.from == n) (has n (begins ts)) (ne_eqb t.from n (h zero t (omega arith))) (any_false n ts (λ k d lt. h (suc k) d (omega arith)))

any_gives : (n : ℕ) (ts : List Track) → has n (begins ts) ≡ true → (k : ℕ) × (k < length ts) × ((d : Track) → (get_or ts k d).from ≡ n)
any_gives n [] h = absurd (let x : false ≡ true = h in cc)
any_gives n (t ∷ ts) h =
    elim (or_cases (t.from == n) (has n (begins ts)) h) [
      | inl e ↦ (zero, omega arith, λ d. (Decides-eqb t.from n).0 e)
      | inr e ↦ let rest = any_gives n ts e in (suc rest.0, omega (arith, rest.1), rest.2)
    ]

count_rising : (ts : List Track) → AreRising ts → count_distinct (begins ts) ≡ length ts
count_rising [] h = refl
count_rising (t ∷ ts) h =
    let missing : has t.from (begins ts) ≡ false =
    any_false t.from ts (λ k d lt e. let below = (h zero (suc k) d (omega arith) (omega arith)).from in omega arith) in
    let rest : count_distinct (begins ts) ≡ length ts = count_rising ts (λ i j d lt j_in. h (suc i) (suc j) d (omega arith) (omega arith)) in
    ap (λ b. cond b (count_distinct (begins ts)) (count_distinct (begins ts) + 1)) missing ∙ omega arith

pub count_shared : (ts : List Track) (t : Track) → AreRising ts → Contains ts t → count_distinct (begins (t ∷ ts)) ≡ length ts
count_shared ts t h c =
    ap (λ b. cond b (count_distinct (begins ts)) (count_distinct (begins ts) + 1)) (any_true t.from ts c.0 t c.1 (ap (λ (s : Track). s.from) c.2))
    ∙ count_rising ts h

pub count_between : (ts : List Track) (t : Track) (place : ℕ) → AreRising ts → IsBetween ts t place → count_distinct (begins (t ∷ ts)) ≡ length ts + 1
count_between ts t place h between =
    let missing : has t.from (begins ts) ≡ false =
    any_false t.from ts (λ k d k_in e. elim (cases_lt k place) as (λ _. ⊥) [
      | inl lt ↦ let below = (between.below k d lt).from in omega arith
      | inr ge ↦ let above = (between.above k d ge k_in).from in omega arith
    ]) in
    ap (λ b. cond b (count_distinct (begins ts)) (count_distinct (begins ts) + 1)) missing ∙ ap (λ n. n + 1) (count_rising ts h)

-- a test of a number against a limit, beside a fact that holds
pub within_limit : (l n most : ℕ) (P : Type 0) → P → n ≡ l → IsTrue (leb l most) ↔ (P × (n ≤ most))
within_limit l n most P p e = (λ h. (p, omega (arith, leb-true l most h)), λ w. let le = w.1 in le-leb l most (omega arith))

-- other lists with the same tracks
both : (x y : Bool) → (x ≡ true → y ≡ true) → (y ≡ true → x ≡ true) → x ≡ y
both true y f g = sym (f refl)
both false true f g = g refl
both false false f g = refl

any_of : (n : ℕ) (ms ns : List Track) → All (Contains ns) ms → has n (begins ms) ≡ true → has n (begins ns) ≡ true
any_of n ms ns within h =
    let found = any_gives n ms h in
    let there = within found.0 nowhere found.1 in
    any_true n ns there.0 (get_or ms found.0 nowhere) there.1 (ap (λ (s : Track). s.from) there.2 ∙ found.2 nowhere)

pub count_of : (all ts : List Track) (t : Track) → AreTracksOf all ts → count_distinct (begins (t ∷ ts)) ≡ count_distinct (begins (t ∷ all))
count_of all ts t h =
    count_same (begins (t ∷ ts)) (begins (t ∷ all))
    (λ n. ap (λ b. (t.from == n) || b) (both (has n (begins ts)) (has n (begins all)) (any_of n ts all h.these) (any_of n all ts h.those)))

pub keeps_of : (all ts : List Track) (t : Track) → AreTracksOf all ts → All (KeepsOrder t) ts → All (KeepsOrder t) all
keeps_of all ts t h keeps = λ k d lt. All-contains (KeepsOrder t) ts (get_or all k d) keeps (h.those k d lt)

pub keeps_back : (all ts : List Track) (t : Track) → AreTracksOf all ts → All (KeepsOrder t) all → All (KeepsOrder t) ts
keeps_back all ts t h keeps = λ k d lt. All-contains (KeepsOrder t) all (get_or ts k d) keeps (h.these k d lt)

-- one more track
pub joined_shared : (ts : List Track) (t : Track) → AreRising ts → Contains ts t → AreTracksOf (ts ++ t ∷ []) ts
joined_shared ts t h c = record {
  rising = h;
  these = λ k d lt. Contains-append_left ts (t ∷ []) (get_or ts k d) (All-contains_itself ts k d lt);
  those = All-push (Contains ts) ts t (All-contains_itself ts) c;
}

insert_rises : (ts : List Track) (t : Track) (place : ℕ) → AreRising ts → IsBetween ts t place → AreRising (insert ts place t)
insert_rises ts t place h between = λ i j d lt j_in.
    let within = between.within in
    let long : length (insert ts place t) ≡ length ts + 1 = length-insert ts place t within in
    elim (cases_lt j place) as (λ _. IsBelow (get_or (insert ts place t) i d) (get_or (insert ts place t) j d)) [
      | inl j_low ↦
          subst (λ (s : Track). IsBelow s (get_or (insert ts place t) j d)) (sym (get_or-insert_below ts place t d i (omega arith) within))
          (subst (λ (s : Track). IsBelow (get_or ts i d) s) (sym (get_or-insert_below ts place t d j j_low within)) (h i j d lt (omega arith)))
      | inr j_high ↦ elim (cases_lt place j) as (λ _. IsBelow (get_or (insert ts place t) i d) (get_or (insert ts place t) j d)) [
        | inr j_at ↦
            let e : place ≡ j = omega arith in
            subst (λ (s : Track). IsBelow s (get_or (insert ts place t) j d)) (sym (get_or-insert_below ts place t d i (omega arith) within))
            (subst (λ (s : Track). IsBelow (get_or ts i d) s) (sym (get_or-insert_at ts place t d within) ∙ ap (λ (n : ℕ). get_or (insert ts place t) n d) e)
            (between.below i d (omega arith)))
        | inl j_above ↦
            let m : ℕ = j - 1 in
            let j_is : m + 1 ≡ j = omega arith in
            let later : get_or ts m d ≡ get_or (insert ts place t) j d = sym (get_or-insert_above ts place t d m (omega arith) within) ∙ ap (λ (n : ℕ). get_or (insert ts place t) n d) j_is in
            subst (λ (s : Track). IsBelow (get_or (insert ts place t) i d) s) later
            (elim (cases_lt i place) as (λ _. IsBelow (get_or (insert ts place t) i d) (get_or ts m d)) [
              | inl i_low ↦
                  subst (λ (s : Track). IsBelow s (get_or ts m d)) (sym (get_or-insert_below ts place t d i i_low within)) (h i m d (omega arith) (omega arith))
              | inr i_high ↦ elim (cases_lt place i) as (λ _. IsBelow (get_or (insert ts place t) i d) (get_or ts m d)) [
                | inr i_at ↦
                    let e : place ≡ i = omega arith in
                    subst (λ (s : Track). IsBelow s (get_or ts m d)) (sym (get_or-insert_at ts place t d within) ∙ ap (λ (n : ℕ). get_or (insert ts place t) n d) e)
                    (between.above m d (omega arith) (omega arith))
                | inl i_above ↦
                    let l : ℕ = i - 1 in
                    let i_is : l + 1 ≡ i = omega arith in
                    subst (λ (s : Track). IsBelow s (get_or ts m d)) (sym (get_or-insert_above ts place t d l (omega arith) within) ∙ ap (λ (n : ℕ). get_or (insert ts place t) n d) i_is)
                    (h l m d (omega arith) (omega arith))
              ]
            ])
      ]
    ]

pub joined_between : (ts : List Track) (t : Track) (place : ℕ) → AreRising ts → IsBetween ts t place → AreTracksOf (ts ++ t ∷ []) (insert ts place t)
joined_between ts t place h between =
    let moved : IsPermutation (ts ++ t ∷ []) (insert ts place t) =
    IsPermutation-trans (ts ++ t ∷ []) (t ∷ ts) (insert ts place t) (IsPermutation-to_front ts t) (IsPermutation-insert ts place t) in
    record {
      rising = insert_rises ts t place h between;
      these = All-permutation (Contains (ts ++ t ∷ [])) (ts ++ t ∷ []) (insert ts place t) moved (All-contains_itself (ts ++ t ∷ []));
      those = All-permutation (Contains (insert ts place t)) (insert ts place t) (ts ++ t ∷ [])
          (IsPermutation-sym (ts ++ t ∷ []) (insert ts place t) moved) (All-contains_itself (insert ts place t));
    }

pub joined_more : (all ts new : List Track) (t : Track) → AreTracksOf all ts → AreTracksOf (ts ++ t ∷ []) new → AreTracksOf (all ++ t ∷ []) new
joined_more all ts new t h k = record {
  rising = k.rising;
  these = All-weaker (Contains (ts ++ t ∷ [])) (Contains (all ++ t ∷ []))
      (λ x c. elim (Contains-push_cases ts t x c) as (λ _. Contains (all ++ t ∷ []) x) [
        | inl old ↦ Contains-append_left all (t ∷ []) x (All-contains (Contains all) ts x h.these old)
        | inr e ↦ subst (λ (y : Track). Contains (all ++ t ∷ []) y) e (Contains-push all t)
      ]) new k.these;
  those = All-push (Contains new) all t
      (All-weaker (Contains ts) (Contains new) (λ x c. All-contains (Contains new) (ts ++ t ∷ []) x k.those (Contains-append_left ts (t ∷ []) x c)) all h.those)
      (All-contains (Contains new) (ts ++ t ∷ []) t k.those (Contains-push ts t));
}

-- where the neighbours of a place tell that a track lies there
pub lies_between : (ts : List Track) (t z : Track) (place : ℕ) → AreRising ts → place ≤ length ts →
    ((k : ℕ) (d : Track) → k < place → (get_or ts k d).from < t.from) →
    (place < length ts → IsBelow t (get_or ts place z)) →
    (0 < place → (get_or ts (place - 1) z).to < t.to) → IsBetween ts t place
lies_between ts t z place h within before next last = record {
  within = within;
  below = λ k d lt. record {
    from = before k d lt;
    to =
        let end : (get_or ts (place - 1) d).to < t.to =
        subst (λ (s : Track). s.to < t.to) (get_or_default ts (place - 1) z d (omega arith)) (last (omega arith)) in
        elim (cases_lt k (place - 1)) as (λ _. (get_or ts k d).to < t.to) [
          | inl less ↦ let below = (h k (place - 1) d less (omega arith)).to in omega arith
          | inr ge ↦ let e : place - 1 ≡ k = omega arith in subst (λ (n : ℕ). (get_or ts n d).to < t.to) e end
        ];
  };
  above = λ k d ge k_in.
      let first : IsBelow t (get_or ts place d) =
      subst (λ (s : Track). IsBelow t s) (get_or_default ts place z d (omega arith)) (next (omega arith)) in
      elim (cases_lt place k) as (λ _. IsBelow t (get_or ts k d)) [
        | inl lt ↦ let below = h place k d lt k_in in record { from = omega arith; to = omega arith }
        | inr le ↦ let e : place ≡ k = omega arith in subst (λ (n : ℕ). IsBelow t (get_or ts n d)) e first
      ];
}
