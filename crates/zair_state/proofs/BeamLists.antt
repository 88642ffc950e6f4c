-- Beams that are put among others by rising id, and beams that are taken out.
use Rattle.std.proofs.Common.{◌≡◌, ◌≢◌, ℕ, suc, ◌+◌, ◌<◌, ◌≤◌, ◌⊎◌, inl, inr, Bool, true, false, cond, not, ◌||◌, eqb, ltb, List, [], ◌∷◌, length, map, refl, sym, ap, ◌∙◌, subst, arith, ltb-true, ltb-false, eqb-true, eq-eqb}
use Rattle.std.specs.List.{All, AllPairs, Contains, list_any}
use Rattle.std.proofs.lemmas.Bool.{cases_Bool}
use Rattle.std.proofs.lemmas.List.{length-map}
use Rattle.std.proofs.lemmas.List.Elements.{All-contains, All-nil, All-filter}
use Rattle.std.proofs.lemmas.List.Kept.{AllPairs-cons, AllPairs-filter}
use Rattle.std.proofs.lemmas.List.Filters.{length-filter_both}
use Rattle.std.proofs.lemmas.List.Sorted.{IsNonDecreasingBy-from_all_adjacent}
use Rattle.zair_form.specs.declared.step.Beam.{Beam}
use Rattle.zair_state.specs.State.{HasId, ArePlaced}
use Rattle.zair_state.specs.Legal.{AreOnce}
use Rattle.zair_state.specs.Result.{with_beam, with_beams, without_beams}
use Rattle.zair_state.specs.Invariant.{AreInOrder}
use Rattle.zair_state.proofs.Membership.{contains_none, contains_here, contains_later, contains_cases, all_from_contains, pairs_head, pairs_tail, pairs_none, contains_map, contained_in_map, contains_filter, contained_in_filter, one_by_key, rising_same}

-- beams by rising id
abbrev pub Rising : List Beam → Type 0
Rising beams = AllPairs (λ b c. b.id < c.id) beams

by_test : (P : List Beam → Type 0) (t : Bool) (x y : List Beam) → (t ≡ true → P x) → (t ≡ false → P y) → P (cond t x y)
by_test P true x y h k = h refl
by_test P false x y h k = k refl

-- a beam of the longer list is the new one or an old one
pub contained_in_with_beam : (b : Beam) (cs : List Beam) (x : Beam) → Contains (with_beam b cs) x → (b ≡ x) ⊎ Contains cs x
contained_in_with_beam b [] x h = contains_cases b x [] h
contained_in_with_beam b (c ∷ cs) x h =
    by_test (λ l. Contains l x → (b ≡ x) ⊎ Contains (c ∷ cs) x) (ltb b.id c.id) (b ∷ c ∷ cs) (c ∷ with_beam b cs)
    (λ lt there. contains_cases b x (c ∷ cs) there)
    (λ ge there. elim (contains_cases c x (with_beam b cs) there) [
      | inl e ↦ inr (subst (λ (z : Beam). Contains (c ∷ cs) z) e (contains_here c cs))
      | inr later ↦ elim (contained_in_with_beam b cs x later) [ inl e ↦ inl e | inr old ↦ inr (contains_later c x cs old) ]
    ])
    h

pub with_beam_here : (b : Beam) (cs : List Beam) → Contains (with_beam b cs) b
with_beam_here b [] = contains_here b []
with_beam_here b (c ∷ cs) =
    by_test (λ l. Contains l b) (ltb b.id c.id) (b ∷ c ∷ cs) (c ∷ with_beam b cs)
    (λ lt. contains_here b (c ∷ cs))
    (λ ge. contains_later c b (with_beam b cs) (with_beam_here b cs))

pub with_beam_later : (b : Beam) (cs : List Beam) (x : Beam) → Contains cs x → Contains (with_beam b cs) x
with_beam_later b [] x h = absurd (contains_none x h)
with_beam_later b (c ∷ cs) x h =
    by_test (λ l. Contains l x) (ltb b.id c.id) (b ∷ c ∷ cs) (c ∷ with_beam b cs)
    (λ lt. contains_later b x (c ∷ cs) h)
    (λ ge. elim (contains_cases c x cs h) [
      | inl e ↦ subst (λ (z : Beam). Contains (c ∷ with_beam b cs) z) e (contains_here c (with_beam b cs))
      | inr later ↦ contains_later c x (with_beam b cs) (with_beam_later b cs x later)
    ])

pub contained_in_with_beams : (new old : List Beam) (x : Beam) → Contains (with_beams new old) x → Contains new x ⊎ Contains old x
contained_in_with_beams [] old x h = inr h
contained_in_with_beams (b ∷ bs) old x h = elim (contained_in_with_beam b (with_beams bs old) x h) [
  | inl e ↦ inl (subst (λ (z : Beam). Contains (b ∷ bs) z) e (contains_here b bs))
  | inr rest ↦ elim (contained_in_with_beams bs old x rest) [ inl later ↦ inl (contains_later b x bs later) | inr there ↦ inr there ]
]

pub with_beams_new : (new old : List Beam) (x : Beam) → Contains new x → Contains (with_beams new old) x
with_beams_new [] old x h = absurd (contains_none x h)
with_beams_new (b ∷ bs) old x h = elim (contains_cases b x bs h) [
  | inl e ↦ subst (λ (z : Beam). Contains (with_beam b (with_beams bs old)) z) e (with_beam_here b (with_beams bs old))
  | inr later ↦ with_beam_later b (with_beams bs old) x (with_beams_new bs old x later)
]

pub with_beams_old : (new old : List Beam) (x : Beam) → Contains old x → Contains (with_beams new old) x
with_beams_old [] old x h = h
with_beams_old (b ∷ bs) old x h = with_beam_later b (with_beams bs old) x (with_beams_old bs old x h)

pub rising_with_beam : (b : Beam) (cs : List Beam) → Rising cs → ((c : Beam) → Contains cs c → c.id ≢ b.id) → Rising (with_beam b cs)
rising_with_beam b [] h other = AllPairs-cons (λ (b c : Beam). b.id < c.id) b [] (All-nil (λ (c : Beam). b.id < c.id)) (pairs_none (λ (b c : Beam). b.id < c.id))
rising_with_beam b (c ∷ cs) h other =
    let above : All (λ (x : Beam). c.id < x.id) cs = pairs_head (λ (b c : Beam). b.id < c.id) c cs h in
    by_test Rising (ltb b.id c.id) (b ∷ c ∷ cs) (c ∷ with_beam b cs)
    (λ t.
    let lt : b.id < c.id = ltb-true b.id c.id t in
    AllPairs-cons (λ (b c : Beam). b.id < c.id) b (c ∷ cs)
    (all_from_contains (λ (x : Beam). b.id < x.id) (c ∷ cs) (λ x in_list. elim (contains_cases c x cs in_list) [
      | inl e ↦ let same : c.id ≡ x.id = ap (λ (z : Beam). z.id) e in omega arith
      | inr later ↦ let far = All-contains (λ (x : Beam). c.id < x.id) cs x above later in omega arith
    ]))
    h)
    (λ t.
    let ge : c.id ≤ b.id = ltb-false b.id c.id t in
    let ne : c.id ≢ b.id = other c (contains_here c cs) in
    AllPairs-cons (λ (b c : Beam). b.id < c.id) c (with_beam b cs)
    (all_from_contains (λ (x : Beam). c.id < x.id) (with_beam b cs) (λ x in_list. elim (contained_in_with_beam b cs x in_list) [
      | inl e ↦ let same : b.id ≡ x.id = ap (λ (z : Beam). z.id) e in omega arith
      | inr later ↦ All-contains (λ (x : Beam). c.id < x.id) cs x above later
    ]))
    (rising_with_beam b cs (pairs_tail (λ (b c : Beam). b.id < c.id) c cs h) (λ x later. other x (contains_later c x cs later))))

pub has_id : (beams : List Beam) (b : Beam) → Contains beams b → HasId beams b.id
has_id beams b h = contains_map (λ (x : Beam). x.id) beams b h

pub beam_of_id : (beams : List Beam) (id : ℕ) → HasId beams id → (b : Beam) × Contains beams b × (b.id ≡ id)
beam_of_id beams id h = contained_in_map (λ (x : Beam). x.id) beams id h

pub rising_with_beams : (new old : List Beam) → AreOnce (map (λ (b : Beam). b.id) new) → ((b : Beam) → Contains new b → ¬ HasId old b.id) → Rising old → Rising (with_beams new old)
rising_with_beams [] old once fresh h = h
rising_with_beams (b ∷ bs) old once fresh h =
    let rest = rising_with_beams bs old (pairs_tail (λ (i j : ℕ). i ≢ j) b.id (map (λ (x : Beam). x.id) bs) once) (λ c later. fresh c (contains_later b c bs later)) h in
    rising_with_beam b (with_beams bs old) rest (λ c in_rest same. elim (contained_in_with_beams bs old c in_rest) [
      | inl later ↦ All-contains (λ (j : ℕ). b.id ≢ j) (map (λ (x : Beam). x.id) bs) c.id (pairs_head (λ (i j : ℕ). i ≢ j) b.id (map (λ (x : Beam). x.id) bs) once) (has_id bs c later) (sym same)
      | inr there ↦ fresh b (contains_here b bs) (subst (λ (id : ℕ). HasId old id) same (has_id old c there))
    ])

pub length_with_beam : (b : Beam) (cs : List Beam) → length (with_beam b cs) ≡ suc (length cs)
length_with_beam b [] = refl
length_with_beam b (c ∷ cs) =
    by_test (λ l. length l ≡ suc (suc (length cs))) (ltb b.id c.id) (b ∷ c ∷ cs) (c ∷ with_beam b cs) (λ t. refl) (λ t. ap suc (length_with_beam b cs))

pub rising_ids : (beams : List Beam) → Rising beams → AllPairs (λ (i j : ℕ). i < j) (map (λ (b : Beam). b.id) beams)
rising_ids [] h = pairs_none (λ (i j : ℕ). i < j)
rising_ids (b ∷ bs) h =
    AllPairs-cons (λ (i j : ℕ). i < j) b.id (map (λ (b : Beam). b.id) bs)
    (all_from_contains (λ (j : ℕ). b.id < j) (map (λ (b : Beam). b.id) bs) (λ j in_list.
    let r = beam_of_id bs j in_list in
    let lt = All-contains (λ (c : Beam). b.id < c.id) bs r.0 (pairs_head (λ (b c : Beam). b.id < c.id) b bs h) r.1 in
    let e : r.0.id ≡ j = r.2 in
    omega arith))
    (rising_ids bs (pairs_tail (λ (b c : Beam). b.id < c.id) b bs h))

-- two lists by rising id with the same ids are equally long
pub same_ids_same_length : (xs ys : List Beam) → Rising xs → Rising ys → ((id : ℕ) → HasId xs id → HasId ys id) → ((id : ℕ) → HasId ys id → HasId xs id) → length xs ≡ length ys
same_ids_same_length xs ys h k there back =
    sym (length-map xs (λ (b : Beam). b.id)) ∙ ap length (rising_same (map (λ (b : Beam). b.id) xs) (map (λ (b : Beam). b.id) ys) (rising_ids xs h) (rising_ids ys k) there back)
    ∙ length-map ys (λ (b : Beam). b.id)

-- each beam stands at least gap below every later one
pub spaced_pairs : (gap : ℕ) (beams : List Beam) → ArePlaced gap beams → AllPairs (λ (b c : Beam). b.at + gap ≤ c.at) beams
spaced_pairs gap beams h i j d before within =
    let up = IsNonDecreasingBy-from_all_adjacent (λ (b : Beam). b.at) beams (λ k e lt. let step = h.spaced k e lt in omega arith) in
    let next = h.spaced i d (omega arith) in
    let far = up (i + 1) j d (omega arith) within in
    omega arith

pub placed_from_pairs : (gap : ℕ) (beams : List Beam) → All (λ (b : Beam). b.at ≤ 1000000) beams → AllPairs (λ (b c : Beam). b.at + gap ≤ c.at) beams → ArePlaced gap beams
placed_from_pairs gap beams on h = record { on_the_field = on; spaced = λ k d lt. h k (k + 1) d (omega arith) lt }

-- with a gap of 1 at least, two beams at one position are one beam
pub one_at : (gap : ℕ) (beams : List Beam) (b c : Beam) → 1 ≤ gap → ArePlaced gap beams → Contains beams b → Contains beams c → b.at ≡ c.at → b ≡ c
one_at gap beams b c positive h in_b in_c e =
    one_by_key (λ (b : Beam). b.at) beams b c (λ i j d before within. let far = spaced_pairs gap beams h i j d before within in omega arith) in_b in_c e

pub one_of_id : (beams : List Beam) (b c : Beam) → Rising beams → Contains beams b → Contains beams c → b.id ≡ c.id → b ≡ c
one_of_id beams b c h in_b in_c e = one_by_key (λ (b : Beam). b.id) beams b c h in_b in_c e

-- the beam's id isn't among these
abbrev pub stays : List ℕ → Beam → Bool
stays ids b = not (list_any (λ id. eqb id b.id) ids)

pub among : (ids : List ℕ) (n : ℕ) → Contains ids n → list_any (λ id. eqb id n) ids ≡ true
among [] n h = absurd (contains_none n h)
among (id ∷ ids) n h = elim (contains_cases id n ids h) [
  | inl e ↦ subst (λ b. (b || list_any (λ i. eqb i n) ids) ≡ true) (sym (eq-eqb id n e)) refl
  | inr later ↦ elim (cases_Bool (eqb id n)) [
    | inl t ↦ subst (λ b. (b || list_any (λ i. eqb i n) ids) ≡ true) (sym t) refl
    | inr f ↦ subst (λ b. (b || list_any (λ i. eqb i n) ids) ≡ true) (sym f) (among ids n later)
  ]
]

pub found : (ids : List ℕ) (n : ℕ) → list_any (λ id. eqb id n) ids ≡ true → Contains ids n
found [] n e = cc
found (id ∷ ids) n e = elim (cases_Bool (eqb id n)) [
  | inl t ↦ subst (λ m. Contains (id ∷ ids) m) (eqb-true id n t) (contains_here id ids)
  | inr f ↦ contains_later id n ids (found ids n (subst (λ b. (b || list_any (λ i. eqb i n) ids) ≡ true) f e))
]

not_true : (b : Bool) → not b ≡ true → b ≡ true → ⊥
not_true true e t = cc
not_true false e t = cc

pub contained_in_without : (ids : List ℕ) (beams : List Beam) (b : Beam) → Contains (without_beams ids beams) b → Contains beams b × ¬ Contains ids b.id
contained_in_without ids beams b h =
    let r = contained_in_filter (stays ids) beams b h in
    (r.0, λ listed. not_true (list_any (λ id. eqb id b.id) ids) r.1 (among ids b.id listed))

pub contains_without : (ids : List ℕ) (beams : List Beam) (b : Beam) → Contains beams b → ¬ Contains ids b.id → Contains (without_beams ids beams) b
contains_without ids beams b h unlisted = elim (cases_Bool (list_any (λ id. eqb id b.id) ids)) [
  | inl t ↦ absurd (unlisted (found ids b.id t))
  | inr f ↦ contains_filter (stays ids) beams b h (ap not f)
]

pub length-without : (ids : List ℕ) (beams : List Beam) → length (without_beams ids beams) ≤ length beams
length-without ids beams =
    let both = length-filter_both (stays ids) (λ b. not (stays ids b)) (λ b. refl) beams in
    omega arith

pub in_order_without : (gap most : ℕ) (ids : List ℕ) (beams : List Beam) → AreInOrder gap most beams → AreInOrder gap most (without_beams ids beams)
in_order_without gap most ids beams h = record {
  few = let shorter = length-without ids beams in let few = h.few in omega arith;
  rising = AllPairs-filter (λ (b c : Beam). b.id < c.id) (stays ids) beams h.rising;
  placed = placed_from_pairs gap (without_beams ids beams)
      (All-filter (stays ids) (λ (b : Beam). b.at ≤ 1000000) beams h.placed.on_the_field)
      (AllPairs-filter (λ (b c : Beam). b.at + gap ≤ c.at) (stays ids) beams (spaced_pairs gap beams h.placed));
}
