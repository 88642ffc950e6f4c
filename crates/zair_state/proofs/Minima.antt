-- The least number with a property, found item by item.
use Rattle.std.proofs.Common.{◌≡◌, ℕ, zero, suc, ◌+◌, ◌-◌, ◌<◌, ◌≤◌, ◌⊎◌, inl, inr, Bool, true, false, not, IsTrue, min, ◌≢◌, ltb, ltb-true, lt-ltb, leb, leb-true, le-leb, append-nil, Option, Some, None, MatchOption, List, [], ◌∷◌, ◌++◌, length, take, get_or, map, refl, sym, ap, ◌∙◌, subst, arith, slice_get}
use Rattle.std.specs.List.{Any, Contains, flat_map}
use Rattle.std.proofs.lemmas.List.Concat.{flat_map-append}
use Rattle.std.proofs.lemmas.Bool.{cases_lt, false≢true}
use Rattle.std.proofs.lemmas.List.{take_more, take_all}
use Rattle.std.proofs.lemmas.Option.{slice_get_within, slice_get-get_or, get_or_from_slice_get}
use Rattle.zair_form.specs.declared.step.Beam.{Beam}
use Rattle.zair_state.specs.Faults.{IsTwice, IsOffField, AreNeighbours}
use Rattle.zair_state.specs.Least.{IsLeastOf, lesser_of, number_if}
use Rattle.zair_state.specs.State.{HasId}
use Rattle.zair_state.proofs.Membership.{contains_none, contains_here, contains_later, contains_cases, contains_map, contained_in_map, any_contained, any_from_contained}

-- P and Q are the same
abbrev pub Same : Type 0 → Type 0 → Type 0
Same P Q = (P → Q) × (Q → P)

pub least_of_either : (P R S : ℕ → Type 0) (o o' : Option ℕ) → ((n : ℕ) → S n → P n ⊎ R n) → ((n : ℕ) → P n → S n) → ((n : ℕ) → R n → S n) → IsLeastOf P o → IsLeastOf R o' → IsLeastOf S (lesser_of o o')
least_of_either P R S None None split left right h k = λ n s. elim (split n s) [ inl p ↦ h n p | inr r ↦ k n r ]
least_of_either P R S None (Some m) split left right h k =
    (right m k.0, λ n s. elim (split n s) [ inl p ↦ absurd (h n p) | inr r ↦ k.1 n r ])
least_of_either P R S (Some n) None split left right h k =
    (left n h.0, λ m s. elim (split m s) [ inl p ↦ h.1 m p | inr r ↦ absurd (k m r) ])
least_of_either P R S (Some n) (Some m) split left right h k =
    elim (cases_lt n m) as (λ _. IsLeastOf S (Some (min n m))) [
      | inl lt ↦
          let e : min n m ≡ n = omega arith in
          (subst S (sym e) (left n h.0), λ x s. elim (split x s) [ inl p ↦ let le = h.1 x p in omega arith | inr r ↦ let le = k.1 x r in omega arith ])
      | inr ge ↦
          let e : min n m ≡ m = omega arith in
          (subst S (sym e) (right m k.0), λ x s. elim (split x s) [ inl p ↦ let le = h.1 x p in omega arith | inr r ↦ let le = k.1 x r in omega arith ])
    ]

pub least_one : (Q : Type 0) (test : Bool) (k : ℕ) → Same (IsTrue test) Q → IsLeastOf (λ n. Q × (k ≡ n)) (number_if test k)
least_one Q true k same = ((same.0 refl, refl), λ m h. let e = h.1 in omega arith)
least_one Q false k same = λ n h. absurd (false≢true (same.1 h.0))

pub least_same : (P S : ℕ → Type 0) (o : Option ℕ) → ((n : ℕ) → Same (P n) (S n)) → IsLeastOf P o → IsLeastOf S o
least_same P S None same h = λ n s. h n ((same n).1 s)
least_same P S (Some n) same h = ((same n).0 h.0, λ m s. h.1 m ((same m).1 s))

pub contains_end : {X : Type 0} (xs : List X) (x y : X) → Contains (xs ++ x ∷ []) y → Contains xs y ⊎ (x ≡ y)
contains_end [] x y h = elim (contains_cases x y [] h) [ inl e ↦ inr e | inr none ↦ absurd (contains_none y none) ]
contains_end (z ∷ zs) x y h = elim (contains_cases z y (zs ++ x ∷ []) h) [
  | inl e ↦ inl (subst (λ v. Contains (z ∷ zs) v) e (contains_here z zs))
  | inr later ↦ elim (contains_end zs x y later) [ inl there ↦ inl (contains_later z y zs there) | inr e ↦ inr e ]
]

pub contains_before : {X : Type 0} (xs : List X) (x y : X) → Contains xs y → Contains (xs ++ x ∷ []) y
contains_before [] x y h = absurd (contains_none y h)
contains_before (z ∷ zs) x y h = elim (contains_cases z y zs h) [
  | inl e ↦ subst (λ v. Contains (z ∷ zs ++ x ∷ []) v) e (contains_here z (zs ++ x ∷ []))
  | inr later ↦ contains_later z y (zs ++ x ∷ []) (contains_before zs x y later)
]

pub contains_last : {X : Type 0} (xs : List X) (x : X) → Contains (xs ++ x ∷ []) x
contains_last [] x = contains_here x []
contains_last (z ∷ zs) x = contains_later z x (zs ++ x ∷ []) (contains_last zs x)

module _ {X : Type 0} (key : X → ℕ) (Q : X → Type 0) where
  -- the key of an item with Q
  abbrev pub KeyOf : List X → ℕ → Type 0
  KeyOf xs n = (x : X) × Contains xs x × Q x × (key x ≡ n)

  pub least_start : IsLeastOf (KeyOf []) None
  least_start = λ n h. contains_none h.0 h.1

  key_split : (xs : List X) (x : X) (n : ℕ) → KeyOf (xs ++ x ∷ []) n → KeyOf xs n ⊎ (Q x × (key x ≡ n))
  key_split xs x n h = elim (contains_end xs x h.0 h.1) [
    | inl there ↦ inl (h.0, there, h.2, h.3)
    | inr e ↦ inr (subst Q (sym e) h.2, ap key e ∙ h.3)
  ]

  pub least_more : (xs : List X) (k : ℕ) (d : X) (test : Bool) (o : Option ℕ) → k < length xs → Same (IsTrue test) (Q (get_or xs k d)) → IsLeastOf (KeyOf (take k xs)) o → IsLeastOf (KeyOf (take (k + 1) xs)) (lesser_of o (number_if test (key (get_or xs k d))))
  least_more xs k d test o lt same h =
      let x = get_or xs k d in
      let e : take k xs ++ x ∷ [] ≡ take (k + 1) xs = sym (take_more xs k d lt) in
      subst (λ ys. IsLeastOf (KeyOf ys) (lesser_of o (number_if test (key x)))) e
      (least_of_either (KeyOf (take k xs)) (λ n. Q x × (key x ≡ n)) (KeyOf (take k xs ++ x ∷ [])) o (number_if test (key x))
      (key_split (take k xs) x)
      (λ n h. (h.0, contains_before (take k xs) x h.0 h.1, h.2, h.3))
      (λ n h. (x, contains_last (take k xs) x, h.0, h.1))
      h
      (least_one (Q x) test (key x) same))

  pub least_whole : (S : ℕ → Type 0) (xs : List X) (k : ℕ) (o : Option ℕ) → length xs ≤ k → ((n : ℕ) → Same (KeyOf xs n) (S n)) → IsLeastOf (KeyOf (take k xs)) o → IsLeastOf S o
  least_whole S xs k o le same h =
      least_same (KeyOf xs) S o same (subst (λ ys. IsLeastOf (KeyOf ys) o) (take_all k xs le) h)

-- one of the beams has the id
pub any_id : (beams : List Beam) (id : ℕ) → Same (Any (λ (b : Beam). b.id ≡ id) beams) (HasId beams id)
any_id beams id = (
  λ h.
      let r = any_contained (λ (b : Beam). b.id ≡ id) beams h in
      subst (HasId beams) r.2 (contains_map (λ (b : Beam). b.id) beams r.0 r.1),
  λ h.
      let r = contained_in_map (λ (b : Beam). b.id) beams id h in
      any_from_contained (λ (b : Beam). b.id ≡ id) beams r.0 r.1 r.2,
)

pub not_same : (test : Bool) (P : Type 0) → Same (IsTrue test) P → Same (IsTrue (not test)) (¬ P)
not_same true P same = (λ e. absurd (false≢true e), λ none. absurd (none (same.0 refl)))
not_same false P same = (λ e p. false≢true (same.1 p), λ none. refl)

pub same_trans : (P Q R : Type 0) → Same P Q → Same Q R → Same P R
same_trans P Q R h k = (λ p. k.0 (h.0 p), λ r. h.1 (k.1 r))

-- an id of beams with Q on their ids, and a property of the id beside
pub ids_with : (beams : List Beam) (Q : ℕ → Type 0) (id : ℕ) → Same (KeyOf (λ (b : Beam). b.id) (λ b. Q b.id) beams id) (HasId beams id × Q id)
ids_with beams Q id = (
  λ h. (subst (HasId beams) h.3 (contains_map (λ (b : Beam). b.id) beams h.0 h.1), subst Q h.3 h.2),
  λ h.
      let r = contained_in_map (λ (b : Beam). b.id) beams id h.0 in (r.0, r.1, subst Q (sym r.2) h.1, r.2),
)

pub listed_with : (ids : List ℕ) (Q : ℕ → Type 0) (id : ℕ) → Same (KeyOf (λ (i : ℕ). i) Q ids id) (Contains ids id × Q id)
listed_with ids Q id =
    (λ h. (subst (λ i. Contains ids i) h.3 h.1, subst Q h.3 h.2), λ h. (id, h.0, h.1, refl))

-- the key of an item, with Q on it
pub any_with : {X : Type 0} (key : X → ℕ) (Q : ℕ → Type 0) (xs : List X) (n : ℕ) → Same (KeyOf key (λ x. Q (key x)) xs n) (Any (λ x. key x ≡ n) xs × Q n)
any_with key Q xs n = (
  λ h. (any_from_contained (λ x. key x ≡ n) xs h.0 h.1 h.3, subst Q h.3 h.2),
  λ h.
      let r = any_contained (λ x. key x ≡ n) xs h.0 in (r.0, r.1, subst Q (sym r.2) h.1, r.2),
)

-- twice in a list that is one longer
twice_at : (ns : List ℕ) (n i : ℕ) → i < length ns → get_or ns i 0 ≡ n → slice_get ns i ≡ Some n
twice_at ns n i lt e = slice_get-get_or ns i 0 lt ∙ ap Some e

pub get_end : (ns : List ℕ) (m i : ℕ) → i < length ns → slice_get (ns ++ m ∷ []) i ≡ slice_get ns i
get_end [] m i lt = absurd (omega arith)
get_end (n ∷ ns) m zero lt = refl
get_end (n ∷ ns) m (suc i) lt = get_end ns m i (omega arith)

pub get_last : (ns : List ℕ) (m : ℕ) → slice_get (ns ++ m ∷ []) (length ns) ≡ Some m
get_last [] m = refl
get_last (n ∷ ns) m = get_last ns m

end_within : (ns : List ℕ) (m i n : ℕ) → slice_get (ns ++ m ∷ []) i ≡ Some n → (i < length ns) ⊎ (i ≡ length ns)
end_within [] m zero n e = inr refl
end_within [] m (suc i) n e = absurd (cc)
end_within (x ∷ ns) m zero n e = inl (omega arith)
end_within (x ∷ ns) m (suc i) n e = elim (end_within ns m i n e) [ inl lt ↦ inl (omega arith) | inr same ↦ inr (ap suc same) ]

pub twice_split : (ns : List ℕ) (m n : ℕ) → IsTwice (ns ++ m ∷ []) n → IsTwice ns n ⊎ (Contains ns m × (m ≡ n))
twice_split ns m n h = elim (end_within ns m h.1 n h.4) [
  | inl lt ↦ inl (h.0, h.1, h.2, sym (get_end ns m h.0 (omega (arith, h.2))) ∙ h.3, sym (get_end ns m h.1 lt) ∙ h.4)
  | inr last ↦
      let before : h.0 < length ns = omega (arith, h.2) in
      let at : slice_get ns h.0 ≡ Some n = sym (get_end ns m h.0 before) ∙ h.3 in
      let there : slice_get (ns ++ m ∷ []) (length ns) ≡ Some n = ap (slice_get (ns ++ m ∷ [])) (sym last) ∙ h.4 in
      let end = get_last ns m in
      let same : m ≡ n = cc in
      inr (subst (λ v. Contains ns v) (sym same) (h.0, before, get_or_from_slice_get ns h.0 n n at), same)
]

pub twice_before : (ns : List ℕ) (m n : ℕ) → IsTwice ns n → IsTwice (ns ++ m ∷ []) n
twice_before ns m n h =
    (h.0, h.1, h.2, get_end ns m h.0 (slice_get_within ns h.0 n h.3) ∙ h.3, get_end ns m h.1 (slice_get_within ns h.1 n h.4) ∙ h.4)

pub twice_last : (ns : List ℕ) (m n : ℕ) → Contains ns m × (m ≡ n) → IsTwice (ns ++ m ∷ []) n
twice_last ns m n h =
    let at : slice_get ns h.0.0 ≡ Some m = slice_get-get_or ns h.0.0 m h.0.1 ∙ ap Some h.0.2 in
    (h.0.0, length ns, h.0.1, get_end ns m h.0.0 h.0.1 ∙ at ∙ ap Some h.1, get_last ns m ∙ ap Some h.1)

map_end : {X : Type 0} (key : X → ℕ) (xs : List X) (x : X) → map key (xs ++ x ∷ []) ≡ map key xs ++ key x ∷ []
map_end key [] x = refl
map_end key (y ∷ ys) x = ap (λ ns. key y ∷ ns) (map_end key ys x)

pub least_twice_more : {X : Type 0} (key : X → ℕ) (xs : List X) (k : ℕ) (d : X) (test : Bool) (o : Option ℕ) → k < length xs → Same (IsTrue test) (Contains (map key (take k xs)) (key (get_or xs k d))) → IsLeastOf (IsTwice (map key (take k xs))) o → IsLeastOf (IsTwice (map key (take (k + 1) xs))) (lesser_of o (number_if test (key (get_or xs k d))))
least_twice_more key xs k d test o lt same h =
    let x = get_or xs k d in
    let ns = map key (take k xs) in
    let e : ns ++ key x ∷ [] ≡ map key (take (k + 1) xs) = sym (map_end key (take k xs) x) ∙ ap (map key) (sym (take_more xs k d lt)) in
    subst (λ ys. IsLeastOf (IsTwice ys) (lesser_of o (number_if test (key x)))) e
    (least_of_either (IsTwice ns) (λ n. Contains ns (key x) × (key x ≡ n)) (IsTwice (ns ++ key x ∷ [])) o (number_if test (key x)) (twice_split ns (key x)) (twice_before ns (key x)) (twice_last ns (key x)) h
    (least_one (Contains ns (key x)) test (key x) same))

pub least_twice_start : IsLeastOf (IsTwice []) None
least_twice_start = λ n h. let e = h.3 in absurd (cc)

pub least_twice_whole : {X : Type 0} (key : X → ℕ) (xs : List X) (k : ℕ) (o : Option ℕ) → length xs ≤ k → IsLeastOf (IsTwice (map key (take k xs))) o → IsLeastOf (IsTwice (map key xs)) o
least_twice_whole key xs k o le h = subst (λ ys. IsLeastOf (IsTwice (map key ys)) o) (take_all k xs le) h

pub same_or : (P Q R S : Type 0) → Same P Q → Same R S → Same (P ⊎ R) (Q ⊎ S)
same_or P Q R S h k =
    (λ x. elim x [ inl p ↦ inl (h.0 p) | inr r ↦ inr (k.0 r) ], λ x. elim x [ inl q ↦ inl (h.1 q) | inr s ↦ inr (k.1 s) ])

pub either_id : (beams others : List Beam) (id : ℕ) (test : Bool) → Same (IsTrue test) (Any (λ (b : Beam). b.id ≡ id) beams ⊎ Any (λ (b : Beam). b.id ≡ id) others) → Same (IsTrue (not test)) (¬ (HasId beams id ⊎ HasId others id))
either_id beams others id test same =
    not_same test (HasId beams id ⊎ HasId others id) (same_trans (IsTrue test) (Any (λ (b : Beam). b.id ≡ id) beams ⊎ Any (λ (b : Beam). b.id ≡ id) others) (HasId beams id ⊎ HasId others id) same (same_or _ _ _ _ (any_id beams id) (any_id others id)))

-- what a comparison tells
pub told_less : (m n : ℕ) → Same (IsTrue (ltb m n)) (m < n)
told_less m n = elim (cases_lt m n) as (λ _. Same (IsTrue (ltb m n)) (m < n)) [
  | inl lt ↦ (λ _. lt, λ _. lt-ltb m n lt)
  | inr ge ↦ (λ e. ltb-true m n e, λ lt. absurd (omega (arith, lt, ge)))
]

pub off_with : (beams : List Beam) (id : ℕ) → Same (KeyOf (λ (b : Beam). b.id) (λ b. 1000000 < b.at) beams id) (IsOffField beams id)
off_with beams id = (
  λ h. any_from_contained (λ (b : Beam). (b.id ≡ id) × (1000000 < b.at)) beams h.0 h.1 (h.3, h.2),
  λ h.
      let r = any_contained (λ (b : Beam). (b.id ≡ id) × (1000000 < b.at)) beams h in (r.0, r.1, r.2.1, r.2.0),
)

pub at_any : {X : Type 0} (key : X → ℕ) (xs : List X) (n : ℕ) → Same (KeyOf key (λ x. Unit {0}) xs n) (Any (λ x. key x ≡ n) xs)
at_any key xs n = (
  λ h. any_from_contained (λ x. key x ≡ n) xs h.0 h.1 h.3,
  λ h.
      let r = any_contained (λ x. key x ≡ n) xs h in (r.0, r.1, tt, r.2),
)

pub none_yet : (id : ℕ) → ¬ HasId [] id
none_yet id h = contains_none id h

pub none_next : (beams : List Beam) (k : ℕ) (d : Beam) (id : ℕ) → k < length beams → ¬ HasId (take k beams) id → (get_or beams k d).id ≢ id → ¬ HasId (take (k + 1) beams) id
none_next beams k d id lt none other h =
    let x = get_or beams k d in
    let e : map (λ (b : Beam). b.id) (take (k + 1) beams) ≡ map (λ (b : Beam). b.id) (take k beams) ++ x.id ∷ [] = ap (map (λ (b : Beam). b.id)) (take_more beams k d lt) ∙ map_end (λ (b : Beam). b.id) (take k beams) x in
    elim (contains_end (map (λ (b : Beam). b.id) (take k beams)) x.id id (subst (λ ns. Contains ns id) e h)) [ inl there ↦ none there | inr same ↦ other same ]

pub none_at_all : (beams : List Beam) (k id : ℕ) → length beams ≤ k → ¬ HasId (take k beams) id → ¬ HasId beams id
none_at_all beams k id le none h = none (subst (λ ys. HasId ys id) (sym (take_all k beams le)) h)

map_itself : (ns : List ℕ) → map (λ (i : ℕ). i) ns ≡ ns
map_itself [] = refl
map_itself (n ∷ ns) = ap (λ ms. n ∷ ms) (map_itself ns)

pub least_twice_listed : (ns : List ℕ) (k : ℕ) (d : ℕ) (test : Bool) (o : Option ℕ) → k < length ns → Same (IsTrue test) (Contains (take k ns) (get_or ns k d)) → IsLeastOf (IsTwice (map (λ (i : ℕ). i) (take k ns))) o → IsLeastOf (IsTwice (map (λ (i : ℕ). i) (take (k + 1) ns))) (lesser_of o (number_if test (get_or ns k d)))
least_twice_listed ns k d test o lt same h =
    least_twice_more (λ (i : ℕ). i) ns k d test o lt (subst (λ ms. Same (IsTrue test) (Contains ms (get_or ns k d))) (sym (map_itself (take k ns))) same) h

pub least_twice_listed_whole : (ns : List ℕ) (k : ℕ) (o : Option ℕ) → length ns ≤ k → IsLeastOf (IsTwice (map (λ (i : ℕ). i) (take k ns))) o → IsLeastOf (IsTwice ns) o
least_twice_listed_whole ns k o le h = subst (λ ms. IsLeastOf (IsTwice ms) o) (map_itself ns) (least_twice_whole (λ (i : ℕ). i) ns k o le h)

pub told_most : (m n : ℕ) → Same (IsTrue (leb m n)) (m ≤ n)
told_most m n = (λ e. leb-true m n e, λ le. le-leb m n le)

-- the key of an item as a number of the map
pub map_with : {X : Type 0} (key : X → ℕ) (Q : ℕ → Type 0) (xs : List X) (n : ℕ) → Same (KeyOf key (λ x. Q (key x)) xs n) (Contains (map key xs) n × Q n)
map_with key Q xs n = (
  λ h. (subst (λ m. Contains (map key xs) m) h.3 (contains_map key xs h.0 h.1), subst Q h.3 h.2),
  λ h.
      let r = contained_in_map key xs n h.0 in (r.0, r.1, subst Q (sym r.2) h.1, r.2),
)

-- one of the two keys of an item
pub least_pair_more : {X : Type 0} (one two : X → ℕ) (Q : ℕ → Type 0) (xs : List X) (k : ℕ) (d : X) (o p q r : Option ℕ) (first second : Bool) → k < length xs
    → p ≡ lesser_of None (number_if first (one (get_or xs k d))) → q ≡ lesser_of p (number_if second (two (get_or xs k d))) → r ≡ lesser_of o q
    → Same (IsTrue first) (Q (one (get_or xs k d))) → Same (IsTrue second) (Q (two (get_or xs k d)))
    → IsLeastOf (λ n. Contains (flat_map (λ x. one x ∷ two x ∷ []) (take k xs)) n × Q n) o → IsLeastOf (λ n. Contains (flat_map (λ x. one x ∷ two x ∷ []) (take (k + 1) xs)) n × Q n) r
least_pair_more one two Q xs k d o p q r first second lt e f g told_one told_two =
    let x = get_or xs k d in
    let before = flat_map (λ x. one x ∷ two x ∷ []) (take k xs) in
    let all : flat_map (λ x. one x ∷ two x ∷ []) (take (k + 1) xs) ≡ before ++ (one x ∷ two x ∷ []) = ap (flat_map (λ x. one x ∷ two x ∷ [])) (take_more xs k d lt) ∙ flat_map-append (λ x. one x ∷ two x ∷ []) (take k xs) (x ∷ []) ∙ ap (λ ns. before ++ ns) (append-nil (one x ∷ two x ∷ [])) in
    let mine : IsLeastOf (λ n. (Q (one x) × (one x ≡ n)) ⊎ (Q (two x) × (two x ≡ n))) (lesser_of (number_if first (one x)) (number_if second (two x))) =
    least_of_either (λ n. Q (one x) × (one x ≡ n)) (λ n. Q (two x) × (two x ≡ n)) (λ n. (Q (one x) × (one x ≡ n)) ⊎ (Q (two x) × (two x ≡ n))) (number_if first (one x)) (number_if second (two x)) (λ n h. h) (λ n h. inl h) (λ n h. inr h) (least_one (Q (one x)) first (one x) told_one) (least_one (Q (two x)) second (two x) told_two) in
    rw (g, f, e, all) (λ h. least_of_either (λ n. Contains before n × Q n) (λ n. (Q (one x) × (one x ≡ n)) ⊎ (Q (two x) × (two x ≡ n))) (λ n. Contains (before ++ (one x ∷ two x ∷ [])) n × Q n) o (lesser_of (number_if first (one x)) (number_if second (two x)))
    (λ n h. elim (contains_two before (one x) (two x) n h.0) [
      | inl there ↦ inl (there, h.1)
      | inr last ↦ elim last [ inl e ↦ inr (inl (subst Q (sym e) h.1, e)) | inr e ↦ inr (inr (subst Q (sym e) h.1, e)) ]
    ])
    (λ n h. (contains_first before (one x ∷ two x ∷ []) n h.0, h.1))
    (λ n h. elim h [
      | inl y ↦ (contains_second before (one x ∷ two x ∷ []) n (subst (λ m. Contains (one x ∷ two x ∷ []) m) y.1 (contains_here (one x) (two x ∷ []))), subst Q y.1 y.0)
      | inr y ↦ (contains_second before (one x ∷ two x ∷ []) n (subst (λ m. Contains (one x ∷ two x ∷ []) m) y.1 (contains_later (one x) (two x) (two x ∷ []) (contains_here (two x) []))), subst Q y.1 y.0)
    ]) h mine)
  where
    contains_first : (xs ys : List ℕ) (n : ℕ) → Contains xs n → Contains (xs ++ ys) n
    contains_first [] ys n h = absurd (contains_none n h)
    contains_first (x ∷ xs) ys n h = elim (contains_cases x n xs h) [
      | inl e ↦ subst (λ m. Contains (x ∷ xs ++ ys) m) e (contains_here x (xs ++ ys))
      | inr later ↦ contains_later x n (xs ++ ys) (contains_first xs ys n later)
    ]

    contains_second : (xs ys : List ℕ) (n : ℕ) → Contains ys n → Contains (xs ++ ys) n
    contains_second [] ys n h = h
    contains_second (x ∷ xs) ys n h = contains_later x n (xs ++ ys) (contains_second xs ys n h)

    contains_two : (xs : List ℕ) (a b n : ℕ) → Contains (xs ++ (a ∷ b ∷ [])) n → Contains xs n ⊎ ((a ≡ n) ⊎ (b ≡ n))
    contains_two [] a b n h = elim (contains_cases a n (b ∷ []) h) [
      | inl e ↦ inr (inl e)
      | inr later ↦ elim (contains_cases b n [] later) [ inl e ↦ inr (inr e) | inr none ↦ absurd (contains_none n none) ]
    ]
    contains_two (x ∷ xs) a b n h = elim (contains_cases x n (xs ++ (a ∷ b ∷ [])) h) [
      | inl e ↦ inl (subst (λ m. Contains (x ∷ xs) m) e (contains_here x xs))
      | inr later ↦ elim (contains_two xs a b n later) [ inl there ↦ inl (contains_later x n xs there) | inr last ↦ inr last ]
    ]

-- neighbours up to the n-th beam, of which Q holds
abbrev pub Behind : (Beam → Beam → Type 0) → List Beam → ℕ → ℕ → Type 0
Behind Q beams n id =
    (k : ℕ) × (lower : Beam) × (upper : Beam) × (k + 1 < n) × (slice_get beams k ≡ Some lower) × (slice_get beams (k + 1) ≡ Some upper) × (upper.id ≡ id) × Q lower upper

pub least_behind_start : (Q : Beam → Beam → Type 0) (beams : List Beam) → IsLeastOf (Behind Q beams 1) None
least_behind_start Q beams = λ id h. let lt = h.3 in absurd (omega arith)

pub least_behind_more : (Q : Beam → Beam → Type 0) (beams : List Beam) (n : ℕ) (d : Beam) (test : Bool) (o : Option ℕ) → 1 ≤ n → n < length beams → Same (IsTrue test) (Q (get_or beams (n - 1) d) (get_or beams n d)) → IsLeastOf (Behind Q beams n) o → IsLeastOf (Behind Q beams (n + 1)) (lesser_of o (number_if test (get_or beams n d).id))
least_behind_more Q beams n d test o least lt same h =
    let lower = get_or beams (n - 1) d in
    let upper = get_or beams n d in
    let back : n - 1 + 1 ≡ n = omega arith in
    let at_lower : slice_get beams (n - 1) ≡ Some lower = slice_get-get_or beams (n - 1) d (omega arith) in
    let at_upper : slice_get beams (n - 1 + 1) ≡ Some upper = ap (slice_get beams) back ∙ slice_get-get_or beams n d lt in
    least_of_either (Behind Q beams n) (λ id. Q lower upper × (upper.id ≡ id)) (Behind Q beams (n + 1)) o (number_if test upper.id)
    (λ id x. elim (cases_lt (x.0 + 1) n) [
      | inl before ↦ inl (x.0, x.1, x.2, before, x.4, x.5, x.6, x.7)
      | inr last ↦
          let at : x.0 ≡ n - 1 = let more = x.3 in omega arith in
          let el : x.1 ≡ lower = let e : slice_get beams (n - 1) ≡ Some x.1 = ap (slice_get beams) (sym at) ∙ x.4 in cc in
          let eu : x.2 ≡ upper = let e : slice_get beams (n - 1 + 1) ≡ Some x.2 = ap (λ (i : ℕ). slice_get beams (i + 1)) (sym at) ∙ x.5 in cc in
          inr (subst (λ (b : Beam). Q b upper) el (subst (λ (b : Beam). Q x.1 b) eu x.7), ap (λ (b : Beam). b.id) (sym eu) ∙ x.6)
    ])
    (λ id x. (x.0, x.1, x.2, let lt = x.3 in omega arith, x.4, x.5, x.6, x.7))
    (λ id x. (n - 1, lower, upper, omega arith, at_lower, at_upper, x.1, x.0))
    h (least_one (Q lower upper) test upper.id same)

pub least_behind_whole : (Q : Beam → Beam → Type 0) (beams : List Beam) (n : ℕ) (o : Option ℕ) → length beams ≤ n → IsLeastOf (Behind Q beams n) o → IsLeastOf (λ id. (lower : Beam) × (upper : Beam) × AreNeighbours beams id lower upper × Q lower upper) o
least_behind_whole Q beams n o le h =
    least_same (Behind Q beams n) (λ id. (lower : Beam) × (upper : Beam) × AreNeighbours beams id lower upper × Q lower upper) o
    (λ id. (λ x. (x.1, x.2, (x.0, x.4, x.5, x.6), x.7), λ y. (y.2.0, y.0, y.1, let lt = slice_get_within beams (y.2.0 + 1) y.1 y.2.2 in omega arith, y.2.1, y.2.2, y.2.3, y.3))) h

pub at_some : {X : Type 0} (P : Type 0) (Q : X → Type 0) (o : Option X) (x : X) → o ≡ Some x → MatchOption o P Q → Q x
at_some P Q o x e h = subst (λ p. MatchOption p P Q) e h

pub at_none : {X : Type 0} (P : Type 0) (Q : X → Type 0) (o : Option X) → o ≡ None → MatchOption o P Q → P
at_none P Q o e h = subst (λ p. MatchOption p P Q) e h
