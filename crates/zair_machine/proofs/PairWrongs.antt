-- The first wrong pair of a pulse, found by marks on sites.
use Rattle.std.proofs.Common.{◌≡◌, ℕ, zero, suc, ◌+◌, ◌<◌, ◌≤◌, ◌⊎◌, inl, inr, Bool, false, Option, Some, None, MatchOption, List, [], length, take, get_or, replicate, sym, ◌∙◌, subst, arith, slice_get}
use Rattle.std.specs.List.{Any, Contains}
use Rattle.std.proofs.lemmas.Bool.{cases_lt, cases_eq, false≢true}
use Rattle.std.proofs.lemmas.List.{take_more, take_all}
use Rattle.std.proofs.lemmas.Option.{slice_get_within, slice_get-get_or}
use Rattle.zac_arch.specs.Architecture.{Architecture}
use Rattle.zair_form.specs.declared.step.PairOf.{PairOf}
use Rattle.zair_state.specs.State.{State}
use Rattle.zair_state.proofs.Membership.{contains_none, any_contained, any_from_contained}
use Rattle.zair_state.specs.Least.{IsLeastOf, IsLeastPairOf, IsNoLater, lesser_of}
use Rattle.zair_machine.specs.Sites.{RestsAtSite, AreTogether, IsEarlierOf, IsMarked, IsInOrder, IsMisplaced, IsListedWrong, IsUnlisted, IsAloneAtSite}
use Rattle.zair_machine.proofs.Together.{rests_at_one}
use Rattle.zair_state.proofs.Minima.{Same, contains_end, contains_before, contains_last, least_of_either, least_same}

-- the first of two pairs is no later than what is no earlier than either
no_later_trans : (p q r : ℕ × ℕ) → IsNoLater p q → IsNoLater q r → IsNoLater p r
no_later_trans p q r h k = elim h [
  | inl lt ↦ elim k [ inl less ↦ inl (omega arith) | inr same ↦ let e = same.0 in inl (omega arith) ]
  | inr same ↦
      let e = same.0 in
      let le = same.1 in
      elim k [ inl less ↦ inl (omega arith) | inr more ↦ let f = more.0 in let ge = more.1 in inr (omega arith, omega arith) ]
]

pub earlier_least : (P R S : ℕ → ℕ → Type 0) (o o' r : Option (ℕ × ℕ)) → IsEarlierOf o o' r → ((m n : ℕ) → S m n → P m n ⊎ R m n) → ((m n : ℕ) → P m n → S m n) → ((m n : ℕ) → R m n → S m n) → IsLeastPairOf P o → IsLeastPairOf R o' → IsLeastPairOf S r
earlier_least P R S None None r e split left right h k =
    subst (λ (x : Option (ℕ × ℕ)). IsLeastPairOf S x) (sym e) (λ m n t. elim (split m n t) [ inl p ↦ h m n p | inr q ↦ k m n q ])
earlier_least P R S None (Some q) r e split left right h k =
    subst (λ (x : Option (ℕ × ℕ)). IsLeastPairOf S x) (sym e) (right q.0 q.1 k.0, λ m n t. elim (split m n t) [ inl p ↦ absurd (h m n p) | inr x ↦ k.1 m n x ])
earlier_least P R S (Some p) None r e split left right h k =
    subst (λ (x : Option (ℕ × ℕ)). IsLeastPairOf S x) (sym e) (left p.0 p.1 h.0, λ m n t. elim (split m n t) [ inl x ↦ h.1 m n x | inr q ↦ absurd (k m n q) ])
earlier_least P R S (Some p) (Some q) r e split left right h k = elim e [
  | inl x ↦
      subst (λ (y : Option (ℕ × ℕ)). IsLeastPairOf S y) (sym x.0) (left p.0 p.1 h.0, λ m n t. elim (split m n t) [ inl y ↦ h.1 m n y | inr y ↦ no_later_trans p q (m, n) x.1 (k.1 m n y) ])
  | inr x ↦
      subst (λ (y : Option (ℕ × ℕ)). IsLeastPairOf S y) (sym x.0) (right q.0 q.1 k.0, λ m n t. elim (split m n t) [ inl y ↦ no_later_trans q p (m, n) x.1 (h.1 m n y) | inr y ↦ k.1 m n y ])
]

-- a pair is the first of those that are this pair
pub only_pair : (R : ℕ → ℕ → Type 0) (o : Option (ℕ × ℕ)) → MatchOption o ((m n : ℕ) → ¬ R m n) (λ x. R x.0 x.1 × ((m n : ℕ) → R m n → (m ≡ x.0) × (n ≡ x.1))) → IsLeastPairOf R o
only_pair R None h = h
only_pair R (Some x) h = (h.0, λ m n t. let e = h.1 m n t in inr (sym e.0, (let f = e.1 in omega arith)))

pub least_pair_same : (P S : ℕ → ℕ → Type 0) (o : Option (ℕ × ℕ)) → ((m n : ℕ) → Same (P m n) (S m n)) → IsLeastPairOf P o → IsLeastPairOf S o
least_pair_same P S None same h = λ m n t. h m n ((same m n).1 t)
least_pair_same P S (Some x) same h = ((same x.0 x.1).0 h.0, λ m n t. h.1 m n ((same m n).1 t))

in_order_one : (p : PairOf) (q r m n : ℕ) → IsInOrder p q r → IsInOrder p m n → (m ≡ q) × (n ≡ r)
in_order_one p q r m n h k = (sym k.0 ∙ h.0, sym k.1 ∙ h.1)

pub any_taken : {X : Type 0} (P : X → Type 0) (xs : List X) (k : ℕ) (d : X) → k < length xs → Same (Any P (take k xs) ⊎ P (get_or xs k d)) (Any P (take (k + 1) xs))
any_taken P xs k d lt =
    let e = take_more xs k d lt in (
      λ h. elim h [
        | inl there ↦
            let r = any_contained P (take k xs) there in
            any_from_contained P (take (k + 1) xs) r.0 (subst (λ ys. Contains ys r.0) (sym e) (contains_before (take k xs) (get_or xs k d) r.0 r.1)) r.2
        | inr here ↦ any_from_contained P (take (k + 1) xs) (get_or xs k d) (subst (λ ys. Contains ys (get_or xs k d)) (sym e) (contains_last (take k xs) (get_or xs k d))) here
      ],
      λ h.
          let r = any_contained P (take (k + 1) xs) h in
          elim (contains_end (take k xs) (get_or xs k d) r.0 (subst (λ ys. Contains ys r.0) e r.1)) [
            | inl there ↦ inl (any_from_contained P (take k xs) r.0 there r.2)
            | inr same ↦ inr (subst P (sym same) r.2)
          ],
    )

module _ (a : Architecture) (s : State) (pairs : List PairOf) where
  -- the qubits of a pair are together at the site
  abbrev pub Joins : ℕ → PairOf → Type 0
  Joins site p = AreTogether a s site p.a p.b

  -- exactly the sites of the first n pairs are marked
  abbrev pub MarkedBelow : List Bool → ℕ → Type 0
  MarkedBelow marks n = (site : ℕ) → Same (IsMarked marks site) (Any (Joins site) (take n pairs))

  abbrev pub WrongBelow : ℕ → ℕ → ℕ → Type 0
  WrongBelow n q r = (p : PairOf) × (k : ℕ) × (k < n) × (slice_get pairs k ≡ Some p) × IsInOrder p q r × IsMisplaced a s pairs k p

  pub wrong_start : IsLeastPairOf (WrongBelow 0) None
  wrong_start m n h = let lt = h.2 in absurd (omega arith)

  pub marked_start : (marks : List Bool) → ((site : ℕ) → ¬ IsMarked marks site) → MarkedBelow marks 0
  marked_start marks clean site = (λ m. absurd (clean site m), λ h. absurd (contains_none _ (any_contained (Joins site) [] h).1))

  -- what noting a pair tells
  abbrev pub Noted : List Bool → PairOf → Option (ℕ × ℕ) → Type 0
  Noted marks p o =
      MatchOption o ((site : ℕ) × AreTogether a s site p.a p.b × ¬ IsMarked marks site)
      (λ x. IsInOrder p x.0 x.1 × (((site : ℕ) → ¬ AreTogether a s site p.a p.b) ⊎ ((site : ℕ) × AreTogether a s site p.a p.b × IsMarked marks site)))

  noted_least : (marks : List Bool) (k : ℕ) (p : PairOf) (o : Option (ℕ × ℕ)) → MarkedBelow marks k → Noted marks p o → IsLeastPairOf (λ q r. IsInOrder p q r × IsMisplaced a s pairs k p) o
  noted_least marks k p None marked noted = λ m n h. elim h.1 [
    | inl none ↦ none noted.0 noted.1
    | inr x ↦
        -- one site alone has the pair
        let e : x.0 ≡ noted.0 = one_site x.0 noted.0 x.1 noted.1 in
        noted.2 ((marked noted.0).1 (subst (λ (z : ℕ). Any (Joins z) (take k pairs)) e x.2))
  ]
    where
      one_site : (y z : ℕ) → AreTogether a s y p.a p.b → AreTogether a s z p.a p.b → y ≡ z
      one_site y z h k = rests_at_one a s p.a y z h.1 k.1
  noted_least marks k p (Some x) marked noted = (
    (noted.0, elim noted.1 [ inl none ↦ inl none | inr y ↦ inr (y.0, y.1, (marked y.0).0 y.2) ]),
    λ m n h. let e = in_order_one p x.0 x.1 m n noted.0 h.0 in inr (sym e.0, (let f = e.1 in omega arith)),
  )

  pub wrong_more : (marks : List Bool) (k : ℕ) (d : PairOf) (o o' r : Option (ℕ × ℕ)) → k < length pairs → MarkedBelow marks k → Noted marks (get_or pairs k d) o' → IsEarlierOf o o' r → IsLeastPairOf (WrongBelow k) o → IsLeastPairOf (WrongBelow (k + 1)) r
  wrong_more marks k d o o' r lt marked noted e h =
      let p = get_or pairs k d in
      let at : slice_get pairs k ≡ Some p = slice_get-get_or pairs k d lt in
      earlier_least (WrongBelow k) (λ q r. IsInOrder p q r × IsMisplaced a s pairs k p) (WrongBelow (k + 1)) o o' r e
      (λ m n x. elim (cases_lt x.1 k) [
        | inl less ↦ inl (x.0, x.1, less, x.3, x.4, x.5)
        | inr ge ↦
            let here : x.1 ≡ k = let more = x.2 in omega arith in
            let there : slice_get pairs k ≡ Some x.0 = subst (λ (i : ℕ). slice_get pairs i ≡ Some x.0) here x.3 in
            let same : x.0 ≡ p = let both : Some x.0 ≡ Some p = sym there ∙ at in cc in
            inr (subst (λ (y : PairOf). IsInOrder y m n) same x.4, subst (λ (y : PairOf). IsMisplaced a s pairs k y) same (subst (λ (i : ℕ). IsMisplaced a s pairs i x.0) here x.5))
      ])
      (λ m n x. (x.0, x.1, (let less = x.2 in omega arith), x.3, x.4, x.5))
      (λ m n x. (p, k, omega arith, at, x.0, x.1))
      h (noted_least marks k p o' marked noted)

  pub marked_more : (marks marks' : List Bool) (k : ℕ) (d : PairOf) → k < length pairs → MarkedBelow marks k → ((site : ℕ) → Same (IsMarked marks' site) (IsMarked marks site ⊎ Joins site (get_or pairs k d))) → MarkedBelow marks' (k + 1)
  marked_more marks marks' k d lt marked told site =
      let more = any_taken (Joins site) pairs k d lt in (
        λ m. more.0 (elim ((told site).0 m) [ inl before ↦ inl ((marked site).0 before) | inr here ↦ inr here ]),
        λ h. (told site).1 (elim (more.1 h) [ inl before ↦ inl ((marked site).1 before) | inr here ↦ inr here ]),
      )

  pub marked_whole : (marks : List Bool) (k : ℕ) → length pairs ≤ k → MarkedBelow marks k → (site : ℕ) → Same (IsMarked marks site) (Any (Joins site) pairs)
  marked_whole marks k le marked site = subst (λ (l : List PairOf). Same (IsMarked marks site) (Any (Joins site) l)) (take_all k pairs le) (marked site)

  pub wrong_whole : (k : ℕ) (o : Option (ℕ × ℕ)) → length pairs ≤ k → IsLeastPairOf (WrongBelow k) o → IsLeastPairOf (IsListedWrong a s pairs) o
  wrong_whole k o le h =
      least_pair_same (WrongBelow k) (IsListedWrong a s pairs) o
      (λ m n. (λ x. (x.0, x.1, x.3, x.4, x.5), λ x. (x.0, x.1, (let lt = slice_get_within pairs x.1 x.0 x.2 in omega arith), x.2, x.3, x.4))) h

-- the sites below a number whose two atoms are together and which aren't marked
module _ (a : Architecture) (s : State) (marks : List Bool) where
  abbrev pub UnlistedBelow : ℕ → ℕ → ℕ → Type 0
  UnlistedBelow n q r = (q ≤ r) × ((site : ℕ) × (site < n) × AreTogether a s site q r × ¬ IsMarked marks site)

  pub unlisted_start : IsLeastPairOf (UnlistedBelow 0) None
  unlisted_start m n h = let lt = h.1.1 in absurd (omega arith)

  -- what looking at a site tells
  abbrev pub Found : ℕ → Option (ℕ × ℕ) → Type 0
  Found site o =
      MatchOption o ((q r : ℕ) → AreTogether a s site q r → IsMarked marks site)
      (λ x. (x.0 ≤ x.1) × AreTogether a s site x.0 x.1 × (¬ IsMarked marks site) × ((q r : ℕ) → q ≤ r → AreTogether a s site q r → (q ≡ x.0) × (r ≡ x.1)))

  found_least : (site : ℕ) (o : Option (ℕ × ℕ)) → Found site o → IsLeastPairOf (λ q r. (q ≤ r) × AreTogether a s site q r × ¬ IsMarked marks site) o
  found_least site None h = λ m n x. x.2 (h m n x.1)
  found_least site (Some x) h = ((h.0, h.1, h.2), λ m n y. let e = h.3 m n y.0 y.1 in inr (sym e.0, (let f = e.1 in omega arith)))

  pub unlisted_more : (k : ℕ) (o o' r : Option (ℕ × ℕ)) → Found k o' → IsEarlierOf o o' r → IsLeastPairOf (UnlistedBelow k) o → IsLeastPairOf (UnlistedBelow (k + 1)) r
  unlisted_more k o o' r found e h =
      earlier_least (UnlistedBelow k) (λ q r. (q ≤ r) × AreTogether a s k q r × ¬ IsMarked marks k) (UnlistedBelow (k + 1)) o o' r e
      (λ m n x. elim (cases_lt x.1.0 k) [
        | inl less ↦ inl (x.0, (x.1.0, less, x.1.2, x.1.3))
        | inr ge ↦
            let here : x.1.0 ≡ k = let more = x.1.1 in omega arith in
            inr (x.0, subst (λ (z : ℕ). AreTogether a s z m n) here x.1.2, subst (λ (z : ℕ). ¬ IsMarked marks z) here x.1.3)
      ])
      (λ m n x. (x.0, (x.1.0, (let less = x.1.1 in omega arith), x.1.2, x.1.3)))
      (λ m n x. (x.0, (k, omega arith, x.1, x.2)))
      h (found_least k o' found)

  pub unlisted_whole : (k : ℕ) (o : Option (ℕ × ℕ)) → ((site q : ℕ) → RestsAtSite a s site q → site < k) → IsLeastPairOf (UnlistedBelow k) o → IsLeastPairOf (IsUnlisted a s marks) o
  unlisted_whole k o below h =
      least_pair_same (UnlistedBelow k) (IsUnlisted a s marks) o
      (λ m n. (λ x. (x.0, (x.1.0, x.1.2, x.1.3)), λ x. (x.0, (x.1.0, below x.1.0 m x.1.1.1, x.1.1, x.1.2)))) h

-- the sites below a number at which an atom is alone
module _ (a : Architecture) (s : State) where
  abbrev pub AloneBelow : ℕ → ℕ → Type 0
  AloneBelow n q = (site : ℕ) × (site < n) × RestsAtSite a s site q × ((r : ℕ) → ¬ AreTogether a s site q r)

  pub alone_start : IsLeastOf (AloneBelow 0) None
  alone_start q h = let lt = h.1 in absurd (omega arith)

  -- what looking at a site tells
  abbrev pub FoundAlone : ℕ → Option ℕ → Type 0
  FoundAlone site o =
      MatchOption o ((q : ℕ) → RestsAtSite a s site q → (r : ℕ) × AreTogether a s site q r)
      (λ q. RestsAtSite a s site q × ((r : ℕ) → ¬ AreTogether a s site q r))

  found_alone : (site : ℕ) (o : Option ℕ) → FoundAlone site o → IsLeastOf (λ q. RestsAtSite a s site q × ((r : ℕ) → ¬ AreTogether a s site q r)) o
  found_alone site None h = λ q x. let y = h q x.0 in x.1 y.0 y.1
  found_alone site (Some q) h = (h, λ m x. elim (cases_eq q m) [ inl e ↦ omega arith | inr ne ↦ absurd (h.1 m (ne, h.0, x.0)) ])

  pub alone_more : (k : ℕ) (o o' : Option ℕ) → FoundAlone k o' → IsLeastOf (AloneBelow k) o → IsLeastOf (AloneBelow (k + 1)) (lesser_of o o')
  alone_more k o o' found h =
      least_of_either (AloneBelow k) (λ q. RestsAtSite a s k q × ((r : ℕ) → ¬ AreTogether a s k q r)) (AloneBelow (k + 1)) o o'
      (λ q x. elim (cases_lt x.0 k) [
        | inl less ↦ inl (x.0, less, x.2, x.3)
        | inr ge ↦
            let here : x.0 ≡ k = let more = x.1 in omega arith in
            inr (subst (λ (z : ℕ). RestsAtSite a s z q × ((r : ℕ) → ¬ AreTogether a s z q r)) here (x.2, x.3))
      ])
      (λ q x. (x.0, (let less = x.1 in omega arith), x.2, x.3))
      (λ q x. (k, omega arith, x.0, x.1))
      h (found_alone k o' found)

  pub alone_whole : (k : ℕ) (o : Option ℕ) → ((site q : ℕ) → RestsAtSite a s site q → site < k) → IsLeastOf (AloneBelow k) o → IsLeastOf (IsAloneAtSite a s) o
  alone_whole k o below h = least_same (AloneBelow k) (IsAloneAtSite a s) o (λ q. (λ x. (x.0, x.2, x.3), λ x. (x.0, below x.0 q x.1, x.1, x.2))) h

-- marks that are all false mark no site
pub all_clean : (n site : ℕ) → ¬ IsMarked (replicate n false) site
all_clean zero site h = false≢true h
all_clean (suc n) zero h = false≢true h
all_clean (suc n) (suc site) h = all_clean n site h
