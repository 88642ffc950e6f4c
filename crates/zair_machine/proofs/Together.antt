-- Atoms at sites: who rests with whom, and which pairs of a pulse are wrong.
use Rattle.std.proofs.Common.{◌≡◌, ◌≢◌, ℕ, zero, suc, ◌+◌, ◌*◌, ◌-◌, ◌<◌, ◌≤◌, ◌⊎◌, inl, inr, Option, Some, None, MatchOption, get_or, min, max, refl, sym, ap, ◌∙◌, subst, arith}
use Rattle.std.proofs.lemmas.Bool.{cases_lt, cases_eq}
use Rattle.std.proofs.lemmas.Option.{slice_get-get_or}
use Rattle.zac_arch.specs.Architecture.{Architecture, StandsAt, IsLit, IsTrapOf, left_trap, right_trap, storage_count, site_count, trap_count, trap_points}
use Rattle.zac_arch.specs.Distances.{IsWithin}
use Rattle.zac_arch.specs.declared.place.Point.{Point}
use Rattle.zac_arch.specs.declared.place.TrapId.{TrapId}
use Rattle.zair_form.specs.declared.step.PairOf.{PairOf}
use Rattle.zair_state.specs.declared.place.Place.{Place}
use Rattle.zair_state.specs.declared.place.Place.TheVariants.{Trap, Held}
use Rattle.zair_state.specs.Invariant.{IsSound}
use Rattle.zair_state.specs.Legal.{IsPairOf}
use Rattle.zair_state.specs.State.{State, IsAt, RestsLit, AreInRange}
use Rattle.zair_state.proofs.Changing.{within_back}
use Rattle.zair_machine.specs.Sites.{RestsAtSite, AreTogether}
use Rattle.zair_machine.proofs.Full.{same_trap_number}

same_trap : (t u : TrapId) → Some (Trap t) ≡ Some (Trap u) → t ≡ u
same_trap t u e = cc

-- each number is even or odd
half : (n : ℕ) → (h : ℕ) × ((n ≡ 2 * h) ⊎ (n ≡ 2 * h + 1))
half zero = (0, inl refl)
half (suc n) =
    let x = half n in
    elim x.1 [ inl e ↦ (x.0, inr (omega arith)) | inr e ↦ (x.0 + 1, inl (omega arith)) ]

pub site_one : (a : Architecture) (s z t : ℕ) → IsTrapOf a s t → IsTrapOf a z t → s ≡ z
site_one a s z t h k = elim h [
  | inl e ↦ elim k [ inl f ↦ omega arith | inr f ↦ absurd (omega arith) ]
  | inr e ↦ elim k [ inl f ↦ absurd (omega arith) | inr f ↦ omega arith ]
]

pub no_site : (a : Architecture) (t : ℕ) → t < storage_count a → (site : ℕ) → ¬ IsTrapOf a site t
no_site a t lt site h = elim h [ inl e ↦ absurd (omega arith) | inr e ↦ absurd (omega arith) ]

site_there : (a : Architecture) (t : ℕ) → storage_count a ≤ t → (site : ℕ) × IsTrapOf a site t
site_there a t ge =
    let x = half (t - storage_count a) in
    elim x.1 [ inl e ↦ (x.0, inl (omega arith)) | inr e ↦ (x.0, inr (omega arith)) ]

lit_from : (a : Architecture) (site t : ℕ) → IsTrapOf a site t → storage_count a ≤ t
lit_from a site t h = elim h [ inl e ↦ omega arith | inr e ↦ omega arith ]

-- of two different traps of a site, a third one is one of them
other_trap : (a : Architecture) (site t u v : ℕ) → t ≢ u → t ≢ v → IsTrapOf a site t → IsTrapOf a site u → IsTrapOf a site v → u ≡ v
other_trap a site t u v ne me h k l = elim h [
  | inl e ↦ elim k [
    | inl f ↦ absurd (ne (omega arith))
    | inr f ↦ elim l [ inl g ↦ absurd (me (omega arith)) | inr g ↦ omega arith ]
  ]
  | inr e ↦ elim k [
    | inr f ↦ absurd (ne (omega arith))
    | inl f ↦ elim l [ inr g ↦ absurd (me (omega arith)) | inl g ↦ omega arith ]
  ]
]

module _ (a : Architecture) (s : State) where
  pub rests_not_held : (q k row column site : ℕ) → IsAt s q (Held k row column) → ¬ RestsAtSite a s site q
  rests_not_held q k row column site at h = let e = h.1 in absurd (cc)

  pub rests_by_trap : (q site : ℕ) (t : TrapId) → IsAt s q (Trap t) → RestsAtSite a s site q → IsTrapOf a site t.0
  rests_by_trap q site t at h = subst (λ (u : TrapId). IsTrapOf a site u.0) (same_trap h.0 t (sym h.1 ∙ at)) h.2

  pub rests_at_one : (q site z : ℕ) → RestsAtSite a s site q → RestsAtSite a s z q → site ≡ z
  rests_at_one q site z h k = site_one a site z k.0.0 (rests_by_trap q site k.0 k.1 h) k.2

  pub together_back : (site q r : ℕ) → AreTogether a s site q r → AreTogether a s site r q
  together_back site q r h = ((λ e. h.0 (sym e)), h.2, h.1)

  module _ (apart : (q r : ℕ) (place : Place) → IsAt s q place → IsAt s r place → q ≡ r) where
    apart_traps : (q r : ℕ) (t u : TrapId) → q ≢ r → IsAt s q (Trap t) → IsAt s r (Trap u) → t.0 ≢ u.0
    apart_traps q r t u ne at there e = ne (apart q r (Trap u) (subst (λ (x : TrapId). IsAt s q (Trap x)) (same_trap_number t u e) at) there)

    pub only_partner : (site q r r' : ℕ) → AreTogether a s site q r → AreTogether a s site q r' → r ≡ r'
    only_partner site q r r' h k =
        let t = h.1.0 in
        let in_site : IsTrapOf a site t.0 = h.1.2 in
        let e = other_trap a site t.0 h.2.0.0 k.2.0.0 (apart_traps q r t h.2.0 h.0 h.1.1 h.2.1) (apart_traps q r' t k.2.0 k.0 h.1.1 k.2.1) in_site h.2.2 k.2.2 in
        apart r r' (Trap k.2.0) (subst (λ (x : TrapId). IsAt s r (Trap x)) (same_trap_number h.2.0 k.2.0 e) h.2.1) k.2.1

    pub same_pair : (site q r : ℕ) (p : PairOf) → AreTogether a s site p.a p.b → AreTogether a s site q r → IsPairOf p q r
    same_pair site q r p h k = elim (cases_eq p.a q) [
      | inl e ↦
          let mine : AreTogether a s site p.a r = subst (λ (n : ℕ). AreTogether a s site n r) (sym e) k in
          inl (e, only_partner site p.a p.b r h mine)
      | inr ne ↦
          let there : AreTogether a s site q p.a = ((λ e. ne (sym e)), k.1, h.1) in
          inr (only_partner site q p.a r there k, only_partner site p.a p.b q h (together_back site q p.a there))
    ]

  pub pair_together : (site q r : ℕ) (p : PairOf) → IsPairOf p q r → AreTogether a s site q r → AreTogether a s site p.a p.b
  pair_together site q r p is h = elim is [
    | inl e ↦ subst (λ (n : ℕ). AreTogether a s site n p.b) (sym e.0) (subst (λ (n : ℕ). AreTogether a s site q n) (sym e.1) h)
    | inr e ↦ subst (λ (n : ℕ). AreTogether a s site n p.b) (sym e.0) (subst (λ (n : ℕ). AreTogether a s site r n) (sym e.1) (together_back site q r h))
  ]

  pub together_pair : (site q r : ℕ) (p : PairOf) → IsPairOf p q r → AreTogether a s site p.a p.b → AreTogether a s site q r
  together_pair site q r p is h = elim is [
    | inl e ↦ subst (λ (n : ℕ). AreTogether a s site n r) e.0 (subst (λ (n : ℕ). AreTogether a s site p.a n) e.1 h)
    | inr e ↦ together_back site r q (subst (λ (n : ℕ). AreTogether a s site n q) e.0 (subst (λ (n : ℕ). AreTogether a s site p.a n) e.1 h))
  ]

  -- by the laws of a card's traps, two atoms in range are those of one site
  module _ (sound : IsSound a s) (counts : trap_count a ≡ storage_count a + 2 * site_count a)
      (dark : (t : ℕ) → (p : Point) → t < storage_count a → StandsAt a t p → ¬ IsLit a p)
      (lit : (t : ℕ) → (p : Point) → storage_count a ≤ t → StandsAt a t p → IsLit a p)
      (within : (z : ℕ) → (p q : Point) → z < site_count a → StandsAt a (left_trap a z) p → StandsAt a (right_trap a z) q → IsWithin a.figures.radius p q)
      (one : (z r t u : ℕ) → (p q : Point) → IsTrapOf a z t → IsTrapOf a r u → StandsAt a t p → StandsAt a u q → IsWithin a.figures.radius p q → z ≡ r) where
    pub lit_at_site : (q : ℕ) (p : Point) → RestsLit a s q p → (site : ℕ) × RestsAtSite a s site q
    lit_at_site q p h = elim (cases_lt h.0.0 (storage_count a)) [
      | inl lt ↦ absurd (dark h.0.0 p lt h.2 h.3)
      | inr ge ↦ let x = site_there a h.0.0 ge in (x.0, (h.0, h.1, x.1))
    ]

    pub stands_of : (q : ℕ) (t : TrapId) → IsAt s q (Trap t) → (p : Point) × StandsAt a t.0 p
    stands_of q t at =
        let none : Point = record { x = 0; y = 0 } in
        (get_or (trap_points a) t.0 none, slice_get-get_or (trap_points a) t.0 none (sound.in_traps q t at))

    pub site_lit : (site q : ℕ) → RestsAtSite a s site q → (p : Point) × RestsLit a s q p
    site_lit site q h =
        let x = stands_of q h.0 h.1 in (x.0, (h.0, h.1, x.1, lit h.0.0 x.0 (lit_from a site h.0.0 h.2) x.1))

    pub range_together : (q r : ℕ) → AreInRange a s q r → (site : ℕ) × AreTogether a s site q r
    range_together q r h =
        let x = lit_at_site q h.q_at h.q_rests in
        let y = lit_at_site r h.r_at h.r_rests in
        let at_q = rests_by_trap q x.0 h.q_rests.0 h.q_rests.1 x.1 in
        let at_r = rests_by_trap r y.0 h.r_rests.0 h.r_rests.1 y.1 in
        let e : x.0 ≡ y.0 = one x.0 y.0 h.q_rests.0.0 h.r_rests.0.0 h.q_at h.r_at at_q at_r h.q_rests.2 h.r_rests.2 h.near in
        (x.0, (h.two, x.1, subst (λ (z : ℕ). RestsAtSite a s z r) (sym e) y.1))

    near_of : (site : ℕ) (t u : TrapId) (p p' : Point) → t.0 ≢ u.0 → t.0 < trap_count a → IsTrapOf a site t.0 → IsTrapOf a site u.0 → StandsAt a t.0 p → StandsAt a u.0 p' → IsWithin a.figures.radius p p'
    near_of site t u p p' ne below h k at there = elim h [
      | inl e ↦ elim k [
        | inl f ↦ absurd (ne (omega arith))
        | inr f ↦ within site p p' (omega arith) (subst (λ (n : ℕ). StandsAt a n p) e at) (subst (λ (n : ℕ). StandsAt a n p') f there)
      ]
      | inr e ↦ elim k [
        | inr f ↦ absurd (ne (omega arith))
        | inl f ↦ within_back a.figures.radius p' p (within site p' p (omega arith) (subst (λ (n : ℕ). StandsAt a n p') f there) (subst (λ (n : ℕ). StandsAt a n p) e at))
      ]
    ]

    pub together_range : (site q r : ℕ) → AreTogether a s site q r → AreInRange a s q r
    together_range site q r h =
        let x = site_lit site q h.1 in
        let y = site_lit site r h.2 in
        let at_q = rests_by_trap q site x.1.0 x.1.1 h.1 in
        let at_r = rests_by_trap r site y.1.0 y.1.1 h.2 in
        record {
          two = h.0;
          q_at = x.0;
          r_at = y.0;
          q_rests = x.1;
          r_rests = y.1;
          near = near_of site x.1.0 y.1.0 x.0 y.0 (apart_traps sound.apart q r x.1.0 y.1.0 h.0 x.1.1 y.1.1) (sound.in_traps q x.1.0 x.1.1) at_q at_r x.1.2 y.1.2;
        }

-- the two traps of a site, and who rests there
module _ (a : Architecture) (s : State) (site : ℕ) (left right : TrapId) (l : left.0 ≡ left_trap a site) (r : right.0 ≡ right_trap a site) where
  pub at_left_or_right : (q : ℕ) → RestsAtSite a s site q → IsAt s q (Trap left) ⊎ IsAt s q (Trap right)
  at_left_or_right q h = elim h.2 [
    | inl e ↦ inl (subst (λ (t : TrapId). IsAt s q (Trap t)) (same_trap_number h.0 left (e ∙ sym l)) h.1)
    | inr e ↦ inr (subst (λ (t : TrapId). IsAt s q (Trap t)) (same_trap_number h.0 right (e ∙ sym r)) h.1)
  ]

  pub rests_left : (q : ℕ) → IsAt s q (Trap left) → RestsAtSite a s site q
  rests_left q h = (left, h, inl l)

  pub rests_right : (q : ℕ) → IsAt s q (Trap right) → RestsAtSite a s site q
  rests_right q h = (right, h, inr r)

  pub both_there : (q q' : ℕ) → IsAt s q (Trap left) → IsAt s q' (Trap right) → AreTogether a s site q q'
  both_there q q' h k = (
    λ e.
        let same : left ≡ right = same_trap left right (sym h ∙ subst (λ (n : ℕ). IsAt s n (Trap right)) (sym e) k) in
        let number : left.0 ≡ right.0 = ap (λ (t : TrapId). t.0) same in
        absurd (omega arith),
    rests_left q h,
    rests_right q' k,
  )

  module _ (apart : (q r : ℕ) (place : Place) → IsAt s q place → IsAt s r place → q ≡ r) where
    pub together_needs_left : ((q : ℕ) → ¬ IsAt s q (Trap left)) → (q q' : ℕ) → ¬ AreTogether a s site q q'
    together_needs_left none q q' h = elim (at_left_or_right q h.1) [
      | inl x ↦ none q x
      | inr x ↦ elim (at_left_or_right q' h.2) [ inl y ↦ none q' y | inr y ↦ h.0 (apart q q' (Trap right) x y) ]
    ]

    pub together_needs_right : ((q : ℕ) → ¬ IsAt s q (Trap right)) → (q q' : ℕ) → ¬ AreTogether a s site q q'
    together_needs_right none q q' h = elim (at_left_or_right q h.1) [
      | inr x ↦ none q x
      | inl x ↦ elim (at_left_or_right q' h.2) [ inr y ↦ none q' y | inl y ↦ h.0 (apart q q' (Trap left) x y) ]
    ]

    -- where both traps have an atom, each has the other one with it
    pub never_alone : (q q' : ℕ) → IsAt s q (Trap left) → IsAt s q' (Trap right) → (x : ℕ) → RestsAtSite a s site x → (y : ℕ) × AreTogether a s site x y
    never_alone q q' h k x rests = elim (at_left_or_right x rests) [
      | inl there ↦ (q', both_there x q' there k)
      | inr there ↦ (q, together_back a s site q x (both_there q x h there))
    ]

    -- of the two atoms of a site, the smaller qubit first
    pub two_there : (q q' : ℕ) → IsAt s q (Trap left) → IsAt s q' (Trap right) → (min q q' ≤ max q q') × AreTogether a s site (min q q') (max q q') × ((m n : ℕ) → m ≤ n → AreTogether a s site m n → (m ≡ min q q') × (n ≡ max q q'))
    two_there q q' h k =
        let t = both_there q q' h k in (
          omega arith,
          elim (cases_lt q q') as (λ _. AreTogether a s site (min q q') (max q q')) [
            | inl lt ↦
                let e : q ≡ min q q' = omega arith in
                let f : q' ≡ max q q' = omega arith in
                subst (λ (n : ℕ). AreTogether a s site (min q q') n) f (subst (λ (n : ℕ). AreTogether a s site n q') e t)
            | inr ge ↦
                let e : q' ≡ min q q' = omega arith in
                let f : q ≡ max q q' = omega arith in
                subst (λ (n : ℕ). AreTogether a s site (min q q') n) f (subst (λ (n : ℕ). AreTogether a s site n q) e (together_back a s site q q' t))
          ],
          λ m n le other. elim (same_pair a s apart site m n (record { op = 0; a = q; b = q' }) t other) [
            | inl e ↦ let f = e.0 in let g = e.1 in (omega arith, omega arith)
            | inr e ↦ let f = e.0 in let g = e.1 in (omega arith, omega arith)
          ],
        )

  pub nobody_there : ((q : ℕ) → ¬ IsAt s q (Trap left)) → ((q : ℕ) → ¬ IsAt s q (Trap right)) → (x : ℕ) → ¬ RestsAtSite a s site x
  nobody_there none other x rests = elim (at_left_or_right x rests) [ inl there ↦ none x there | inr there ↦ other x there ]

-- what is told of a trap, told of the atom that rests in it
pub site_told : (a : Architecture) (s : State) (q : ℕ) (t : TrapId) (o : Option ℕ) → IsAt s q (Trap t) → MatchOption o ((site : ℕ) → ¬ IsTrapOf a site t.0) (λ site. (site < site_count a) × IsTrapOf a site t.0) → MatchOption o ((site : ℕ) → ¬ RestsAtSite a s site q) (λ site. (site < site_count a) × RestsAtSite a s site q)
site_told a s q t None at h = λ site k. h site (rests_by_trap a s q site t at k)
site_told a s q t (Some z) at h = (h.0, (t, at, h.1))

-- the site of an atom is one of the card's
pub site_below : (a : Architecture) (s : State) (site q : ℕ) → IsSound a s → trap_count a ≡ storage_count a + 2 * site_count a → RestsAtSite a s site q → site < site_count a
site_below a s site q sound counts h =
    let below = sound.in_traps q h.0 h.1 in elim h.2 [ inl e ↦ omega arith | inr e ↦ omega arith ]
