-- From sites to wrong pairs and to atoms that are lit alone.
use Rattle.std.proofs.Common.{◌≡◌, ℕ, ◌+◌, ◌*◌, ◌<◌, ◌≤◌, ◌⊎◌, inl, inr, Bool, Option, Some, List, refl, sym, ap, ◌∙◌, subst, arith, slice_get}
use Rattle.std.specs.List.{Any, Contains}
use Rattle.std.proofs.lemmas.Bool.{cases_lt}
use Rattle.std.proofs.lemmas.List.{get_or-take, length-take}
use Rattle.std.proofs.lemmas.Option.{slice_get_within, slice_get-get_or, get_or_from_slice_get}
use Rattle.zac_arch.specs.Architecture.{Architecture, StandsAt, IsLit, IsTrapOf, left_trap, right_trap, storage_count, site_count, trap_count}
use Rattle.zac_arch.specs.Distances.{IsWithin}
use Rattle.zac_arch.specs.declared.place.Point.{Point}
use Rattle.zair_form.specs.declared.step.PairOf.{PairOf}
use Rattle.zair_form.specs.declared.step.Step.{Step}
use Rattle.zair_form.specs.declared.step.Step.TheVariants.{Pulse}
use Rattle.zair_state.specs.Faults.{IsLitAlone}
use Rattle.zair_state.specs.FirstFault.{AreMetBefore}
use Rattle.zair_state.specs.declared.fault.MachineFault.TheVariants.{PairWrong}
use Rattle.zair_state.specs.Invariant.{IsSound}
use Rattle.zair_state.specs.Least.{IsLeastOf, IsLeastPairOf}
use Rattle.zair_state.specs.Legal.{IsPairOf}
use Rattle.zair_state.specs.State.{State, RestsLit, AreInRange}
use Rattle.zair_state.proofs.Deciding.{told_in_range}
use Rattle.zair_state.proofs.Membership.{any_contained, any_from_contained}
use Rattle.zair_state.proofs.Minima.{Same, least_same}
use Rattle.zair_state.proofs.NothingBroken.{contained_at}
use Rattle.zair_state.proofs.Pairs.{IsWrongPair}
use Rattle.zair_machine.specs.Sites.{AreTogether, IsEarlierOf, IsMarked, IsInOrder, IsListedWrong, IsUnlisted, IsAloneAtSite}
use Rattle.zair_machine.proofs.PairWrongs.{Joins, earlier_least}
use Rattle.zair_machine.proofs.Together.{rests_at_one, together_back, same_pair, pair_together, together_pair, lit_at_site, site_lit, range_together, together_range}

pub order_pair : (p : PairOf) (q r : ℕ) → q ≤ r → IsPairOf p q r → IsInOrder p q r
order_pair p q r le is = elim is [
  | inl e ↦ let f = e.0 in let g = e.1 in (omega arith, omega arith)
  | inr e ↦ let f = e.0 in let g = e.1 in (omega arith, omega arith)
]

pub pair_order : (p : PairOf) (q r : ℕ) → IsInOrder p q r → IsPairOf p q r × (q ≤ r)
pair_order p q r h =
    let e = h.0 in
    let f = h.1 in
    elim (cases_lt p.a p.b) [ inl lt ↦ (inl (omega arith, omega arith), omega arith) | inr ge ↦ (inr (omega arith, omega arith), omega arith) ]

module _ (a : Architecture) (s : State) (sound : IsSound a s) (counts : trap_count a ≡ storage_count a + 2 * site_count a)
    (dark : (t : ℕ) → (p : Point) → t < storage_count a → StandsAt a t p → ¬ IsLit a p)
    (lit : (t : ℕ) → (p : Point) → storage_count a ≤ t → StandsAt a t p → IsLit a p)
    (within : (z : ℕ) → (p q : Point) → z < site_count a → StandsAt a (left_trap a z) p → StandsAt a (right_trap a z) q → IsWithin a.figures.radius p q)
    (one : (z r t u : ℕ) → (p q : Point) → IsTrapOf a z t → IsTrapOf a r u → StandsAt a t p → StandsAt a u q → IsWithin a.figures.radius p q → z ≡ r) where
  in_range : (site q r : ℕ) → AreTogether a s site q r → AreInRange a s q r
  in_range = together_range a s sound counts dark lit within one

  at_site : (q r : ℕ) → AreInRange a s q r → (site : ℕ) × AreTogether a s site q r
  at_site = range_together a s sound counts dark lit within one

  module _ (pairs : List PairOf) where
    listed_wrong : (q r : ℕ) → IsListedWrong a s pairs q r → (q ≤ r) × IsWrongPair a s pairs q r
    listed_wrong q r h =
        let p = h.0 in
        let x = pair_order p q r h.3 in
        let listed : Contains pairs p = contained_at pairs h.1 p h.2 in (
          x.1,
          elim h.4 [
            | inl none ↦ inr (inl (any_from_contained (λ (p : PairOf). IsPairOf p q r) pairs p listed x.0, λ near. let y = at_site q r near in none y.0 (pair_together a s y.0 q r p x.0 y.1)))
            | inr y ↦
                let any = y.2 in
                let before : any.0 < h.1 = omega (arith, any.2, length-take h.1 pairs) in
                let inside = slice_get_within pairs h.1 p h.2 in
                let at : slice_get pairs any.0 ≡ Some any.1 = slice_get-get_or pairs any.0 any.1 (omega (arith, before, inside)) ∙ ap (λ (p : PairOf). Some p) (sym (get_or-take h.1 pairs any.0 any.1 before) ∙ any.3) in
                inl (any.0, h.1, any.1, p, before, at, h.2, same_pair a s sound.apart y.0 q r any.1 any.4 (together_pair a s y.0 q r p x.0 y.1), x.0)
          ],
        )

    module _ (marks : List Bool) (marked : (site : ℕ) → Same (IsMarked marks site) (Any (λ (p : PairOf). AreTogether a s site p.a p.b) pairs)) where
      unlisted_wrong : (q r : ℕ) → IsUnlisted a s marks q r → (q ≤ r) × IsWrongPair a s pairs q r
      unlisted_wrong q r h = (
        h.0,
        inr (inr (
          in_range h.1.0 q r h.1.1,
          λ any.
              let y = any_contained (λ (p : PairOf). IsPairOf p q r) pairs any in
              h.1.2 ((marked h.1.0).1 (any_from_contained (Joins a s pairs h.1.0) pairs y.0 y.1 (pair_together a s h.1.0 q r y.0 y.2 h.1.1))),
        )),
      )

      never_joined : (q r : ℕ) (p : PairOf) → IsPairOf p q r → ¬ AreInRange a s q r → (site : ℕ) → ¬ AreTogether a s site p.a p.b
      never_joined q r p is far site h = far (in_range site q r (together_pair a s site q r p is h))

      split : (q r : ℕ) → (q ≤ r) × IsWrongPair a s pairs q r → IsListedWrong a s pairs q r ⊎ IsUnlisted a s marks q r
      split q r h = elim h.1 [
        | inl x ↦
            let p' = x.3 in
            let order = order_pair p' q r h.0 x.8 in
            elim (told_in_range a s q r) [
              | inl near ↦
                  let y = at_site q r near in
                  let inside = slice_get_within pairs x.1 p' x.6 in
                  inl (p', x.1, x.6, order, inr (y.0, pair_together a s y.0 q r p' x.8 y.1, (x.0, x.2, omega (arith, x.4, inside, length-take x.1 pairs), get_or-take x.1 pairs x.0 x.2 x.4 ∙ get_or_from_slice_get pairs x.0 x.2 x.2 x.5, pair_together a s y.0 q r x.2 x.7 y.1)))
              | inr far ↦ inl (p', x.1, x.6, order, inl (never_joined q r p' x.8 far))
            ]
        | inr y ↦ elim y [
          | inl x ↦
              let any = x.0 in
              let at : slice_get pairs any.0 ≡ Some any.1 = slice_get-get_or pairs any.0 any.1 any.2 ∙ ap (λ (p : PairOf). Some p) any.3 in
              inl (any.1, any.0, at, order_pair any.1 q r h.0 any.4, inl (never_joined q r any.1 any.4 x.1))
          | inr x ↦
              let z = at_site q r x.0 in
              inr (
                h.0,
                (
                  z.0,
                  z.1,
                  λ m.
                      let w = any_contained (Joins a s pairs z.0) pairs ((marked z.0).0 m) in
                      x.1 (any_from_contained (λ (p : PairOf). IsPairOf p q r) pairs w.0 w.1 (same_pair a s sound.apart z.0 q r w.0 w.2 z.1)),
                ),
              )
        ]
      ]

      pub first_wrong : (o o' r : Option (ℕ × ℕ)) → IsEarlierOf o o' r → IsLeastPairOf (IsListedWrong a s pairs) o → IsLeastPairOf (IsUnlisted a s marks) o' → IsLeastPairOf (λ q r. (q ≤ r) × IsWrongPair a s pairs q r) r
      first_wrong o o' r e h k =
          earlier_least (IsListedWrong a s pairs) (IsUnlisted a s marks) (λ q r. (q ≤ r) × IsWrongPair a s pairs q r) o o' r e split listed_wrong unlisted_wrong h k

    -- where no pair is wrong, an atom is lit alone exactly where it is alone at its site
    module _ (right : (q r : ℕ) → q ≤ r → ¬ IsWrongPair a s pairs q r) where
      listed_near : (p : PairOf) → Contains pairs p → AreInRange a s p.a p.b
      listed_near p listed = elim (told_in_range a s p.a p.b) [
        | inl near ↦ near
        | inr far ↦ absurd (elim (cases_lt p.b p.a) [
          | inr le ↦ right p.a p.b le (inr (inl (any_from_contained (λ (x : PairOf). IsPairOf x p.a p.b) pairs p listed (inl (refl, refl)), far)))
          | inl lt ↦ right p.b p.a (omega arith) (inr (inl (
            any_from_contained (λ (x : PairOf). IsPairOf x p.b p.a) pairs p listed (inr (refl, refl)),
            λ near.
                let y = at_site p.b p.a near in far (in_range y.0 p.a p.b (together_back a s y.0 p.b p.a y.1)),
          )))
        ])
      ]

      abbrev pub Listed : ℕ → Type 0
      Listed q = Any (λ (pair : PairOf). (pair.a ≡ q) ⊎ (pair.b ≡ q)) pairs

      near_listed : (q r : ℕ) → AreInRange a s q r → ¬ ¬ Listed q
      near_listed q r near none = elim (cases_lt r q) [
        | inr le ↦ right q r le (inr (inr (
          near,
          λ any.
              let y = any_contained (λ (p : PairOf). IsPairOf p q r) pairs any in
              none (any_from_contained (λ (pair : PairOf). (pair.a ≡ q) ⊎ (pair.b ≡ q)) pairs y.0 y.1 (elim y.2 [ inl e ↦ inl e.0 | inr e ↦ inr e.1 ])),
        )))
        | inl lt ↦
            let z = at_site q r near in
            right r q (omega arith) (inr (inr (
              in_range z.0 r q (together_back a s z.0 q r z.1),
              λ any.
                  let y = any_contained (λ (p : PairOf). IsPairOf p r q) pairs any in
                  none (any_from_contained (λ (pair : PairOf). (pair.a ≡ q) ⊎ (pair.b ≡ q)) pairs y.0 y.1 (elim y.2 [ inl e ↦ inr e.1 | inr e ↦ inl e.0 ])),
            )))
      ]

      alone_unlisted : (q : ℕ) → IsAloneAtSite a s q → ¬ Listed q
      alone_unlisted q h any =
          let y = any_contained (λ (pair : PairOf). (pair.a ≡ q) ⊎ (pair.b ≡ q)) pairs any in
          let z = at_site y.0.a y.0.b (listed_near y.0 y.1) in
          elim y.2 [
            | inl e ↦ alone z.0 y.0.b (subst (λ (n : ℕ). AreTogether a s z.0 n y.0.b) e z.1)
            | inr e ↦ alone z.0 y.0.a (together_back a s z.0 y.0.a q (subst (λ (n : ℕ). AreTogether a s z.0 y.0.a n) e z.1))
          ]
        where
          alone : (site r : ℕ) → ¬ AreTogether a s site q r
          alone site r t = h.2 r (subst (λ (z : ℕ). AreTogether a s z q r) (rests_at_one a s q site h.0 t.1 h.1) t)

      pub alone_same : (q : ℕ) → Same (IsAloneAtSite a s q) (((p : Point) × RestsLit a s q p) × ¬ Listed q)
      alone_same q = (
        λ h. (site_lit a s sound counts dark lit within one h.0 q h.1, alone_unlisted q h),
        λ h.
            let x = lit_at_site a s sound counts dark lit within one q h.0.0 h.0.1 in
            (x.0, x.1, λ r t. near_listed q r (in_range x.0 q r t) h.1),
      )

  pub alone_step : (pairs : List PairOf) (step : Step) (o : Option ℕ) → step ≡ Pulse pairs → AreMetBefore a s step 11 → IsLeastOf (IsAloneAtSite a s) o → IsLeastOf (IsLitAlone a s step) o
  alone_step pairs step o e met h =
      let here : AreMetBefore a s (Pulse pairs) 11 = subst (λ (x : Step). AreMetBefore a s x 11) e met in
      let right : (q r : ℕ) → q ≤ r → ¬ IsWrongPair a s pairs q r = λ q r le wrong. here (PairWrong q r) (omega arith) (le, wrong) in
      subst (λ (x : Step). IsLeastOf (IsLitAlone a s x) o) (sym e) (least_same (IsAloneAtSite a s) (IsLitAlone a s (Pulse pairs)) o (alone_same pairs right) h)
