-- From the least thing that breaks a condition to the first fault.
use Rattle.std.proofs.Common.{◌≡◌, ℕ, ◌+◌, ◌<◌, ◌≤◌, ◌⊎◌, inl, inr, Option, Some, None, MatchOption, List, [], ◌∷◌, refl, ◌∙◌, subst, arith}
use Rattle.std.proofs.lemmas.Bool.{cases_lt}
use Rattle.zac_arch.specs.Architecture.{Architecture}
use Rattle.zair_form.specs.declared.step.Step.{Step}
use Rattle.zair_state.specs.declared.fault.BeamId.{BeamId}
use Rattle.zair_state.specs.declared.fault.MachineFault.{MachineFault}
use Rattle.zair_state.specs.declared.fault.MachineFault.TheVariants.{Unknown, Busy, NotActive, Limit, Order, Gap, Touch, PickWrong, DropWrong, TrapFull, PairWrong, LitAlone, NotAtRest, Crossing}
use Rattle.zair_state.specs.State.{State}
use Rattle.zair_state.specs.Faults.{IsUnknown, IsBusy, IsNotActive, IsPastLimit, IsOutOfOrder, IsTooNear, DoTouch, IsPickWrong, IsDropWrong, IsPairWrong, IsLitAlone}
use Rattle.zair_state.specs.FirstFault.{Breaks, IsFirstFault, ComesBefore, numbers, beam_numbers, condition, AreMetBefore, Tells}
use Rattle.zair_state.specs.Legal.{IsLegal}
use Rattle.zair_state.specs.Least.{IsLeastOf, IsLeastPairOf, IsFirstBeam}

-- the list begins with this number
abbrev Begins : List ℕ → ℕ → Type 0
Begins ns n = (rest : List ℕ) × (ns ≡ n ∷ rest)

-- a fault that comes before another is of an earlier condition or of the same one
earlier : (f g : MachineFault) → ComesBefore (numbers g) (numbers f) → (condition g < condition f) ⊎ (condition g ≡ condition f)
earlier f g before = by_heads (numbers g) (numbers f) (condition g) (condition f) (heads g) (heads f) before
  where
    heads : (f : MachineFault) → Begins (numbers f) (condition f)
    heads (Unknown number) = (_, refl)
    heads (Busy beam) = (_, refl)
    heads (NotActive beam) = (_, refl)
    heads (Limit beam) = (_, refl)
    heads (Order beam) = (_, refl)
    heads (Gap beam) = (_, refl)
    heads (Touch row column) = (_, refl)
    heads (PickWrong q) = (_, refl)
    heads (DropWrong q) = (_, refl)
    heads (TrapFull q trap) = (_, refl)
    heads (PairWrong q r) = (_, refl)
    heads (LitAlone q) = (_, refl)
    heads (NotAtRest q) = (_, refl)
    heads (Crossing aod row column) = (_, refl)

    by_heads : (ms ns : List ℕ) (m n : ℕ) → Begins ms m → Begins ns n → ComesBefore ms ns → (m < n) ⊎ (m ≡ n)
    by_heads ms ns m n bm bn before =
        let h : ComesBefore (m ∷ bm.0) (n ∷ bn.0) = subst (λ (xs : List ℕ). ComesBefore xs (n ∷ bn.0)) bm.1 (subst (λ (ys : List ℕ). ComesBefore ms ys) bn.1 before) in
        elim h [ inl x ↦ inl x | inr x ↦ inr x.0 ]

module _ (a : Architecture) (s : State) (step : Step) where
  pub met_more : (n : ℕ) → AreMetBefore a s step n → Tells a s step n None → AreMetBefore a s step (n + 1)
  met_more n met none f lt h = elim (cases_lt (condition f) n) [
    | inl less ↦ met f less h
    | inr le ↦ none f (omega arith) h
  ]

  pub met_at_first : AreMetBefore a s step 0
  met_at_first f lt h = absurd (omega arith)

  pub first_told : (n : ℕ) (f : MachineFault) → AreMetBefore a s step n → Tells a s step n (Some f) → IsFirstFault a s step f
  first_told n f met told = record {
    breaks = told.1;
    first = λ g h before. elim (earlier f g before) [
      | inl less ↦ met g (let e = told.0 in omega arith) h
      | inr same ↦ told.2 g (same ∙ told.0) h before
    ];
  }

  pub end_told : (n : ℕ) (o : Option MachineFault) → AreMetBefore a s step n → Tells a s step n o → MatchOption o (AreMetBefore a s step (n + 1)) (IsFirstFault a s step)
  end_told n None met told = met_more n met told
  end_told n (Some f) met told = first_told n f met told

  all_met : AreMetBefore a s step 13 → (f : MachineFault) → ¬ Breaks a s step f
  all_met met f h = met f (below f) h
    where
      below : (f : MachineFault) → condition f < 13
      below (Unknown number) = omega arith
      below (Busy beam) = omega arith
      below (NotActive beam) = omega arith
      below (Limit beam) = omega arith
      below (Order beam) = omega arith
      below (Gap beam) = omega arith
      below (Touch row column) = omega arith
      below (PickWrong q) = omega arith
      below (DropWrong q) = omega arith
      below (TrapFull q trap) = omega arith
      below (PairWrong q r) = omega arith
      below (LitAlone q) = omega arith
      below (NotAtRest q) = omega arith
      below (Crossing aod row column) = omega arith

  pub legal_told : (b : Architecture) (o : Option MachineFault) → b ≡ a → (((f : MachineFault) → ¬ Breaks b s step f) → IsLegal b s step) → MatchOption o (AreMetBefore a s step 13) (IsFirstFault a s step) → MatchOption o (IsLegal a s step) (IsFirstFault a s step)
  legal_told b None e unbroken met =
      subst (λ (x : Architecture). ((f : MachineFault) → ¬ Breaks x s step f) → IsLegal x s step) e unbroken (all_met met)
  legal_told b (Some f) e unbroken first = first

  one_not_before : (k m n : ℕ) → n ≤ m → ¬ ComesBefore (k ∷ m ∷ []) (k ∷ n ∷ [])
  one_not_before k m n le h = elim h [
    | inl x ↦ absurd (omega arith)
    | inr y ↦ elim y.1 [ inl x ↦ absurd (omega arith) | inr z ↦ z.1 ]
  ]

  two_not_before : (k m n i j : ℕ) → (i < m) ⊎ ((i ≡ m) × (j ≤ n)) → ¬ ComesBefore (k ∷ m ∷ n ∷ []) (k ∷ i ∷ j ∷ [])
  two_not_before k m n i j later h = elim h [
    | inl x ↦ absurd (omega arith)
    | inr y ↦ elim y.1 [
      | inl x ↦ elim later [ inl l ↦ absurd (omega arith) | inr l ↦ absurd (omega (arith, x, l.0)) ]
      | inr z ↦ elim z.1 [
        | inl x ↦ elim later [ inl l ↦ absurd (omega (arith, l, z.0)) | inr l ↦ absurd (omega (arith, x, l.1)) ]
        | inr w ↦ w.1
      ]
    ]
  ]

  same_beams : (k : ℕ) (b c : BeamId) → ComesBefore (beam_numbers k c) (beam_numbers k b) → ComesBefore (beam_numbers 0 c) (beam_numbers 0 b)
  same_beams k b c h = elim h [ inl x ↦ absurd (omega arith) | inr y ↦ inr (refl, y.1) ]

  pub unknown_told : (o : Option ℕ) (n : ℕ) → o ≡ Some n → IsLeastOf (IsUnknown a s step) o → Tells a s step 0 (Some (Unknown n))
  unknown_told o n e h =
      let k = subst (λ (p : Option ℕ). IsLeastOf (IsUnknown a s step) p) e h in
      (refl, k.0, unknown_least n k.1)
    where
      unknown_least : (n : ℕ) → ((m : ℕ) → IsUnknown a s step m → n ≤ m) → (g : MachineFault) → condition g ≡ 0 → Breaks a s step g → ¬ ComesBefore (numbers g) (0 ∷ n ∷ [])
      unknown_least n least (Unknown m) e h = one_not_before 0 m n (least m h)
      unknown_least n least g e h = absurd (omega (arith, e))

  pub unknown_met : (o : Option ℕ) → o ≡ None → IsLeastOf (IsUnknown a s step) o → Tells a s step 0 None
  unknown_met o e h = unknown_none (subst (λ (p : Option ℕ). IsLeastOf (IsUnknown a s step) p) e h)
    where
      unknown_none : ((m : ℕ) → ¬ IsUnknown a s step m) → (g : MachineFault) → condition g ≡ 0 → ¬ Breaks a s step g
      unknown_none none (Unknown m) e h = none m h
      unknown_none none g e h = absurd (omega (arith, e))

  pub busy_told : (o : Option BeamId) (b : BeamId) → o ≡ Some b → IsFirstBeam (IsBusy s step) o → Tells a s step 1 (Some (Busy b))
  busy_told o b e h =
      let k = subst (λ (p : Option BeamId). IsFirstBeam (IsBusy s step) p) e h in
      (refl, k.0, busy_least b k.1)
    where
      busy_least : (b : BeamId) → ((c : BeamId) → IsBusy s step c → ¬ ComesBefore (beam_numbers 0 c) (beam_numbers 0 b)) → (g : MachineFault) → condition g ≡ 1 → Breaks a s step g → ¬ ComesBefore (numbers g) (beam_numbers 1 b)
      busy_least b least (Busy c) e h = λ before. least c h (same_beams 1 b c before)
      busy_least b least g e h = absurd (omega (arith, e))

  pub busy_met : (o : Option BeamId) → o ≡ None → IsFirstBeam (IsBusy s step) o → Tells a s step 1 None
  busy_met o e h = busy_none (subst (λ (p : Option BeamId). IsFirstBeam (IsBusy s step) p) e h)
    where
      busy_none : ((c : BeamId) → ¬ IsBusy s step c) → (g : MachineFault) → condition g ≡ 1 → ¬ Breaks a s step g
      busy_none none (Busy c) e h = none c h
      busy_none none g e h = absurd (omega (arith, e))

  pub inactive_told : (o : Option BeamId) (b : BeamId) → o ≡ Some b → IsFirstBeam (IsNotActive s step) o → Tells a s step 2 (Some (NotActive b))
  inactive_told o b e h =
      let k = subst (λ (p : Option BeamId). IsFirstBeam (IsNotActive s step) p) e h in
      (refl, k.0, inactive_least b k.1)
    where
      inactive_least : (b : BeamId) → ((c : BeamId) → IsNotActive s step c → ¬ ComesBefore (beam_numbers 0 c) (beam_numbers 0 b)) → (g : MachineFault) → condition g ≡ 2 → Breaks a s step g → ¬ ComesBefore (numbers g) (beam_numbers 2 b)
      inactive_least b least (NotActive c) e h = λ before. least c h (same_beams 2 b c before)
      inactive_least b least g e h = absurd (omega (arith, e))

  pub inactive_met : (o : Option BeamId) → o ≡ None → IsFirstBeam (IsNotActive s step) o → Tells a s step 2 None
  inactive_met o e h = inactive_none (subst (λ (p : Option BeamId). IsFirstBeam (IsNotActive s step) p) e h)
    where
      inactive_none : ((c : BeamId) → ¬ IsNotActive s step c) → (g : MachineFault) → condition g ≡ 2 → ¬ Breaks a s step g
      inactive_none none (NotActive c) e h = none c h
      inactive_none none g e h = absurd (omega (arith, e))

  pub limit_told : (o : Option BeamId) (b : BeamId) → o ≡ Some b → IsFirstBeam (IsPastLimit a s step) o → Tells a s step 3 (Some (Limit b))
  limit_told o b e h =
      let k = subst (λ (p : Option BeamId). IsFirstBeam (IsPastLimit a s step) p) e h in
      (refl, k.0, limit_least b k.1)
    where
      limit_least : (b : BeamId) → ((c : BeamId) → IsPastLimit a s step c → ¬ ComesBefore (beam_numbers 0 c) (beam_numbers 0 b)) → (g : MachineFault) → condition g ≡ 3 → Breaks a s step g → ¬ ComesBefore (numbers g) (beam_numbers 3 b)
      limit_least b least (Limit c) e h = λ before. least c h (same_beams 3 b c before)
      limit_least b least g e h = absurd (omega (arith, e))

  pub limit_met : (o : Option BeamId) → o ≡ None → IsFirstBeam (IsPastLimit a s step) o → Tells a s step 3 None
  limit_met o e h = limit_none (subst (λ (p : Option BeamId). IsFirstBeam (IsPastLimit a s step) p) e h)
    where
      limit_none : ((c : BeamId) → ¬ IsPastLimit a s step c) → (g : MachineFault) → condition g ≡ 3 → ¬ Breaks a s step g
      limit_none none (Limit c) e h = none c h
      limit_none none g e h = absurd (omega (arith, e))

  pub order_told : (o : Option BeamId) (b : BeamId) → o ≡ Some b → IsFirstBeam (IsOutOfOrder s step) o → Tells a s step 4 (Some (Order b))
  order_told o b e h =
      let k = subst (λ (p : Option BeamId). IsFirstBeam (IsOutOfOrder s step) p) e h in
      (refl, k.0, order_least b k.1)
    where
      order_least : (b : BeamId) → ((c : BeamId) → IsOutOfOrder s step c → ¬ ComesBefore (beam_numbers 0 c) (beam_numbers 0 b)) → (g : MachineFault) → condition g ≡ 4 → Breaks a s step g → ¬ ComesBefore (numbers g) (beam_numbers 4 b)
      order_least b least (Order c) e h = λ before. least c h (same_beams 4 b c before)
      order_least b least g e h = absurd (omega (arith, e))

  pub order_met : (o : Option BeamId) → o ≡ None → IsFirstBeam (IsOutOfOrder s step) o → Tells a s step 4 None
  order_met o e h = order_none (subst (λ (p : Option BeamId). IsFirstBeam (IsOutOfOrder s step) p) e h)
    where
      order_none : ((c : BeamId) → ¬ IsOutOfOrder s step c) → (g : MachineFault) → condition g ≡ 4 → ¬ Breaks a s step g
      order_none none (Order c) e h = none c h
      order_none none g e h = absurd (omega (arith, e))

  pub gap_told : (o : Option BeamId) (b : BeamId) → o ≡ Some b → IsFirstBeam (IsTooNear a s step) o → Tells a s step 5 (Some (Gap b))
  gap_told o b e h =
      let k = subst (λ (p : Option BeamId). IsFirstBeam (IsTooNear a s step) p) e h in
      (refl, k.0, gap_least b k.1)
    where
      gap_least : (b : BeamId) → ((c : BeamId) → IsTooNear a s step c → ¬ ComesBefore (beam_numbers 0 c) (beam_numbers 0 b)) → (g : MachineFault) → condition g ≡ 5 → Breaks a s step g → ¬ ComesBefore (numbers g) (beam_numbers 5 b)
      gap_least b least (Gap c) e h = λ before. least c h (same_beams 5 b c before)
      gap_least b least g e h = absurd (omega (arith, e))

  pub gap_met : (o : Option BeamId) → o ≡ None → IsFirstBeam (IsTooNear a s step) o → Tells a s step 5 None
  gap_met o e h = gap_none (subst (λ (p : Option BeamId). IsFirstBeam (IsTooNear a s step) p) e h)
    where
      gap_none : ((c : BeamId) → ¬ IsTooNear a s step c) → (g : MachineFault) → condition g ≡ 5 → ¬ Breaks a s step g
      gap_none none (Gap c) e h = none c h
      gap_none none g e h = absurd (omega (arith, e))

  pub touch_told : (o : Option (ℕ × ℕ)) (i j : ℕ) → o ≡ Some (i, j) → IsLeastPairOf (DoTouch a s step) o → Tells a s step 6 (Some (Touch i j))
  touch_told o i j e h =
      let k = subst (λ (p : Option (ℕ × ℕ)). IsLeastPairOf (DoTouch a s step) p) e h in
      (refl, k.0, touch_least i j k.1)
    where
      touch_least : (i j : ℕ) → ((m n : ℕ) → DoTouch a s step m n → (i < m) ⊎ ((i ≡ m) × (j ≤ n))) → (g : MachineFault) → condition g ≡ 6 → Breaks a s step g → ¬ ComesBefore (numbers g) (6 ∷ i ∷ j ∷ [])
      touch_least i j least (Touch m n) e h = two_not_before 6 m n i j (least m n h)
      touch_least i j least g e h = absurd (omega (arith, e))

  pub touch_met : (o : Option (ℕ × ℕ)) → o ≡ None → IsLeastPairOf (DoTouch a s step) o → Tells a s step 6 None
  touch_met o e h = touch_none (subst (λ (p : Option (ℕ × ℕ)). IsLeastPairOf (DoTouch a s step) p) e h)
    where
      touch_none : ((m n : ℕ) → ¬ DoTouch a s step m n) → (g : MachineFault) → condition g ≡ 6 → ¬ Breaks a s step g
      touch_none none (Touch m n) e h = none m n h
      touch_none none g e h = absurd (omega (arith, e))

  pub pick_told : (o : Option ℕ) (n : ℕ) → o ≡ Some n → IsLeastOf (IsPickWrong a s step) o → Tells a s step 7 (Some (PickWrong n))
  pick_told o n e h =
      let k = subst (λ (p : Option ℕ). IsLeastOf (IsPickWrong a s step) p) e h in
      (refl, k.0, pick_least n k.1)
    where
      pick_least : (n : ℕ) → ((m : ℕ) → IsPickWrong a s step m → n ≤ m) → (g : MachineFault) → condition g ≡ 7 → Breaks a s step g → ¬ ComesBefore (numbers g) (7 ∷ n ∷ [])
      pick_least n least (PickWrong m) e h = one_not_before 7 m n (least m h)
      pick_least n least g e h = absurd (omega (arith, e))

  pub pick_met : (o : Option ℕ) → o ≡ None → IsLeastOf (IsPickWrong a s step) o → Tells a s step 7 None
  pick_met o e h = pick_none (subst (λ (p : Option ℕ). IsLeastOf (IsPickWrong a s step) p) e h)
    where
      pick_none : ((m : ℕ) → ¬ IsPickWrong a s step m) → (g : MachineFault) → condition g ≡ 7 → ¬ Breaks a s step g
      pick_none none (PickWrong m) e h = none m h
      pick_none none g e h = absurd (omega (arith, e))

  pub drop_told : (o : Option ℕ) (n : ℕ) → o ≡ Some n → IsLeastOf (IsDropWrong a s step) o → Tells a s step 8 (Some (DropWrong n))
  drop_told o n e h =
      let k = subst (λ (p : Option ℕ). IsLeastOf (IsDropWrong a s step) p) e h in
      (refl, k.0, drop_least n k.1)
    where
      drop_least : (n : ℕ) → ((m : ℕ) → IsDropWrong a s step m → n ≤ m) → (g : MachineFault) → condition g ≡ 8 → Breaks a s step g → ¬ ComesBefore (numbers g) (8 ∷ n ∷ [])
      drop_least n least (DropWrong m) e h = one_not_before 8 m n (least m h)
      drop_least n least g e h = absurd (omega (arith, e))

  pub drop_met : (o : Option ℕ) → o ≡ None → IsLeastOf (IsDropWrong a s step) o → Tells a s step 8 None
  drop_met o e h = drop_none (subst (λ (p : Option ℕ). IsLeastOf (IsDropWrong a s step) p) e h)
    where
      drop_none : ((m : ℕ) → ¬ IsDropWrong a s step m) → (g : MachineFault) → condition g ≡ 8 → ¬ Breaks a s step g
      drop_none none (DropWrong m) e h = none m h
      drop_none none g e h = absurd (omega (arith, e))

  pub pair_told : (o : Option (ℕ × ℕ)) (i j : ℕ) → o ≡ Some (i, j) → IsLeastPairOf (IsPairWrong a s step) o → Tells a s step 10 (Some (PairWrong i j))
  pair_told o i j e h =
      let k = subst (λ (p : Option (ℕ × ℕ)). IsLeastPairOf (IsPairWrong a s step) p) e h in
      (refl, k.0, pair_least i j k.1)
    where
      pair_least : (i j : ℕ) → ((m n : ℕ) → IsPairWrong a s step m n → (i < m) ⊎ ((i ≡ m) × (j ≤ n))) → (g : MachineFault) → condition g ≡ 10 → Breaks a s step g → ¬ ComesBefore (numbers g) (10 ∷ i ∷ j ∷ [])
      pair_least i j least (PairWrong m n) e h = two_not_before 10 m n i j (least m n h)
      pair_least i j least g e h = absurd (omega (arith, e))

  pub pair_met : (o : Option (ℕ × ℕ)) → o ≡ None → IsLeastPairOf (IsPairWrong a s step) o → Tells a s step 10 None
  pair_met o e h = pair_none (subst (λ (p : Option (ℕ × ℕ)). IsLeastPairOf (IsPairWrong a s step) p) e h)
    where
      pair_none : ((m n : ℕ) → ¬ IsPairWrong a s step m n) → (g : MachineFault) → condition g ≡ 10 → ¬ Breaks a s step g
      pair_none none (PairWrong m n) e h = none m n h
      pair_none none g e h = absurd (omega (arith, e))

  pub alone_told : (o : Option ℕ) (n : ℕ) → o ≡ Some n → IsLeastOf (IsLitAlone a s step) o → Tells a s step 11 (Some (LitAlone n))
  alone_told o n e h =
      let k = subst (λ (p : Option ℕ). IsLeastOf (IsLitAlone a s step) p) e h in
      (refl, k.0, alone_least n k.1)
    where
      alone_least : (n : ℕ) → ((m : ℕ) → IsLitAlone a s step m → n ≤ m) → (g : MachineFault) → condition g ≡ 11 → Breaks a s step g → ¬ ComesBefore (numbers g) (11 ∷ n ∷ [])
      alone_least n least (LitAlone m) e h = one_not_before 11 m n (least m h)
      alone_least n least g e h = absurd (omega (arith, e))

  pub alone_met : (o : Option ℕ) → o ≡ None → IsLeastOf (IsLitAlone a s step) o → Tells a s step 11 None
  alone_met o e h = alone_none (subst (λ (p : Option ℕ). IsLeastOf (IsLitAlone a s step) p) e h)
    where
      alone_none : ((m : ℕ) → ¬ IsLitAlone a s step m) → (g : MachineFault) → condition g ≡ 11 → ¬ Breaks a s step g
      alone_none none (LitAlone m) e h = none m h
      alone_none none g e h = absurd (omega (arith, e))
