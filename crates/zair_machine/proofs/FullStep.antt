-- The first full trap of a step.
use Rattle.std.proofs.Common.{◌≡◌, ℕ, ◌<◌, ◌⊎◌, inl, inr, Option, Some, None, MatchOption, List, [], ◌∷◌, refl, ap, ◌∙◌, subst, arith}
use Rattle.zac_arch.specs.Architecture.{Architecture}
use Rattle.zac_arch.specs.declared.place.TrapId.{TrapId}
use Rattle.zair_form.specs.declared.step.Beam.{Beam}
use Rattle.zair_form.specs.declared.step.Step.{Step}
use Rattle.zair_form.specs.declared.step.Step.TheVariants.{Move}
use Rattle.zair_state.specs.declared.fault.Axis.TheVariants.{Row, Column}
use Rattle.zair_state.specs.declared.fault.MachineFault.{MachineFault}
use Rattle.zair_state.specs.declared.fault.MachineFault.TheVariants.{TrapFull}
use Rattle.zair_state.specs.State.{State}
use Rattle.zair_state.specs.Result.{with_beams}
use Rattle.zair_state.specs.Faults.{beams_after, IsTrapFull}
use Rattle.zair_state.specs.FirstFault.{Breaks, ComesBefore, numbers, condition, Tells}
use Rattle.zair_machine.proofs.Full.{FullAt}

-- the first qubit and trap with the property, where each qubit has it with one trap at most
abbrev pub FirstFull : (ℕ → TrapId → Type 0) → Option (ℕ × TrapId) → Type 0
FirstFull P o =
    MatchOption o ((q : ℕ) (t : TrapId) → ¬ P q t) (λ f. P f.0 f.1 × ((q : ℕ) (t : TrapId) → P q t → (f.0 < q) ⊎ ((f.0 ≡ q) × (t ≡ f.1))))

pub full_move : (a : Architecture) (s : State) (aod : ℕ) (rows columns up across : List Beam) (step : Step) (o : Option (ℕ × TrapId)) → step ≡ Move aod rows columns → up ≡ beams_after s step Row → across ≡ beams_after s step Column → FirstFull (FullAt a s aod up across) o → FirstFull (IsTrapFull a s step) o
full_move a s aod rows columns up across step o e f g =
    let u : up ≡ with_beams rows [] = f ∙ ap (λ (x : Step). beams_after s x Row) e in
    let v : across ≡ with_beams columns [] = g ∙ ap (λ (x : Step). beams_after s x Column) e in
    rw (e, u, v) (λ t. t)

not_earlier : (i j m n : ℕ) → (i < m) ⊎ ((i ≡ m) × (n ≡ j)) → ¬ ComesBefore (9 ∷ m ∷ n ∷ []) (9 ∷ i ∷ j ∷ [])
not_earlier i j m n later h = elim h [
  | inl x ↦ absurd (omega arith)
  | inr y ↦ elim y.1 [
    | inl x ↦ elim later [ inl l ↦ absurd (omega arith) | inr l ↦ absurd (omega (arith, x, l.0)) ]
    | inr z ↦ elim z.1 [
      | inl x ↦ elim later [ inl l ↦ absurd (omega (arith, l, z.0)) | inr l ↦ absurd (omega (arith, x, l.1)) ]
      | inr w ↦ w.1
    ]
  ]
]

module _ (a : Architecture) (s : State) (step : Step) where
  pub full_told : (o : Option (ℕ × TrapId)) (q : ℕ) (t : TrapId) → o ≡ Some (q, t) → FirstFull (IsTrapFull a s step) o → Tells a s step 9 (Some (TrapFull q t))
  full_told o q t e h =
      let k = subst (λ (p : Option (ℕ × TrapId)). FirstFull (IsTrapFull a s step) p) e h in
      (refl, k.0, full_least q t k.1)
    where
      full_least : (q : ℕ) (t : TrapId) → ((m : ℕ) (u : TrapId) → IsTrapFull a s step m u → (q < m) ⊎ ((q ≡ m) × (u ≡ t))) → (g : MachineFault) → condition g ≡ 9 → Breaks a s step g → ¬ ComesBefore (numbers g) (9 ∷ q ∷ t.0 ∷ [])
      full_least q t least (TrapFull m u) e h = not_earlier q t.0 m u.0 (elim (least m u h) [ inl x ↦ inl x | inr x ↦ inr (x.0, ap (λ (y : TrapId). y.0) x.1) ])
      full_least q t least g e h = absurd (omega (arith, e))

  pub full_met : (o : Option (ℕ × TrapId)) → o ≡ None → FirstFull (IsTrapFull a s step) o → Tells a s step 9 None
  full_met o e h = full_none (subst (λ (p : Option (ℕ × TrapId)). FirstFull (IsTrapFull a s step) p) e h)
    where
      full_none : ((m : ℕ) (u : TrapId) → ¬ IsTrapFull a s step m u) → (g : MachineFault) → condition g ≡ 9 → ¬ Breaks a s step g
      full_none none (TrapFull m u) e h = none m u h
      full_none none g e h = absurd (omega (arith, e))
