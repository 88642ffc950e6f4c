-- The first lit crossing of all AODs, and the first fault of the last condition.
use Rattle.std.proofs.Common.{◌≡◌, ℕ, ◌<◌, ◌≤◌, ◌⊎◌, inl, inr, Option, Some, None, List, length, [], ◌∷◌, refl, sym, subst, arith}
use Rattle.std.proofs.lemmas.Bool.{cases_lt, cases_order}
use Rattle.std.proofs.lemmas.List.{get_or_past}
use Rattle.std.specs.List.{Contains}
use Rattle.zac_arch.specs.Architecture.{Architecture, IsLit}
use Rattle.zair_form.specs.declared.step.Beam.{Beam}
use Rattle.zair_form.specs.declared.step.PairOf.{PairOf}
use Rattle.zair_form.specs.declared.step.Step.{Step}
use Rattle.zair_form.specs.declared.step.Step.TheVariants.{Activate, Move, Deactivate, One, Pulse, Readout}
use Rattle.zair_state.specs.declared.fault.MachineFault.{MachineFault}
use Rattle.zair_state.specs.declared.fault.MachineFault.TheVariants.{NotAtRest, Crossing}
use Rattle.zair_state.specs.State.{State, Beams, idle, beams_of, crossing}
use Rattle.zair_state.specs.Faults.{IsNotAtRest, IsCrossingLit}
use Rattle.zair_state.specs.FirstFault.{Breaks, ComesBefore, numbers, condition, Tells}
use Rattle.zair_state.specs.Least.{IsLeastOf, IsLeastPairOf, IsLeastTripleOf, IsNoLater}
use Rattle.zair_state.proofs.Membership.{contains_none}
use Rattle.zair_state.proofs.Picking.{NoneBelow}

-- a crossing of the AOD is lit
abbrev pub LitAt : Architecture → State → ℕ → ℕ → ℕ → Type 0
LitAt a s k r c =
    (row : Beam) × (column : Beam) × Contains (beams_of s k).rows row × Contains (beams_of s k).columns column × (row.id ≡ r) × (column.id ≡ c) × IsLit a (crossing row column)

-- some crossing of the AOD is lit
abbrev pub SomeLit : Architecture → State → ℕ → Type 0
SomeLit a s k = (r : ℕ) × (c : ℕ) × LitAt a s k r c

-- the crossings of these rows and columns that are lit
abbrev pub LitPair : Architecture → List Beam → List Beam → ℕ → ℕ → Type 0
LitPair a rows columns r c =
    (row : Beam) × (column : Beam) × Contains rows row × Contains columns column × (row.id ≡ r) × (column.id ≡ c) × IsLit a (crossing row column)

lit_there : (a : Architecture) (s : State) (k : ℕ) (rows columns : List Beam) (o : Option (ℕ × ℕ)) → rows ≡ (beams_of s k).rows → columns ≡ (beams_of s k).columns → IsLeastPairOf (LitPair a rows columns) o → IsLeastPairOf (LitAt a s k) o
lit_there a s k rows columns o f g = rw (f, g) (λ t. t)

pub none_lit : (a : Architecture) (s : State) (k : ℕ) (rows columns : List Beam) (o : Option (ℕ × ℕ)) → rows ≡ (beams_of s k).rows → columns ≡ (beams_of s k).columns → o ≡ None → IsLeastPairOf (LitPair a rows columns) o → ¬ SomeLit a s k
none_lit a s k rows columns o f g e told h = (subst (λ (p : Option (ℕ × ℕ)). IsLeastPairOf (LitAt a s k) p) e (lit_there a s k rows columns o f g told)) h.0 h.1 h.2

pub first_lit : (a : Architecture) (s : State) (k : ℕ) (rows columns : List Beam) (r c : ℕ) (o : Option (ℕ × ℕ)) → rows ≡ (beams_of s k).rows → columns ≡ (beams_of s k).columns → o ≡ Some (r, c) → NoneBelow (SomeLit a s) k → IsLeastPairOf (LitPair a rows columns) o → IsLeastTripleOf (LitAt a s) (Some (k, r, c))
first_lit a s k rows columns r c o f g e none told =
    let h = subst (λ (p : Option (ℕ × ℕ)). IsLeastPairOf (LitAt a s k) p) e (lit_there a s k rows columns o f g told) in (
      h.0,
      λ i m n at. elim (cases_order k i) as (λ _. (k < i) ⊎ ((k ≡ i) × IsNoLater (r, c) (m, n))) [
        | inl same ↦ inr (same, h.1 m n (subst (λ (j : ℕ). LitAt a s j m n) (sym same) at))
        | inr other ↦ elim other [ inl less ↦ inl less | inr more ↦ absurd (none i more (m, n, at)) ]
      ],
    )

pub never_lit : (a : Architecture) (s : State) (n : ℕ) → length s.aods ≤ n → NoneBelow (SomeLit a s) n → IsLeastTripleOf (LitAt a s) None
never_lit a s n le none k r c at = elim (cases_lt k n) [
  | inl less ↦ none k less (r, c, at)
  | inr ge ↦ contains_none at.0 (subst (λ (b : Beams). Contains b.rows at.0) (get_or_past s.aods k idle (omega arith)) at.2)
]

pub pulse_lit : (a : Architecture) (s : State) (pairs : List PairOf) (step : Step) (o : Option (ℕ × ℕ × ℕ)) → step ≡ Pulse pairs → IsLeastTripleOf (LitAt a s) o → IsLeastTripleOf (IsCrossingLit a s step) o
pulse_lit a s pairs step o e = rw e (λ t. t)

-- no step is at once asked of a held atom and a pulse
one_of_both : (a : Architecture) (s : State) (step : Step) (q k r c : ℕ) → IsNotAtRest s step q → ¬ IsCrossingLit a s step k r c
one_of_both a s (One gate) q k r c h lit = lit
one_of_both a s (Readout reads) q k r c h lit = lit
one_of_both a s (Pulse pairs) q k r c h lit = h
one_of_both a s (Activate aod rows columns atoms) q k r c h lit = h
one_of_both a s (Move aod rows columns) q k r c h lit = h
one_of_both a s (Deactivate aod rows columns atoms) q k r c h lit = h

not_before_one : (m n : ℕ) → n ≤ m → ¬ ComesBefore (12 ∷ m ∷ []) (12 ∷ n ∷ [])
not_before_one m n le h = elim h [
  | inl x ↦ absurd (omega arith)
  | inr y ↦ elim y.1 [ inl x ↦ absurd (omega arith) | inr z ↦ z.1 ]
]

not_before_three : (k m n i j l : ℕ) → (i < k) ⊎ ((i ≡ k) × IsNoLater (j, l) (m, n)) → ¬ ComesBefore (12 ∷ k ∷ m ∷ n ∷ []) (12 ∷ i ∷ j ∷ l ∷ [])
not_before_three k m n i j l later h = elim h [
  | inl x ↦ absurd (omega arith)
  | inr y ↦ elim y.1 [
    | inl x ↦ elim later [ inl e ↦ absurd (omega arith) | inr e ↦ absurd (omega (arith, x, e.0)) ]
    | inr z ↦ elim later [
      | inl e ↦ absurd (omega (arith, e, z.0))
      | inr e ↦ elim z.1 [
        | inl x ↦ elim e.1 [ inl f ↦ absurd (omega (arith, x, f)) | inr f ↦ absurd (omega (arith, x, f.0)) ]
        | inr w ↦ elim w.1 [
          | inl x ↦ elim e.1 [ inl f ↦ absurd (omega (arith, f, w.0)) | inr f ↦ absurd (omega (arith, x, f.1)) ]
          | inr v ↦ v.1
        ]
      ]
    ]
  ]
]

module _ (a : Architecture) (s : State) (step : Step) where
  pub rest_told : (o : Option ℕ) (n : ℕ) → o ≡ Some n → IsLeastOf (IsNotAtRest s step) o → Tells a s step 12 (Some (NotAtRest n))
  rest_told o n e h =
      let k = subst (λ (p : Option ℕ). IsLeastOf (IsNotAtRest s step) p) e h in
      (refl, k.0, rest_least n k.0 k.1)
    where
      rest_least : (n : ℕ) → IsNotAtRest s step n → ((m : ℕ) → IsNotAtRest s step m → n ≤ m) → (g : MachineFault) → condition g ≡ 12 → Breaks a s step g → ¬ ComesBefore (numbers g) (12 ∷ n ∷ [])
      rest_least n here least (NotAtRest m) e h = not_before_one m n (least m h)
      rest_least n here least (Crossing k r c) e h = λ before. one_of_both a s step n k r c here h
      rest_least n here least g e h = absurd (omega (arith, e))

  pub crossing_told : (o : Option ℕ) (p : Option (ℕ × ℕ × ℕ)) (i j l : ℕ) → o ≡ None → p ≡ Some (i, j, l) → IsLeastOf (IsNotAtRest s step) o → IsLeastTripleOf (IsCrossingLit a s step) p → Tells a s step 12 (Some (Crossing i j l))
  crossing_told o p i j l e f h told =
      let none = subst (λ (x : Option ℕ). IsLeastOf (IsNotAtRest s step) x) e h in
      let k = subst (λ (x : Option (ℕ × ℕ × ℕ)). IsLeastTripleOf (IsCrossingLit a s step) x) f told in
      (refl, k.0, crossing_least i j l none k.1)
    where
      crossing_least : (i j l : ℕ) → ((m : ℕ) → ¬ IsNotAtRest s step m) → ((k r c : ℕ) → IsCrossingLit a s step k r c → (i < k) ⊎ ((i ≡ k) × IsNoLater (j, l) (r, c))) → (g : MachineFault) → condition g ≡ 12 → Breaks a s step g → ¬ ComesBefore (numbers g) (12 ∷ i ∷ j ∷ l ∷ [])
      crossing_least i j l none least (NotAtRest m) e h = λ before. none m h
      crossing_least i j l none least (Crossing k r c) e h = not_before_three k r c i j l (least k r c h)
      crossing_least i j l none least g e h = absurd (omega (arith, e))

  pub rest_met : (o : Option ℕ) (p : Option (ℕ × ℕ × ℕ)) → o ≡ None → p ≡ None → IsLeastOf (IsNotAtRest s step) o → IsLeastTripleOf (IsCrossingLit a s step) p → Tells a s step 12 None
  rest_met o p e f h told =
      rest_none (subst (λ (x : Option ℕ). IsLeastOf (IsNotAtRest s step) x) e h) (subst (λ (x : Option (ℕ × ℕ × ℕ)). IsLeastTripleOf (IsCrossingLit a s step) x) f told)
    where
      rest_none : ((m : ℕ) → ¬ IsNotAtRest s step m) → ((k r c : ℕ) → ¬ IsCrossingLit a s step k r c) → (g : MachineFault) → condition g ≡ 12 → ¬ Breaks a s step g
      rest_none none dark (NotAtRest m) e h = none m h
      rest_none none dark (Crossing k r c) e h = dark k r c h
      rest_none none dark g e h = absurd (omega (arith, e))
