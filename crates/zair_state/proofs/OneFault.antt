-- A step has one first fault at most.
use Rattle.std.proofs.Common.{◌≡◌, ℕ, zero, suc, inl, inr, List, [], ◌∷◌, refl, sym, ap, ◌∙◌}
use Rattle.std.proofs.lemmas.Bool.{cases_order}
use Rattle.zac_arch.specs.Architecture.{Architecture}
use Rattle.zair_form.specs.declared.step.Step.{Step}
use Rattle.zair_state.specs.declared.fault.Axis.{Axis}
use Rattle.zair_state.specs.declared.fault.Axis.TheVariants.{Row, Column}
use Rattle.zair_state.specs.declared.fault.BeamId.{BeamId}
use Rattle.zair_state.specs.declared.fault.MachineFault.{MachineFault}
use Rattle.zair_state.specs.declared.fault.MachineFault.TheVariants.{Unknown, Busy, NotActive, Limit, Order, Gap, Touch, PickWrong, DropWrong, TrapFull, PairWrong, LitAlone, NotAtRest, Crossing}
use Rattle.zair_state.specs.State.{State}
use Rattle.zair_state.specs.Faults.{along}
use Rattle.zair_state.specs.FirstFault.{numbers, ComesBefore, IsFirstFault}

-- the beam of these numbers
abbrev beam_of : ℕ → ℕ → BeamId
beam_of zero id = record { axis = Row; id = id }
beam_of (suc n) id = record { axis = Column; id = id }

again : (axis : Axis) (id : ℕ) → beam_of (along axis 0 1) id ≡ record { axis = axis; id = id }
again Row id = refl
again Column id = refl

-- the fault of these numbers
abbrev fault_of : List ℕ → MachineFault
fault_of (zero ∷ n ∷ ns) = Unknown n
fault_of (suc zero ∷ axis ∷ id ∷ ns) = Busy (beam_of axis id)
fault_of (suc (suc zero) ∷ axis ∷ id ∷ ns) = NotActive (beam_of axis id)
fault_of (suc (suc (suc zero)) ∷ axis ∷ id ∷ ns) = Limit (beam_of axis id)
fault_of (suc (suc (suc (suc zero))) ∷ axis ∷ id ∷ ns) = Order (beam_of axis id)
fault_of (suc (suc (suc (suc (suc zero)))) ∷ axis ∷ id ∷ ns) = Gap (beam_of axis id)
fault_of (suc (suc (suc (suc (suc (suc zero))))) ∷ row ∷ column ∷ ns) = Touch row column
fault_of (suc (suc (suc (suc (suc (suc (suc zero)))))) ∷ q ∷ ns) = PickWrong q
fault_of (suc (suc (suc (suc (suc (suc (suc (suc zero))))))) ∷ q ∷ ns) = DropWrong q
fault_of (suc (suc (suc (suc (suc (suc (suc (suc (suc zero)))))))) ∷ q ∷ trap ∷ ns) = TrapFull q (record { 0 = trap })
fault_of (suc (suc (suc (suc (suc (suc (suc (suc (suc (suc zero))))))))) ∷ q ∷ r ∷ ns) = PairWrong q r
fault_of (suc (suc (suc (suc (suc (suc (suc (suc (suc (suc (suc zero)))))))))) ∷ q ∷ ns) = LitAlone q
fault_of (suc (suc (suc (suc (suc (suc (suc (suc (suc (suc (suc (suc n))))))))))) ∷ q ∷ []) = NotAtRest q
fault_of (suc (suc (suc (suc (suc (suc (suc (suc (suc (suc (suc (suc n))))))))))) ∷ aod ∷ row ∷ column ∷ ns) = Crossing aod row column
fault_of ns = Unknown 0

read_again : (fault : MachineFault) → fault_of (numbers fault) ≡ fault
read_again (Unknown number) = refl
read_again (Busy beam) = ap (λ (b : BeamId). Busy b) (again beam.axis beam.id)
read_again (NotActive beam) = ap (λ (b : BeamId). NotActive b) (again beam.axis beam.id)
read_again (Limit beam) = ap (λ (b : BeamId). Limit b) (again beam.axis beam.id)
read_again (Order beam) = ap (λ (b : BeamId). Order b) (again beam.axis beam.id)
read_again (Gap beam) = ap (λ (b : BeamId). Gap b) (again beam.axis beam.id)
read_again (Touch row column) = refl
read_again (PickWrong q) = refl
read_again (DropWrong q) = refl
read_again (TrapFull q trap) = refl
read_again (PairWrong q r) = refl
read_again (LitAlone q) = refl
read_again (NotAtRest q) = refl
read_again (Crossing aod row column) = refl

-- of two lists neither of which comes before the other, both are the same
neither_first : (ms ns : List ℕ) → ¬ ComesBefore ms ns → ¬ ComesBefore ns ms → ms ≡ ns
neither_first [] [] h k = refl
neither_first [] (n ∷ ns) h k = absurd (h tt)
neither_first (m ∷ ms) [] h k = absurd (k tt)
neither_first (m ∷ ms) (n ∷ ns) h k = elim (cases_order m n) [
  | inl e ↦ let rest : ms ≡ ns = neither_first ms ns (λ b. h (inr (e, b))) (λ b. k (inr (sym e, b))) in cc
  | inr other ↦ elim other [ inl lt ↦ absurd (h (inl lt)) | inr gt ↦ absurd (k (inl gt)) ]
]

pub one_first : (a : Architecture) (s : State) (step : Step) (f g : MachineFault) → IsFirstFault a s step f → IsFirstFault a s step g → f ≡ g
one_first a s step f g h k =
    let same : numbers f ≡ numbers g = neither_first (numbers f) (numbers g) (k.first f h.breaks) (h.first g k.breaks) in
    sym (read_again f) ∙ ap fault_of same ∙ read_again g
