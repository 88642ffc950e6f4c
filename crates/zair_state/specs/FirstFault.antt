-- Which fault of a step is told: the first condition that is broken, by the least thing that breaks it.
use Rattle.std.specs.Prelude.{◌≡◌, ℕ, ◌<◌, ◌⊎◌, Option, MatchOption, List, [], ◌∷◌}
use Rattle.zac_arch.specs.Architecture.{Architecture}
use Rattle.zair_form.specs.declared.step.Step.{Step}
use Rattle.zair_state.specs.declared.fault.BeamId.{BeamId}
use Rattle.zair_state.specs.declared.fault.MachineFault.{MachineFault}
use Rattle.zair_state.specs.declared.fault.MachineFault.TheVariants.{Unknown, Busy, NotActive, Limit, Order, Gap, Touch, PickWrong, DropWrong, TrapFull, PairWrong, LitAlone, NotAtRest, Crossing}
use Rattle.zair_state.specs.State.{State}
use Rattle.zair_state.specs.Faults.{along, IsUnknown, IsBusy, IsNotActive, IsPastLimit, IsOutOfOrder, IsTooNear, DoTouch, IsPickWrong, IsDropWrong, IsTrapFull, IsPairWrong, IsLitAlone, IsNotAtRest, IsCrossingLit}

-- The step breaks the condition of this fault by what the fault shows.
abbrev pub Breaks : Architecture → State → Step → MachineFault → Type 0
Breaks a s step (Unknown number) = IsUnknown a s step number
Breaks a s step (Busy beam) = IsBusy s step beam
Breaks a s step (NotActive beam) = IsNotActive s step beam
Breaks a s step (Limit beam) = IsPastLimit a s step beam
Breaks a s step (Order beam) = IsOutOfOrder s step beam
Breaks a s step (Gap beam) = IsTooNear a s step beam
Breaks a s step (Touch row column) = DoTouch a s step row column
Breaks a s step (PickWrong q) = IsPickWrong a s step q
Breaks a s step (DropWrong q) = IsDropWrong a s step q
Breaks a s step (TrapFull q trap) = IsTrapFull a s step q trap
Breaks a s step (PairWrong q r) = IsPairWrong a s step q r
Breaks a s step (LitAlone q) = IsLitAlone a s step q
Breaks a s step (NotAtRest q) = IsNotAtRest s step q
Breaks a s step (Crossing aod row column) = IsCrossingLit a s step aod row column

-- The beam's place among the beams of its AOD: rows before columns, by id.
abbrev pub beam_numbers : ℕ → BeamId → List ℕ
beam_numbers condition b = condition ∷ along b.axis 0 1 ∷ b.id ∷ []

-- The place of the fault's condition in the order in which conditions are tested, and then the numbers of what it shows.
abbrev pub numbers : MachineFault → List ℕ
numbers (Unknown number) = 0 ∷ number ∷ []
numbers (Busy beam) = beam_numbers 1 beam
numbers (NotActive beam) = beam_numbers 2 beam
numbers (Limit beam) = beam_numbers 3 beam
numbers (Order beam) = beam_numbers 4 beam
numbers (Gap beam) = beam_numbers 5 beam
numbers (Touch row column) = 6 ∷ row ∷ column ∷ []
numbers (PickWrong q) = 7 ∷ q ∷ []
numbers (DropWrong q) = 8 ∷ q ∷ []
numbers (TrapFull q trap) = 9 ∷ q ∷ trap.0 ∷ []
numbers (PairWrong q r) = 10 ∷ q ∷ r ∷ []
numbers (LitAlone q) = 11 ∷ q ∷ []
numbers (NotAtRest q) = 12 ∷ q ∷ []
numbers (Crossing aod row column) = 12 ∷ aod ∷ row ∷ column ∷ []

-- At the first place where the lists differ, the first list has the smaller number, or has ended.
abbrev pub ComesBefore : List ℕ → List ℕ → Type 0
ComesBefore [] [] = ⊥
ComesBefore [] (n ∷ ns) = Unit {0}
ComesBefore (m ∷ ms) [] = ⊥
ComesBefore (m ∷ ms) (n ∷ ns) = (m < n) ⊎ ((m ≡ n) × ComesBefore ms ns)

-- The step breaks the fault's condition, none before it, and by nothing smaller.
pub record IsFirstFault (a : Architecture) (s : State) (step : Step) (fault : MachineFault) : Type 0 where
  pub breaks : Breaks a s step fault
  pub first : (other : MachineFault) → Breaks a s step other → ¬ ComesBefore (numbers other) (numbers fault)

-- The place of the fault's condition in the order in which conditions are tested.
abbrev pub condition : MachineFault → ℕ
condition (Unknown number) = 0
condition (Busy beam) = 1
condition (NotActive beam) = 2
condition (Limit beam) = 3
condition (Order beam) = 4
condition (Gap beam) = 5
condition (Touch row column) = 6
condition (PickWrong q) = 7
condition (DropWrong q) = 8
condition (TrapFull q trap) = 9
condition (PairWrong q r) = 10
condition (LitAlone q) = 11
condition (NotAtRest q) = 12
condition (Crossing aod row column) = 12

-- The step breaks no condition before the one of this place.
abbrev pub AreMetBefore : Architecture → State → Step → ℕ → Type 0
AreMetBefore a s step place = (fault : MachineFault) → condition fault < place → ¬ Breaks a s step fault

-- Of the condition at this place, the first fault that the step breaks is told; there is none where the step breaks none.
abbrev pub Tells : Architecture → State → Step → ℕ → Option MachineFault → Type 0
Tells a s step place told =
    MatchOption told ((fault : MachineFault) → condition fault ≡ place → ¬ Breaks a s step fault)
    (λ fault. (condition fault ≡ place) × Breaks a s step fault
    × ((other : MachineFault) → condition other ≡ place → Breaks a s step other → ¬ ComesBefore (numbers other) (numbers fault)))
