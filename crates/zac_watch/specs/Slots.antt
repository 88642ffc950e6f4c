-- What is kept of each step to put them in the named order.
use Rattle.std.specs.Prelude.{◌≡◌, ℕ, ◌<◌, ◌≤◌, ◌⊎◌, List, [], ◌++◌, map}
use Rattle.zac_arch.specs.declared.card.Figures.{Figures}
use Rattle.zair_form.specs.declared.step.Step.{Step}
use Rattle.zair_form.specs.declared.program.Instr.{Instr}
use Rattle.zair_form.specs.Times.{Timed, AreTimed, AreTimedSteps}
use Rattle.zac_watch.specs.declared.slot.Slot.{Slot}

-- What is kept of a timed step.
abbrev pub slot_of : Timed → Slot
slot_of t = record { begin = t.begin; instr = t.instr; place = t.place }

-- The steps of one instruction, timed one after another, were added to the slots.
abbrev pub WereAdded : Figures → ℕ → ℕ → List Step → List Slot → List Slot → Type 0
WereAdded f number begin steps old new =
    (own : List Timed) × AreTimed f number [] begin steps own × (new ≡ old ++ map slot_of own)

-- The slots are those of all steps of the program, in list order.
abbrev pub AreSlotsOf : Figures → List Instr → List Slot → Type 0
AreSlotsOf f program slots = (timed : List Timed) × AreTimedSteps f 0 program timed × (slots ≡ map slot_of timed)

-- The first slot stands no later: by begin, then by instruction, then by place.
abbrev pub IsNoLater : Slot → Slot → Type 0
IsNoLater x y =
    (x.begin < y.begin) ⊎ ((x.begin ≡ y.begin) × ((x.instr < y.instr) ⊎ ((x.instr ≡ y.instr) × (x.place ≤ y.place))))
