-- What is seen of a panel of watches.
use Rattle.std.specs.Prelude.{◌≡◌, ℕ, ◌⊎◌, List, [], Option, map, take}
use Rattle.zac_arch.specs.declared.card.Figures.{Figures}
use Rattle.zac_io.specs.Outside.{NamedFiles}
use Rattle.zac_watch.specs.Shown.{WereShown}
use Rattle.zac_watch.specs.declared.kind.Kind.{Kind}
use Rattle.zair_form.specs.declared.program.Instr.{Instr}
use Rattle.zair_form.specs.declared.step.Step.{Step}
use Rattle.zair_form.specs.Times.{Timed}
use Rattle.zair_state.specs.Orders.{IsNamedOrder}
use Rattle.zair_state.specs.Performs.{steps_in}
use Rattle.zac_flow.specs.Compiled.{MayCompileTo}
use Rattle.zac_flow.specs.Words.{FileWords}

-- What a watch says: its kind, and its sum.
pub record Reading : Type 0 where
  pub kind : Kind
  pub sum : ℕ

-- What the watches of a panel say.
abbrev pub readings : {W : Type 0} → (W → Kind) → (W → ℕ) → List W → List Reading
readings kind sum panel = map (λ w. record { kind = kind w; sum = sum w }) panel

-- The panel had the one readings, was shown these steps, and has the other ones since.
abbrev pub AreShown : List Reading → List Reading → List Step → Type 0
AreShown old new steps = WereShown (λ r. r.kind) (λ r. r.sum) old new steps

-- It was shown all steps of the program, in the named order.
abbrev pub IsShownAll : Figures → List Instr → List Reading → List Reading → Type 0
IsShownAll f program old new = (order : List Timed) × IsNamedOrder f program order × AreShown old new (steps_in order)

-- It was shown the steps before some number in the named order.
abbrev pub IsShownPart : Figures → List Instr → List Reading → List Reading → Type 0
IsShownPart f program old new =
    (order : List Timed) × IsNamedOrder f program order × (number : ℕ) × AreShown old new (take number (steps_in order))

-- It was shown nothing, or such a part of a program to which what the words may give compiles.
abbrev pub MayBeShownPart : Option NamedFiles → FileWords → List Reading → List Reading → Type 0
MayBeShownPart files words old new =
    AreShown old new [] ⊎ ((program : List Instr) × (compiles : MayCompileTo files words program) × IsShownPart compiles.2.card.figures program old new)
