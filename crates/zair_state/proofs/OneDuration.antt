-- A step has one duration.
use Rattle.std.proofs.Common.{◌≡◌, ℕ, List, sym, ◌∙◌, arith}
use Rattle.zac_arch.specs.Distances.{IsMoveTime}
use Rattle.zac_arch.specs.declared.card.Figures.{Figures}
use Rattle.zair_form.specs.declared.step.Step.{Step}
use Rattle.zair_form.specs.declared.step.Step.TheVariants.{Activate, Move, Deactivate, One, Pulse, Readout}
use Rattle.zair_form.specs.Times.{Lasts}

-- two least times are one
IsMoveTime-same : (accel dx dy t u : ℕ) → IsMoveTime accel dx dy t → IsMoveTime accel dx dy u → t ≡ u
IsMoveTime-same accel dx dy t u first second =
    let low = first.least u second.enough in
    let high = second.least t first.enough in
    omega arith

-- a step has one duration
pub Lasts-same : (f : Figures) (earlier : List Step) (s : Step) (t u : ℕ) → Lasts f earlier s t → Lasts f earlier s u → t ≡ u
Lasts-same f earlier (Activate aod rows columns atoms) t u first second = first ∙ sym second
Lasts-same f earlier (Move aod rows columns) t u first second = IsMoveTime-same _ _ _ t u first second
Lasts-same f earlier (Deactivate aod rows columns atoms) t u first second = first ∙ sym second
Lasts-same f earlier (One gate) t u first second = first ∙ sym second
Lasts-same f earlier (Pulse pairs) t u first second = first ∙ sym second
Lasts-same f earlier (Readout reads) t u first second = first ∙ sym second
