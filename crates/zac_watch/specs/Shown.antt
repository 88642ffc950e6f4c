-- What the watches of a panel come to when steps are shown to them.
use Rattle.std.specs.Prelude.{◌≡◌, ℕ, ◌+◌, ◌-◌, ◌^◌, min, List, [], ◌∷◌, length, Some, sum_by}
use Rattle.std.specs.List.{slice_get}
use Rattle.zair_form.specs.declared.step.Step.{Step}
use Rattle.zac_watch.specs.declared.kind.Kind.{Kind}
use Rattle.zac_watch.specs.Weights.{weight}

-- The sum of a watch of this kind that had this sum, once it was shown these steps: their weights are added, and it is
-- at most 2^128 - 1. A watch that was shown nothing has its old sum.
abbrev pub sum_after : Kind → ℕ → List Step → ℕ
sum_after kind sum [] = sum
sum_after kind sum (s ∷ ss) = min (2 ^ 128 - 1) (sum + sum_by (weight kind) (s ∷ ss))

-- The panel has as many watches as before, in their order, and each was shown these steps: its kind is as before, and
-- its sum is the old one and the weights of the steps.
pub record WereShown {W : Type 0} (kind : W → Kind) (sum : W → ℕ) (old new : List W) (steps : List Step) : Type 0 where
  pub number : length new ≡ length old
  pub each : (k : ℕ) (before after : W) → slice_get old k ≡ Some before → slice_get new k ≡ Some after →
      (kind after ≡ kind before) × (sum after ≡ sum_after (kind before) (sum before) steps)
