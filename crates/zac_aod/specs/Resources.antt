-- The resources of a job's instruction.
use Rattle.std.specs.Prelude.{◌≡◌, ℕ, List}
use Rattle.std.specs.List.{Any}
use Rattle.zac_arch.specs.Architecture.{Architecture}
use Rattle.zac_group.specs.declared.shift.Shift.{Shift}
use Rattle.zair_form.specs.declared.step.Step.{Step}
use Rattle.zair_form.specs.declared.program.Act.TheVariants.{Job}
use Rattle.zair_state.specs.Resources.{Uses}
use Rattle.zair_state.specs.Resources.{Resource as resource}
use Rattle.zac_aod.specs.Soundness.{IsOnGrids}

-- The instruction of these steps uses its AOD and no other, the qubits of the moves and no others, the traps of the two
-- grids and no others, and not the laser.
pub record HasResources (a : Architecture) (shifts : List Shift) (aod : ℕ) (steps : List Step) : Type 0 where
  pub no_laser : ¬ Uses a (Job aod steps) resource.Laser
  pub aod_is : (n : ℕ) → Uses a (Job aod steps) (resource.Aod n) → n ≡ aod
  pub own_aod : Uses a (Job aod steps) (resource.Aod aod)
  pub qubits_are : (q : ℕ) → Uses a (Job aod steps) (resource.Qubit q) → Any (λ shift. shift.q ≡ q) shifts
  pub own_qubits : (q : ℕ) → Any (λ shift. shift.q ≡ q) shifts → Uses a (Job aod steps) (resource.Qubit q)
  pub traps_are : (t : ℕ) → Uses a (Job aod steps) (resource.Trap t) → IsOnGrids a shifts t
  pub own_traps : (t : ℕ) → IsOnGrids a shifts t → Uses a (Job aod steps) (resource.Trap t)
