-- Which steps an instruction has, and which lists of instructions are programs.
use Rattle.std.specs.Prelude.{◌≡◌, ℕ, Bool, true, false, not, ◌&&◌, ◌==◌, Some, List, [], ◌∷◌, map, slice_get}
use Rattle.std.specs.List.{list_all}
use Rattle.zac_arch.specs.declared.place.TrapId.{TrapId}
use Rattle.zair_form.specs.declared.step.Step.{Step}
use Rattle.zair_form.specs.declared.step.Step.TheVariants.{Activate, Move, Deactivate, One, Pulse}
use Rattle.zair_form.specs.declared.step.Step.TheVariants as step
use Rattle.zair_form.specs.declared.program.Act.{Act}
use Rattle.zair_form.specs.declared.program.Act.TheVariants.{Init, Gates, Rydberg, Job, Readout}
use Rattle.zair_form.specs.declared.program.Instr.{Instr}

-- The steps of an act, in order: none of `Init`, a one-qubit gate for each of the gates, one pulse, the steps of a
-- job, one readout.
abbrev pub steps_of : Act → List Step
steps_of (Init homes) = []
steps_of (Gates ones) = map (λ gate. One gate) ones
steps_of (Rydberg pairs) = Pulse pairs ∷ []
steps_of (Job aod steps) = steps
steps_of (Readout reads) = step.Readout reads ∷ []

-- The step is an activate, a move or a deactivate of this AOD.
abbrev pub is_step_of : ℕ → Step → Bool
is_step_of aod (Activate a rows columns atoms) = a == aod
is_step_of aod (Move a rows columns) = a == aod
is_step_of aod (Deactivate a rows columns atoms) = a == aod
is_step_of aod (One gate) = false
is_step_of aod (Pulse pairs) = false
is_step_of aod (step.Readout reads) = false

-- The act is `Init`.
abbrev pub is_init : Act → Bool
is_init (Init homes) = true
is_init (Gates ones) = false
is_init (Rydberg pairs) = false
is_init (Job aod steps) = false
is_init (Readout reads) = false

-- If the act is a job, each of its steps is a step of the job's own AOD.
abbrev pub has_own_steps : Act → Bool
has_own_steps (Init homes) = true
has_own_steps (Gates ones) = true
has_own_steps (Rydberg pairs) = true
has_own_steps (Job aod steps) = list_all (is_step_of aod) steps
has_own_steps (Readout reads) = true

-- The instruction is no `Init`, and if it is a job, it has steps of its own AOD alone.
abbrev pub may_follow : Instr → Bool
may_follow i = not (is_init i.act) && has_own_steps i.act

-- The list has a first instruction, which is `Init`; each later one may follow. It is the invariant of a `Program`.
abbrev pub is_program : List Instr → Bool
is_program [] = false
is_program (i ∷ is) = is_init i.act && list_all may_follow is

-- The homes that an act gives; none if it is no `Init`.
abbrev pub homes_of : Act → List TrapId
homes_of (Init homes) = homes
homes_of (Gates ones) = []
homes_of (Rydberg pairs) = []
homes_of (Job aod steps) = []
homes_of (Readout reads) = []

-- The homes that the first instruction of a list gives.
abbrev pub homes : List Instr → List TrapId
homes [] = []
homes (i ∷ is) = homes_of i.act

-- The step stands at this place among those of the instruction of this number, both counted from 0.
abbrev pub IsStepAt : List Instr → ℕ → ℕ → Step → Type 0
IsStepAt program number place s =
    (i : Instr) × (slice_get program number ≡ Some i) × (slice_get (steps_of i.act) place ≡ Some s)
