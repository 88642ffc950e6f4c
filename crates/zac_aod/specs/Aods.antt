-- Inside: steps of another AOD.
use Rattle.std.specs.Prelude.{ℕ}
use Rattle.zair_form.specs.declared.step.Step.{Step}
use Rattle.zair_form.specs.declared.step.Step.TheVariants.{Activate, Move, Deactivate, One, Pulse, Readout}

-- the step with this AOD, if it is one of an AOD
abbrev pub step_on : ℕ → Step → Step
step_on aod (Activate own rows columns atoms) = Activate aod rows columns atoms
step_on aod (Move own rows columns) = Move aod rows columns
step_on aod (Deactivate own rows columns atoms) = Deactivate aod rows columns atoms
step_on aod (One gate) = One gate
step_on aod (Pulse pairs) = Pulse pairs
step_on aod (Readout reads) = Readout reads
