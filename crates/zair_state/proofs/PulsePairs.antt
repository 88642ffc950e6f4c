-- The pulses of a legal run find in range exactly the pairs that they list.
use Rattle.std.proofs.Common.{List, [], ◌∷◌, ◌++◌, subst}
use Rattle.zac_arch.specs.Architecture.{Architecture}
use Rattle.zair_form.specs.declared.step.PairOf.{PairOf}
use Rattle.zair_form.specs.declared.step.Step.{Step}
use Rattle.zair_form.specs.declared.step.Step.TheVariants.{Pulse}
use Rattle.zair_state.specs.Legal.{ListsPairsInRange}
use Rattle.zair_state.specs.Performs.{EachPulseFindsItsPairs}
use Rattle.zair_state.specs.Result.{after}
use Rattle.zair_state.specs.Run.{IsLegalRun, after_all}
use Rattle.zair_state.specs.State.{State}

-- a pulse behind some steps of a legal run is legal
pulse_finds : (a : Architecture) (s : State) (before behind : List Step) (pairs : List PairOf) →
    IsLegalRun a s (before ++ Pulse pairs ∷ behind) → ListsPairsInRange a (after_all s before) pairs
pulse_finds a s [] behind pairs run = run.0.in_range
pulse_finds a s (x ∷ before) behind pairs run = pulse_finds a (after s x) before behind pairs run.1

pub each_pulse_finds : (a : Architecture) (s : State) (steps : List Step) → IsLegalRun a s steps → EachPulseFindsItsPairs a s steps
each_pulse_finds a s steps run before behind pairs same =
    pulse_finds a s before behind pairs (subst (IsLegalRun a s) same run)
