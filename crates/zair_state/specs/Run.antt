-- Legal runs, and the log of a run.
use Rattle.std.specs.Prelude.{List, [], ◌∷◌, map}
use Rattle.std.specs.List.{flat_map}
use Rattle.zac_arch.specs.Architecture.{Architecture}
use Rattle.zac_gates.specs.Log.{Entry}
use Rattle.zac_gates.specs.declared.circuit.Op.TheVariants as op
use Rattle.zair_form.specs.declared.step.Step.{Step}
use Rattle.zair_form.specs.declared.step.Step.TheVariants.{Activate, Move, Deactivate, One, Pulse, Readout}
use Rattle.zair_state.specs.State.{State}
use Rattle.zair_state.specs.Legal.{IsLegal}
use Rattle.zair_state.specs.Result.{after}

-- Each step is legal in the state that the steps before it leave.
abbrev pub IsLegalRun : Architecture → State → List Step → Type 0
IsLegalRun a s [] = Unit {0}
IsLegalRun a s (step ∷ steps) = IsLegal a s step × IsLegalRun a (after s step) steps

-- The state after all the steps.
abbrev pub after_all : State → List Step → State
after_all s [] = s
after_all s (step ∷ steps) = after_all (after s step) steps

-- The ops that a step performs, in its order, each with its number: those of a gate, a pulse or a readout; the other
-- steps perform none.
abbrev pub entries : Step → List Entry
entries (Activate aod rows columns atoms) = []
entries (Move aod rows columns) = []
entries (Deactivate aod rows columns atoms) = []
entries (One gate) = record { op = gate.op; what = op.One gate.q gate.angles } ∷ []
entries (Pulse pairs) = map (λ p. record { op = p.op; what = op.Two p.a p.b }) pairs
entries (Readout reads) = map (λ r. record { op = r.op; what = op.Read r.q r.bit }) reads

-- The entries of all steps, in order.
abbrev pub log_of : List Step → List Entry
log_of steps = flat_map entries steps
