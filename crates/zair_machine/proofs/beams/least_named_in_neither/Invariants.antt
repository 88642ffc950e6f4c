use Rattle.std.proofs.Common.{◌⊎◌, take}
use Rattle.zair_form.specs.declared.step.Caught.{Caught}
use Rattle.zair_state.specs.Least.{IsLeastOf}
use Rattle.zair_state.specs.Faults.{named_beam}
use Rattle.zair_state.specs.State.{HasId}
use Rattle.zair_state.proofs.Minima.{KeyOf}
use Rattle.zair_machine.proofs.beams.least_named_in_neither.Given as goal

abbrev pub invariant-loop-c : goal.invariant-loop-c
invariant-loop-c l = IsLeastOf (KeyOf (named_beam l.axis) (λ (x : Caught). ¬ (HasId l.beams (named_beam l.axis x) ⊎ HasId l.others (named_beam l.axis x))) (take l.c-index l.atoms)) l.least
