use Rattle.std.proofs.Common.{take}
use Rattle.zair_form.specs.declared.step.Beam.{Beam}
use Rattle.zair_state.specs.Least.{IsLeastOf}
use Rattle.zair_state.specs.State.{HasId}
use Rattle.zair_state.proofs.Minima.{KeyOf}
use Rattle.zair_machine.proofs.beams.least_in_both.Given as goal

abbrev pub invariant-loop-b : goal.invariant-loop-b
invariant-loop-b l = IsLeastOf (KeyOf (λ (b : Beam). b.id) (λ b. HasId l.others b.id) (take l.b-index l.beams)) l.least
