use Rattle.std.proofs.Common.{◌<◌, take}
use Rattle.zair_form.specs.declared.step.Beam.{Beam}
use Rattle.zair_state.specs.Least.{IsLeastOf}
use Rattle.zair_state.proofs.Minima.{KeyOf}
use Rattle.zair_machine.proofs.beams.least_off_field.Given as goal

abbrev pub invariant-loop-b : goal.invariant-loop-b
invariant-loop-b l = IsLeastOf (KeyOf (λ (b : Beam). b.id) (λ b. 1000000 < b.at) (take l.b-index l.beams)) l.least
