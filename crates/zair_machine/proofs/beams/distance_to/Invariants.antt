use Rattle.std.proofs.Common.{take}
use Rattle.zac_arch.specs.Distances.{difference}
use Rattle.zair_form.specs.declared.step.Beam.{Beam}
use Rattle.zair_state.specs.Least.{IsLeastOf}
use Rattle.zair_state.proofs.Minima.{KeyOf}
use Rattle.zair_machine.proofs.beams.distance_to.Given as goal

abbrev pub invariant-loop-b : goal.invariant-loop-b
invariant-loop-b l = IsLeastOf (KeyOf (λ (b : Beam). difference l.n b.at) (λ b. Unit {0}) (take l.b-index l.beams)) l.least
