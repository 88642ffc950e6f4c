use Rattle.std.proofs.Common.{◌≤◌}
use Rattle.zair_form.specs.declared.step.Beam.{Beam}
use Rattle.zair_state.specs.Least.{IsLeastOf}
use Rattle.zair_state.proofs.Minima.{Behind}
use Rattle.zair_machine.proofs.beams.least_out_of_order.Given as goal

abbrev pub invariant-loop-k : goal.invariant-loop-k
invariant-loop-k l = IsLeastOf (Behind (λ (x y : Beam). y.at ≤ x.at) l.beams l.k) l.least
