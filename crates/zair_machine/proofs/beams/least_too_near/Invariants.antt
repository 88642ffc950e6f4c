use Rattle.std.proofs.Common.{◌<◌, ◌+◌}
use Rattle.zair_form.specs.declared.step.Beam.{Beam}
use Rattle.zair_state.specs.Least.{IsLeastOf}
use Rattle.zair_state.proofs.Minima.{Behind}
use Rattle.zair_machine.proofs.beams.least_too_near.Given as goal

abbrev pub invariant-loop-k : goal.invariant-loop-k
invariant-loop-k l = IsLeastOf (Behind (λ (x y : Beam). (x.at < y.at) × (y.at < x.at + l.gap)) l.beams l.k) l.least
