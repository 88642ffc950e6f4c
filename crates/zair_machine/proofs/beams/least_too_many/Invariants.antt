use Rattle.std.proofs.Common.{◌<◌, ◌+◌, take, leb, count_by}
use Rattle.zair_form.specs.declared.step.Beam.{Beam}
use Rattle.zair_state.specs.Least.{IsLeastOf}
use Rattle.zair_state.proofs.Minima.{KeyOf}
use Rattle.zair_machine.proofs.beams.least_too_many.Given as goal

abbrev pub invariant-loop-b : goal.invariant-loop-b
invariant-loop-b l = IsLeastOf (KeyOf (λ (b : Beam). b.id) (λ (b : Beam). l.most < count_by (λ (x : Beam). leb x.id b.id) l.beams + count_by (λ (x : Beam). leb x.id b.id) l.others) (take l.b-index l.beams)) l.least
