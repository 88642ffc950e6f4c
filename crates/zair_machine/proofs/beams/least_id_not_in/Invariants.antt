use Rattle.std.proofs.Common.{ℕ, take}
use Rattle.zair_state.specs.Least.{IsLeastOf}
use Rattle.zair_state.specs.State.{HasId}
use Rattle.zair_state.proofs.Minima.{KeyOf}
use Rattle.zair_machine.proofs.beams.least_id_not_in.Given as goal

abbrev pub invariant-loop-id : goal.invariant-loop-id
invariant-loop-id l = IsLeastOf (KeyOf (λ (i : ℕ). i) (λ i. ¬ HasId l.beams i) (take l.id-index l.ids)) l.least
