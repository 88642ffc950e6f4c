use Rattle.std.proofs.Common.{◌≤◌, take}
use Rattle.zair_form.specs.declared.step.Dropped.{Dropped}
use Rattle.zair_state.specs.Least.{IsLeastOf}
use Rattle.zair_state.proofs.Minima.{KeyOf}
use Rattle.zair_machine.proofs.unknown.least_dropped.Given as goal

abbrev pub invariant-loop-d : goal.invariant-loop-d
invariant-loop-d l = IsLeastOf (KeyOf (λ (x : Dropped). x.q) (λ (x : Dropped). l.qubits ≤ (λ (x : Dropped). x.q) x) (take l.d-index l.atoms)) l.least
