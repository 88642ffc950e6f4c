use Rattle.std.proofs.Common.{◌≤◌, take}
use Rattle.zair_form.specs.declared.step.Caught.{Caught}
use Rattle.zair_state.specs.Least.{IsLeastOf}
use Rattle.zair_state.proofs.Minima.{KeyOf}
use Rattle.zair_machine.proofs.unknown.least_caught.Given as goal

abbrev pub invariant-loop-c : goal.invariant-loop-c
invariant-loop-c l = IsLeastOf (KeyOf (λ (x : Caught). x.q) (λ (x : Caught). l.qubits ≤ (λ (x : Caught). x.q) x) (take l.c-index l.atoms)) l.least
