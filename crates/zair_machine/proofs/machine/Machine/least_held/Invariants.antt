use Rattle.std.proofs.Common.{take}
use Rattle.zair_form.specs.declared.step.ReadOf.{ReadOf}
use Rattle.zair_state.specs.Faults.{IsHeld}
use Rattle.zair_state.specs.Least.{IsLeastOf}
use Rattle.zair_state.proofs.Minima.{KeyOf}
use Rattle.zair_machine.proofs.machine.Machine.least_held.Given as goal

abbrev pub invariant-loop-r : goal.invariant-loop-r
invariant-loop-r l = IsLeastOf (KeyOf (λ (x : ReadOf). x.q) (λ (x : ReadOf). IsHeld l.self.state x.q) (take l.r-index l.reads)) l.least
