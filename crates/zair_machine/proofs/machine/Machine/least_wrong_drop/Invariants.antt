use Rattle.std.proofs.Common.{take}
use Rattle.zair_form.specs.declared.step.Dropped.{Dropped}
use Rattle.zair_machine.specs.Crossings.{IsWrongDrop}
use Rattle.zair_state.specs.Least.{IsLeastOf}
use Rattle.zair_state.proofs.Minima.{KeyOf}
use Rattle.zair_machine.proofs.machine.Machine.least_wrong_drop.Given as goal

abbrev pub invariant-loop-d : goal.invariant-loop-d
invariant-loop-d l = IsLeastOf (KeyOf (λ (x : Dropped). x.q) (λ (x : Dropped). IsWrongDrop l.self.card l.self.state l.aod l.rows l.columns l.counts x) (take l.d-index l.atoms)) l.least
