use Rattle.std.proofs.Common.{take}
use Rattle.zair_form.specs.declared.step.Caught.{Caught}
use Rattle.zair_machine.specs.Crossings.{IsWrongPick}
use Rattle.zair_state.specs.Least.{IsLeastOf}
use Rattle.zair_state.proofs.Minima.{KeyOf}
use Rattle.zair_machine.proofs.machine.Machine.least_wrong_pick.Given as goal

abbrev pub invariant-loop-c : goal.invariant-loop-c
invariant-loop-c l = IsLeastOf (KeyOf (λ (x : Caught). x.q) (λ (x : Caught). IsWrongPick l.self.card l.self.state l.aod l.new.rows.now l.new.columns.now l.after.rows.now l.after.columns.now l.counts x) (take l.c-index l.atoms)) l.least
