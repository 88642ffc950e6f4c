use Rattle.std.proofs.Common.{take}
use Rattle.zair_form.specs.declared.step.Beam.{Beam}
use Rattle.zair_state.specs.State.{crossing}
use Rattle.zac_arch.specs.Architecture.{IsLit}
use Rattle.zair_machine.proofs.Touching.{NoTouch}
use Rattle.zair_machine.proofs.machine.Machine.lit_pair.Given as goal

abbrev pub invariant-loop-row : goal.invariant-loop-row
invariant-loop-row l = NoTouch (λ (row column : Beam). IsLit l.self.card (crossing row column)) (take l.row-index l.rows) l.columns
