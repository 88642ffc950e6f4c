use Rattle.std.proofs.Common.{take}
use Rattle.zair_state.specs.Faults.{TouchesAt}
use Rattle.zair_machine.proofs.Touching.{NoTouch}
use Rattle.zair_machine.proofs.machine.Machine.touch.Given as goal

abbrev pub invariant-loop-i : goal.invariant-loop-i
invariant-loop-i l = NoTouch (TouchesAt l.self.card l.self.state l.step) (take l.i l.rows) l.columns
