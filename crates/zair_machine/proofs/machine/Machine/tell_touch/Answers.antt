use Rattle.zair_machine.proofs.Told.{touch_told, touch_met}
use Rattle.zair_machine.proofs.machine.Machine.tell_touch.Goals as goal

pub returns-in-Some : goal.returns-in-Some
returns-in-Some c = touch_told c.args.self.now.card c.args.self.now.state c.args.step.now c.touch.result c.in-Some.row c.in-Some.column c.in-Some.is c.touch.ensures

pub returns-in-None : goal.returns-in-None
returns-in-None c = touch_met c.args.self.now.card c.args.self.now.state c.args.step.now c.touch.result c.in-None.is c.touch.ensures
