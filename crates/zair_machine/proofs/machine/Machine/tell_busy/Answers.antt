use Rattle.zair_machine.proofs.Told.{busy_told, busy_met}
use Rattle.zair_machine.proofs.machine.Machine.tell_busy.Goals as goal

pub returns-in-Some : goal.returns-in-Some
returns-in-Some c = busy_told c.args.self.now.card c.args.self.now.state c.args.step.now c.busy.result c.in-Some.beam c.in-Some.is c.busy.ensures

pub returns-in-None : goal.returns-in-None
returns-in-None c = busy_met c.args.self.now.card c.args.self.now.state c.args.step.now c.busy.result c.in-None.is c.busy.ensures
