use Rattle.zair_machine.proofs.Told.{inactive_told, inactive_met}
use Rattle.zair_machine.proofs.machine.Machine.tell_not_active.Goals as goal

pub returns-in-Some : goal.returns-in-Some
returns-in-Some c = inactive_told c.args.self.now.card c.args.self.now.state c.args.step.now c.not_active.result c.in-Some.beam c.in-Some.is c.not_active.ensures

pub returns-in-None : goal.returns-in-None
returns-in-None c = inactive_met c.args.self.now.card c.args.self.now.state c.args.step.now c.not_active.result c.in-None.is c.not_active.ensures
