use Rattle.zair_machine.proofs.Told.{drop_told, drop_met}
use Rattle.zair_machine.proofs.machine.Machine.tell_drop.Goals as goal

pub returns-in-Some : goal.returns-in-Some
returns-in-Some c = drop_told c.args.self.now.card c.args.self.now.state c.args.step.now c.wrong_drop.result c.in-Some.q c.in-Some.is c.wrong_drop.ensures

pub returns-in-None : goal.returns-in-None
returns-in-None c = drop_met c.args.self.now.card c.args.self.now.state c.args.step.now c.wrong_drop.result c.in-None.is c.wrong_drop.ensures
