use Rattle.zair_machine.proofs.Told.{pick_told, pick_met}
use Rattle.zair_machine.proofs.machine.Machine.tell_pick.Goals as goal

pub returns-in-Some : goal.returns-in-Some
returns-in-Some c = pick_told c.args.self.now.card c.args.self.now.state c.args.step.now c.wrong_pick.result c.in-Some.q c.in-Some.is c.wrong_pick.ensures

pub returns-in-None : goal.returns-in-None
returns-in-None c = pick_met c.args.self.now.card c.args.self.now.state c.args.step.now c.wrong_pick.result c.in-None.is c.wrong_pick.ensures
