use Rattle.zair_machine.proofs.FullStep.{full_told, full_met}
use Rattle.zair_machine.proofs.machine.Machine.tell_full.Goals as goal

pub returns-in-Some : goal.returns-in-Some
returns-in-Some c = full_told c.args.self.now.card c.args.self.now.state c.args.step.now c.trap_full.result c.in-Some.q c.in-Some.trap c.in-Some.is c.trap_full.ensures

pub returns-in-None : goal.returns-in-None
returns-in-None c = full_met c.args.self.now.card c.args.self.now.state c.args.step.now c.trap_full.result c.in-None.is c.trap_full.ensures
