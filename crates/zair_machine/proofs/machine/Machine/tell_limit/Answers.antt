use Rattle.zair_machine.proofs.Told.{limit_told, limit_met}
use Rattle.zair_machine.proofs.machine.Machine.tell_limit.Goals as goal

pub returns-in-Some : goal.returns-in-Some
returns-in-Some c = limit_told c.args.self.now.card c.args.self.now.state c.args.step.now c.past_limit.result c.in-Some.beam c.in-Some.is c.past_limit.ensures

pub returns-in-None : goal.returns-in-None
returns-in-None c = limit_met c.args.self.now.card c.args.self.now.state c.args.step.now c.past_limit.result c.in-None.is c.past_limit.ensures
