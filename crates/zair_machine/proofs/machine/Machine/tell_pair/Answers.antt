use Rattle.zair_machine.proofs.Told.{pair_told, pair_met}
use Rattle.zair_machine.proofs.machine.Machine.tell_pair.Goals as goal

pub returns-in-Some : goal.returns-in-Some
returns-in-Some c = pair_told c.args.self.now.card c.args.self.now.state c.args.step.now c.pair_wrong.result c.in-Some.a c.in-Some.b c.in-Some.is c.pair_wrong.ensures

pub returns-in-None : goal.returns-in-None
returns-in-None c = pair_met c.args.self.now.card c.args.self.now.state c.args.step.now c.pair_wrong.result c.in-None.is c.pair_wrong.ensures
