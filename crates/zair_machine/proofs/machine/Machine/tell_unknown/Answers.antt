use Rattle.zair_machine.proofs.Told.{unknown_told, unknown_met}
use Rattle.zair_machine.proofs.machine.Machine.tell_unknown.Goals as goal

pub returns-in-Some : goal.returns-in-Some
returns-in-Some c = unknown_told c.args.self.now.card c.args.self.now.state c.args.step.now c.unknown.result c.in-Some.number c.in-Some.is c.unknown.ensures

pub returns-in-None : goal.returns-in-None
returns-in-None c = unknown_met c.args.self.now.card c.args.self.now.state c.args.step.now c.unknown.result c.in-None.is c.unknown.ensures
