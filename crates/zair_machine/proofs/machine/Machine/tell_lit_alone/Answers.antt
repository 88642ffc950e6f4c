use Rattle.zair_machine.proofs.Told.{alone_told, alone_met}
use Rattle.zair_machine.proofs.machine.Machine.tell_lit_alone.Goals as goal

pub returns-in-Some : goal.returns-in-Some
returns-in-Some c = alone_told c.args.self.now.card c.args.self.now.state c.args.step.now c.lit_alone.result c.in-Some.q c.in-Some.is c.lit_alone.ensures

pub returns-in-None : goal.returns-in-None
returns-in-None c = alone_met c.args.self.now.card c.args.self.now.state c.args.step.now c.lit_alone.result c.in-None.is c.lit_alone.ensures
