use Rattle.zair_machine.proofs.Told.{gap_told, gap_met}
use Rattle.zair_machine.proofs.machine.Machine.tell_gap.Goals as goal

pub returns-in-Some : goal.returns-in-Some
returns-in-Some c = gap_told c.args.self.now.card c.args.self.now.state c.args.step.now c.too_near.result c.in-Some.beam c.in-Some.is c.too_near.ensures

pub returns-in-None : goal.returns-in-None
returns-in-None c = gap_met c.args.self.now.card c.args.self.now.state c.args.step.now c.too_near.result c.in-None.is c.too_near.ensures
