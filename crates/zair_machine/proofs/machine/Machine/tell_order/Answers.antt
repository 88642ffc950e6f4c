use Rattle.zair_machine.proofs.Told.{order_told, order_met}
use Rattle.zair_machine.proofs.machine.Machine.tell_order.Goals as goal

pub returns-in-Some : goal.returns-in-Some
returns-in-Some c = order_told c.args.self.now.card c.args.self.now.state c.args.step.now c.out_of_order.result c.in-Some.beam c.in-Some.is c.out_of_order.ensures

pub returns-in-None : goal.returns-in-None
returns-in-None c = order_met c.args.self.now.card c.args.self.now.state c.args.step.now c.out_of_order.result c.in-None.is c.out_of_order.ensures
