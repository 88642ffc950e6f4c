use Rattle.zair_state.proofs.Resting.{rest_told}
use Rattle.zair_machine.proofs.machine.Machine.tell_rest.Goals as goal

pub returns-in-Some : goal.returns-in-Some
returns-in-Some c = rest_told c.args.self.now.card c.args.self.now.state c.args.step.now c.not_at_rest.result c.in-Some.q c.in-Some.is c.not_at_rest.ensures
