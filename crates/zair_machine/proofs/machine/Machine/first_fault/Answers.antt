use Rattle.zair_machine.proofs.Told.{legal_told}
use Rattle.zair_machine.proofs.machine.Machine.first_fault.Goals as goal

pub returns : goal.returns
returns c =
    legal_told c.args.self.now.card c.args.self.now.state c.args.step.now c.card.result.now c.tell_atoms.result c.card.ensures (c.faults_tell_legal_steps.ensures.unbroken c.args.self.now.state c.args.step.now) c.tell_atoms.ensures
