use Rattle.zair_state.proofs.Resting.{pulse_lit}
use Rattle.zair_machine.proofs.machine.Machine.crossing_lit.Goals as goal

pub returns-in-Pulse : goal.returns-in-Pulse
returns-in-Pulse c = pulse_lit c.args.self.now.card c.args.self.now.state c.in-Pulse.pairs c.args.step.now c.lit_crossing.result c.in-Pulse.is c.lit_crossing.ensures
