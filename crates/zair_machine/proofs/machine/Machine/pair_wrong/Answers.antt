use Rattle.zair_state.proofs.Atoms.{known_paired, pairs_pulse}
use Rattle.zair_machine.proofs.machine.Machine.pair_wrong.Goals as goal

pub wrong_pair-requires : goal.wrong_pair-requires
wrong_pair-requires c =
    known_paired c.args.self.now.card c.args.self.now.state c.in-Pulse.pairs c.as_slice.result.now c.args.step.now c.in-Pulse.is c.as_slice.ensures c.requires.met

pub returns-in-Pulse : goal.returns-in-Pulse
returns-in-Pulse c = pairs_pulse c.args.self.now.card c.args.self.now.state c.in-Pulse.pairs c.as_slice.result.now c.args.step.now c.wrong_pair.result c.in-Pulse.is c.as_slice.ensures c.wrong_pair.ensures
