use Rattle.zair_state.proofs.Atoms.{known_read, known_gate, rest_gate, rest_reads}
use Rattle.zair_machine.proofs.machine.Machine.not_at_rest.Goals as goal

pub is_held-requires : goal.is_held-requires
is_held-requires c = known_gate c.args.self.now.card c.args.self.now.state c.in-One.gate c.args.step.now c.in-One.is c.requires.met

pub returns-in-One : goal.returns-in-One
returns-in-One c = rest_gate c.args.self.now.card c.args.self.now.state c.in-One.gate c.args.step.now c.is_held.result c.lesser_if.result c.in-One.is c.lesser_if.ensures c.is_held.ensures

pub least_held-requires : goal.least_held-requires
least_held-requires c = known_read c.args.self.now.card c.args.self.now.state c.in-Readout.reads c.as_slice.result.now c.args.step.now c.in-Readout.is c.as_slice.ensures c.requires.met

pub returns-in-Readout : goal.returns-in-Readout
returns-in-Readout c = rest_reads c.args.self.now.card c.args.self.now.state c.in-Readout.reads c.as_slice.result.now c.args.step.now c.least_held.result c.in-Readout.is c.as_slice.ensures c.least_held.ensures
