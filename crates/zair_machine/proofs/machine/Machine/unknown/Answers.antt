use Rattle.std.proofs.Common.{◌≡◌, ap, ◌∙◌}
use Rattle.zac_arch.specs.Architecture.{trap_count}
use Rattle.zair_machine.proofs.BeamFaults.{unknown_activate, unknown_move, unknown_deactivate, unknown_pulse, unknown_readout}
use Rattle.zair_machine.proofs.machine.Machine.unknown.Goals as goal

pub returns-in-Activate : goal.returns-in-Activate
returns-in-Activate c =
    unknown_activate c.args.self.now.card c.args.self.now.state c.in-Activate.aod c.in-Activate.rows c.in-Activate.columns c.in-Activate.atoms c.as_slice.result.now c.args.step.now c.qubits-qubits.result c.unknown_aod.result c.least_caught.result c.lesser.result c.in-Activate.is c.as_slice.ensures c.qubits-qubits.ensures c.lesser.ensures c.unknown_aod.ensures c.least_caught.ensures

pub returns-in-Move : goal.returns-in-Move
returns-in-Move c =
    unknown_move c.args.self.now.card c.args.self.now.state c.in-Move.aod c.in-Move.rows c.in-Move.columns c.args.step.now c.unknown_aod-in-Move.result c.in-Move.is c.unknown_aod-in-Move.ensures

pub returns-in-Deactivate : goal.returns-in-Deactivate
returns-in-Deactivate c =
    let traps : c.traps.result ≡ trap_count c.args.self.now.card = c.traps.ensures ∙ ap trap_count c.card.ensures in
    unknown_deactivate c.args.self.now.card c.args.self.now.state c.in-Deactivate.aod c.in-Deactivate.rows c.in-Deactivate.columns c.in-Deactivate.atoms c.as_slice-dropped.result.now c.args.step.now c.qubits-qubits.result c.traps.result c.unknown_aod-in-Deactivate.result c.least_dropped.result c.least_trap.result c.lesser-named.result c.lesser-in-Deactivate.result c.in-Deactivate.is c.as_slice-dropped.ensures c.qubits-qubits.ensures traps c.lesser-in-Deactivate.ensures c.lesser-named.ensures c.unknown_aod-in-Deactivate.ensures c.least_dropped.ensures c.least_trap.ensures

pub returns-in-Pulse : goal.returns-in-Pulse
returns-in-Pulse c =
    unknown_pulse c.args.self.now.card c.args.self.now.state c.in-Pulse.pairs c.as_slice-in-Pulse.result.now c.args.step.now c.qubits-qubits.result c.least_paired.result c.in-Pulse.is c.as_slice-in-Pulse.ensures c.qubits-qubits.ensures c.least_paired.ensures

pub returns-in-Readout : goal.returns-in-Readout
returns-in-Readout c =
    unknown_readout c.args.self.now.card c.args.self.now.state c.in-Readout.reads c.as_slice-in-Readout.result.now c.args.step.now c.qubits-qubits.result c.least_read.result c.in-Readout.is c.as_slice-in-Readout.ensures c.qubits-qubits.ensures c.least_read.ensures
