use Rattle.zair_state.specs.Faults.{IsNotActive}
use Rattle.zair_machine.proofs.BeamFaults.{first_beam_told}
use Rattle.zair_machine.proofs.machine.Machine.not_active.Goals as goal

pub returns : goal.returns
returns c =
    rw c.first_beam.ensures (first_beam_told (IsNotActive c.args.self.now.state c.args.step.now) _ _ c.not_active_along.ensures c.not_active_along-2.ensures)
