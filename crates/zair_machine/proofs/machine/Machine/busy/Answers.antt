use Rattle.zair_state.specs.Faults.{IsBusy}
use Rattle.zair_machine.proofs.BeamFaults.{first_beam_told}
use Rattle.zair_machine.proofs.machine.Machine.busy.Goals as goal

pub returns : goal.returns
returns c =
    rw c.first_beam.ensures (first_beam_told (IsBusy c.args.self.now.state c.args.step.now) _ _ c.busy_along.ensures c.busy_along-2.ensures)
