use Rattle.zair_state.specs.Faults.{IsPastLimit}
use Rattle.zair_machine.proofs.BeamFaults.{first_beam_told}
use Rattle.zair_machine.proofs.machine.Machine.past_limit.Goals as goal

pub returns : goal.returns
returns c =
    rw c.first_beam.ensures (first_beam_told (IsPastLimit c.args.self.now.card c.args.self.now.state c.args.step.now) _ _ c.past_limit_along.ensures c.past_limit_along-2.ensures)
