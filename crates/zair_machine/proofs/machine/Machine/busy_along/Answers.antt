use Rattle.std.proofs.Common.{◌≡◌}
use Rattle.zair_state.specs.Faults.{along}
use Rattle.zair_machine.proofs.BeamFaults.{busy_activate, busy_move, busy_deactivate}
use Rattle.zair_machine.proofs.machine.Machine.busy_along.Goals as goal

pub returns-in-Activate : goal.returns-in-Activate
returns-in-Activate c =
    let listed : c.along-listed.result.now ≡ along c.args.axis c.in-Activate.rows c.in-Activate.columns = cc in
    busy_activate c.args.self.now.state c.args.axis c.in-Activate.aod c.in-Activate.rows c.in-Activate.columns c.in-Activate.atoms c.args.step.now c.along-listed.result.now c.active.result.now c.least_twice.result c.least_in_both.result c.lesser_id.result c.in-Activate.is listed c.active.ensures c.lesser_id.ensures c.least_twice.ensures c.least_in_both.ensures

pub returns-in-Move : goal.returns-in-Move
returns-in-Move c =
    let listed : c.along.result.now ≡ along c.args.axis c.in-Move.rows c.in-Move.columns = cc in
    busy_move c.args.self.now.state c.args.axis c.in-Move.aod c.in-Move.rows c.in-Move.columns c.args.step.now c.along.result.now c.least_twice-in-Move.result c.in-Move.is listed c.least_twice-in-Move.ensures

pub returns-in-Deactivate : goal.returns-in-Deactivate
returns-in-Deactivate c =
    let listed : c.along-in-Deactivate.result.now ≡ along c.args.axis c.in-Deactivate.rows c.in-Deactivate.columns = cc in
    busy_deactivate c.args.self.now.state c.args.axis c.in-Deactivate.aod c.in-Deactivate.rows c.in-Deactivate.columns c.in-Deactivate.atoms c.args.step.now c.along-in-Deactivate.result.now c.least_id_twice.result c.in-Deactivate.is listed c.least_id_twice.ensures
