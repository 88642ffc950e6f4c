use Rattle.std.proofs.Common.{◌≡◌}
use Rattle.zair_state.specs.Faults.{along}
use Rattle.zair_machine.proofs.BeamFaults.{inactive_activate, inactive_move, inactive_deactivate}
use Rattle.zair_machine.proofs.machine.Machine.not_active_along.Goals as goal

pub returns-in-Activate : goal.returns-in-Activate
returns-in-Activate c =
    let listed : c.along-listed.result.now ≡ along c.args.axis c.in-Activate.rows c.in-Activate.columns = cc in
    let named : c.as_slice-in-Activate-2.result.now ≡ c.in-Activate.atoms = cc in
    inactive_activate c.args.self.now.state c.args.axis c.in-Activate.aod c.in-Activate.rows c.in-Activate.columns c.in-Activate.atoms c.args.step.now c.along-listed.result.now c.active.result.now c.as_slice-in-Activate-2.result.now c.least_named_in_neither.result c.in-Activate.is listed c.active.ensures named c.least_named_in_neither.ensures

pub returns-in-Move : goal.returns-in-Move
returns-in-Move c =
    let listed : c.along-listed-in-Move.result.now ≡ along c.args.axis c.in-Move.rows c.in-Move.columns = cc in
    inactive_move c.args.self.now.state c.args.axis c.in-Move.aod c.in-Move.rows c.in-Move.columns c.args.step.now c.along-listed-in-Move.result.now c.active-active.result.now c.least_not_in.result c.least_not_in-in-Move.result c.lesser_id.result c.in-Move.is listed c.active-active.ensures c.lesser_id.ensures c.least_not_in.ensures c.least_not_in-in-Move.ensures

pub returns-in-Deactivate : goal.returns-in-Deactivate
returns-in-Deactivate c =
    let listed : c.along.result.now ≡ along c.args.axis c.in-Deactivate.rows c.in-Deactivate.columns = cc in
    inactive_deactivate c.args.self.now.state c.args.axis c.in-Deactivate.aod c.in-Deactivate.rows c.in-Deactivate.columns c.in-Deactivate.atoms c.args.step.now c.along.result.now c.active-in-Deactivate.result.now c.least_id_not_in.result c.in-Deactivate.is listed c.active-in-Deactivate.ensures c.least_id_not_in.ensures
