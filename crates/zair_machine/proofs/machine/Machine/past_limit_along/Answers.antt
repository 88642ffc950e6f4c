use Rattle.std.proofs.Common.{◌≡◌}
use Rattle.zair_state.specs.Faults.{along}
use Rattle.zair_machine.proofs.BeamFaults.{limit_activate, limit_move}
use Rattle.zair_machine.proofs.machine.Machine.past_limit_along.Goals as goal

pub returns-in-Activate : goal.returns-in-Activate
returns-in-Activate c =
    let listed : c.along-listed.result.now ≡ along c.args.axis c.in-Activate.rows c.in-Activate.columns = cc in
    limit_activate c.args.self.now.state c.args.axis c.in-Activate.aod c.args.self.now.card c.most_along-most.result c.in-Activate.rows c.in-Activate.columns c.in-Activate.atoms c.args.step.now c.along-listed.result.now c.active-active.result.now c.least_too_many.result c.least_too_many-in-Activate.result c.lesser_id-many.result c.least_off_field.result c.least_off_field-in-Activate.result c.lesser_id-off.result c.lesser_id.result c.in-Activate.is listed c.active-active.ensures c.most_along-most.ensures c.lesser_id-many.ensures c.lesser_id-off.ensures c.lesser_id.ensures c.least_too_many.ensures c.least_too_many-in-Activate.ensures c.least_off_field.ensures c.least_off_field-in-Activate.ensures

pub returns-in-Move : goal.returns-in-Move
returns-in-Move c =
    let listed : c.along.result.now ≡ along c.args.axis c.in-Move.rows c.in-Move.columns = cc in
    limit_move c.args.self.now.state c.args.axis c.in-Move.aod c.args.self.now.card c.in-Move.rows c.in-Move.columns c.args.step.now c.along.result.now c.least_off_field-in-Move.result c.in-Move.is listed c.least_off_field-in-Move.ensures
