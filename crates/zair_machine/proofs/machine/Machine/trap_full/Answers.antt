use Rattle.zair_machine.proofs.FullStep.{full_move}
use Rattle.zair_machine.proofs.machine.Machine.trap_full.Goals as goal

pub returns-in-Move : goal.returns-in-Move
returns-in-Move c =
    full_move c.args.self.now.card c.args.self.now.state c.in-Move.aod c.in-Move.rows c.in-Move.columns c.args.rows.now c.args.columns.now c.args.step.now c.least_full.result c.in-Move.is c.requires.rows_after c.requires.columns_after c.least_full.ensures
