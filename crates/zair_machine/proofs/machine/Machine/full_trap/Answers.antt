use Rattle.zair_state.proofs.Minima.{at_some, at_none}
use Rattle.zair_machine.proofs.Full.{NoMove, Moved, full_told, unmoved_full}
use Rattle.zair_machine.proofs.machine.Machine.full_trap.Goals as goal

pub returns-in-Some : goal.returns-in-Some
returns-in-Some c =
    full_told c.args.self.now.card c.args.self.now.state c.args.aod c.args.rows.now c.args.columns.now c.args.place c.in-Some.p c.full_trap_at.result c.requires.rows_rising c.requires.columns_rising (at_some (NoMove c.args.aod c.args.rows.now c.args.columns.now c.args.place) (Moved c.args.aod c.args.rows.now c.args.columns.now c.args.place) c.moved_to.result c.in-Some.p c.in-Some.is c.moved_to.ensures) c.full_trap_at.ensures

pub returns-in-None : goal.returns-in-None
returns-in-None c =
    unmoved_full c.args.self.now.card c.args.self.now.state c.args.aod c.args.rows.now c.args.columns.now c.args.place (at_none (NoMove c.args.aod c.args.rows.now c.args.columns.now c.args.place) (Moved c.args.aod c.args.rows.now c.args.columns.now c.args.place) c.moved_to.result c.in-None.is c.moved_to.ensures)
