use Rattle.std.proofs.Common.{arith}
use Rattle.zair_state.specs.declared.fault.Axis.TheVariants.{Row, Column}
use Rattle.zair_state.proofs.Atoms.{pick_activate, known_caught}
use Rattle.zair_machine.proofs.Catching.{placed_after, picks_wrong}
use Rattle.zair_machine.proofs.Numbering.{all_zero}
use Rattle.zair_machine.proofs.machine.Machine.wrong_pick.Goals as goal

pub count_caught-requires-clause-clean : goal.count_caught-requires-clause-clean
count_caught-requires-clause-clean c = all_zero 4096

pub least_wrong_pick-requires-clause-known : goal.least_wrong_pick-requires-clause-known
least_wrong_pick-requires-clause-known c =
    known_caught c.args.self.now.card c.args.self.now.state c.in-Activate.aod c.in-Activate.rows c.in-Activate.columns c.in-Activate.atoms c.as_slice-atoms.result.now c.args.step.now c.in-Activate.is c.as_slice-atoms.ensures (λ f lt. c.requires.met f (omega arith))

pub returns-in-Activate : goal.returns-in-Activate
returns-in-Activate c =
    let a = c.args.self.now.card in
    let s = c.args.self.now.state in
    let up = placed_after a s c.args.step.now c.in-Activate.aod c.in-Activate.rows c.in-Activate.columns c.in-Activate.atoms Row c.args.rows.now c.in-Activate.is c.requires.rows_after c.requires.met in
    let across = placed_after a s c.args.step.now c.in-Activate.aod c.in-Activate.rows c.in-Activate.columns c.in-Activate.atoms Column c.args.columns.now c.in-Activate.is c.requires.columns_after c.requires.met in
    pick_activate a s c.in-Activate.aod c.in-Activate.rows c.in-Activate.columns c.as_slice.result.now c.as_slice-in-Activate.result.now c.args.rows.now c.args.columns.now c.in-Activate.atoms c.as_slice-atoms.result.now c.args.step.now c.least_wrong_pick.result c.in-Activate.is c.as_slice.ensures c.as_slice-in-Activate.ensures c.requires.rows_after c.requires.columns_after c.as_slice-atoms.ensures
    (picks_wrong a s c.gap-least.ensures.least c.in-Activate.aod c.as_slice.result.now c.as_slice-in-Activate.result.now c.args.rows.now c.args.columns.now up across c.as_slice-atoms.result.now c.count_caught.new.counts c.count_caught.ensures.counts c.least_wrong_pick.result c.least_wrong_pick.ensures)
