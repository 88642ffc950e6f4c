use Rattle.zair_state.proofs.Atoms.{known_dropped}
use Rattle.zair_machine.proofs.Dropping.{drop_counted}
use Rattle.zair_machine.proofs.Numbering.{all_zero}
use Rattle.zair_machine.proofs.machine.Machine.wrong_drop.Goals as goal

pub count_dropped-requires-clause-clean : goal.count_dropped-requires-clause-clean
count_dropped-requires-clause-clean c = all_zero 4096

pub count_dropped-requires-clause-known : goal.count_dropped-requires-clause-known
count_dropped-requires-clause-known c =
    known_dropped c.args.self.now.card c.args.self.now.state c.in-Deactivate.aod c.in-Deactivate.rows c.in-Deactivate.columns c.in-Deactivate.atoms c.as_slice-atoms.result.now c.args.step.now c.in-Deactivate.is c.as_slice-atoms.ensures c.requires.met

pub least_wrong_drop-requires-clause-known : goal.least_wrong_drop-requires-clause-known
least_wrong_drop-requires-clause-known c =
    known_dropped c.args.self.now.card c.args.self.now.state c.in-Deactivate.aod c.in-Deactivate.rows c.in-Deactivate.columns c.in-Deactivate.atoms c.as_slice-atoms.result.now c.args.step.now c.in-Deactivate.is c.as_slice-atoms.ensures c.requires.met

pub returns-in-Deactivate : goal.returns-in-Deactivate
returns-in-Deactivate c =
    drop_counted c.args.self.now.card c.args.self.now.state c.most_beams-sound.ensures.sound c.in-Deactivate.aod c.in-Deactivate.rows c.in-Deactivate.columns c.as_slice-rows.result.now c.as_slice-columns.result.now c.in-Deactivate.atoms c.as_slice-atoms.result.now c.args.step.now c.count_dropped.new.counts c.least_left_behind.result c.least_wrong_drop.result c.lesser.result c.in-Deactivate.is c.as_slice-rows.ensures c.as_slice-columns.ensures c.as_slice-atoms.ensures c.lesser.ensures c.count_dropped.ensures.counts c.least_left_behind.ensures c.least_wrong_drop.ensures
