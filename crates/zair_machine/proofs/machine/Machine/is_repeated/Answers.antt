use Rattle.std.proofs.Common.{get_or}
use Rattle.zair_state.proofs.Minima.{told_most}
use Rattle.zair_machine.proofs.Numbering.{repeated_told}
use Rattle.zair_machine.proofs.machine.Machine.is_repeated.Goals as goal

pub returns-in-Some : goal.returns-in-Some
returns-in-Some c =
    repeated_told c.args.self.now.card c.args.self.now.state c.most_beams-sound.ensures.sound c.most_beams-sound.ensures.columns c.args.aod c.args.q c.in-Some.n c.args.counts.now _ c.in-Some.ensures.1 (told_most 2 (get_or c.args.counts.now c.in-Some.n 0))
