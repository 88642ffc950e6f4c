use Rattle.std.proofs.Common.{ap, ◌∙◌, arith, length}
use Rattle.zair_machine.proofs.Counting.{length_counted}
use Rattle.zair_machine.proofs.Numbering.{dropped_start, dropped_more, dropped_whole, held_within}
use Rattle.zair_machine.proofs.machine.Machine.count_dropped.Goals as goal

pub loop-d-init : goal.loop-d-init
loop-d-init c = (c.requires.room, dropped_start c.args.self.now.card c.args.self.now.state c.most_beams-sound.ensures.sound c.most_beams-sound.ensures.columns c.args.aod c.args.atoms.now _ c.requires.clean)

pub count-requires : goal.count-requires
count-requires c = held_within c.args.self.now.state c.args.aod c.loop-d.counts _ c.held_crossing.result (omega (arith, c.loop-d.invariant.0)) c.held_crossing.ensures

pub loop-d-preserved : goal.loop-d-preserved
loop-d-preserved c = (
  ap length c.count.ensures ∙ length_counted c.held_crossing.result c.loop-d.counts ∙ c.loop-d.invariant.0,
  rw c.count.ensures (dropped_more c.args.self.now.card c.args.self.now.state c.most_beams-sound.ensures.sound c.most_beams-sound.ensures.columns c.args.aod c.args.atoms.now c.loop-d.counts c.loop-d.d-index (record { q = 0; trap = record { 0 = 0 } }) c.held_crossing.result c.loop-d-test.true (omega (arith, c.loop-d.invariant.0)) c.held_crossing.ensures c.loop-d.invariant.1),
)

pub returns-clause-counts : goal.returns-clause-counts
returns-clause-counts c = dropped_whole c.args.self.now.card c.args.self.now.state c.most_beams-sound.ensures.sound c.most_beams-sound.ensures.columns c.args.aod c.args.atoms.now c.loop-d.counts c.loop-d.d-index c.loop-d-test.false c.loop-d.invariant.1
