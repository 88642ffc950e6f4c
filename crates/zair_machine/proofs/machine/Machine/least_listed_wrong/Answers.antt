use Rattle.zair_machine.proofs.PairWrongs.{wrong_start, marked_start, wrong_more, marked_more, wrong_whole, marked_whole}
use Rattle.zair_machine.proofs.machine.Machine.least_listed_wrong.Goals as goal

pub loop-p-init : goal.loop-p-init
loop-p-init c =
    (wrong_start c.args.self.now.card c.args.self.now.state c.args.pairs.now, marked_start c.args.self.now.card c.args.self.now.state c.args.pairs.now c.args.marks.now c.requires.clean)

pub loop-p-preserved : goal.loop-p-preserved
loop-p-preserved c = (
  wrong_more c.args.self.now.card c.args.self.now.state c.args.pairs.now c.loop-p.marks c.loop-p.p-index _ c.loop-p.least c.note_pair.result c.earlier-least.result c.loop-p-test.true c.loop-p.invariant.1 c.note_pair.ensures.wrong c.earlier-least.ensures c.loop-p.invariant.0,
  marked_more c.args.self.now.card c.args.self.now.state c.args.pairs.now c.loop-p.marks c.note_pair.new.marks c.loop-p.p-index _ c.loop-p-test.true c.loop-p.invariant.1 c.note_pair.ensures.marks,
)

pub returns-clause-wrong : goal.returns-clause-wrong
returns-clause-wrong c = wrong_whole c.args.self.now.card c.args.self.now.state c.args.pairs.now c.loop-p.p-index c.loop-p.least c.loop-p-test.false c.loop-p.invariant.0

pub returns-clause-marks : goal.returns-clause-marks
returns-clause-marks c = marked_whole c.args.self.now.card c.args.self.now.state c.args.pairs.now c.loop-p.marks c.loop-p.p-index c.loop-p-test.false c.loop-p.invariant.1
