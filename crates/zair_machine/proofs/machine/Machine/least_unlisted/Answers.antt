use Rattle.std.proofs.Common.{arith}
use Rattle.zair_machine.proofs.PairWrongs.{unlisted_start, unlisted_more, unlisted_whole}
use Rattle.zair_machine.proofs.Together.{site_below}
use Rattle.zair_machine.proofs.machine.Machine.least_unlisted.Goals as goal

pub loop-site-init : goal.loop-site-init
loop-site-init c = unlisted_start c.args.self.now.card c.args.self.now.state c.args.marks.now

pub loop-site-preserved : goal.loop-site-preserved
loop-site-preserved c = unlisted_more c.args.self.now.card c.args.self.now.state c.args.marks.now c.loop-site.site c.loop-site.least c.unlisted_at.result c.earlier-least.result c.unlisted_at.ensures c.earlier-least.ensures c.loop-site.invariant

pub returns : goal.returns
returns c =
    unlisted_whole c.args.self.now.card c.args.self.now.state c.args.marks.now c.loop-site.site c.loop-site.least (λ site q h. let lt = site_below c.args.self.now.card c.args.self.now.state site q c.most_beams-sound.ensures.sound c.site_laws.ensures.counts h in omega (arith, lt, c.loop-site-test.false, c.sites-site-end.ensures)) c.loop-site.invariant
