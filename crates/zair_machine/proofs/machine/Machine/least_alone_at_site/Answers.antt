use Rattle.std.proofs.Common.{arith}
use Rattle.zair_machine.proofs.PairWrongs.{alone_start, alone_more, alone_whole}
use Rattle.zair_machine.proofs.Together.{site_below}
use Rattle.zair_machine.proofs.machine.Machine.least_alone_at_site.Goals as goal

pub loop-site-init : goal.loop-site-init
loop-site-init c = alone_start c.args.self.now.card c.args.self.now.state

pub loop-site-preserved : goal.loop-site-preserved
loop-site-preserved c = rw c.lesser-least.ensures (alone_more c.args.self.now.card c.args.self.now.state c.loop-site.site c.loop-site.least c.alone_at.result c.alone_at.ensures c.loop-site.invariant)

pub returns : goal.returns
returns c =
    alone_whole c.args.self.now.card c.args.self.now.state c.loop-site.site c.loop-site.least (λ site q h. let lt = site_below c.args.self.now.card c.args.self.now.state site q c.most_beams-sound.ensures.sound c.site_laws.ensures.counts h in omega (arith, lt, c.loop-site-test.false, c.sites-site-end.ensures)) c.loop-site.invariant
