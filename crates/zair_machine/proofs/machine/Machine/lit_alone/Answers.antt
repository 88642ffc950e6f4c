use Rattle.zair_machine.proofs.PairSites.{alone_step}
use Rattle.zair_machine.proofs.machine.Machine.lit_alone.Goals as goal

pub returns-in-Pulse : goal.returns-in-Pulse
returns-in-Pulse c = let t = c.site_laws.ensures in alone_step c.args.self.now.card c.args.self.now.state c.most_beams-sound.ensures.sound t.counts t.dark t.lit t.within t.one c.in-Pulse.pairs c.args.step.now c.least_alone_at_site.result c.in-Pulse.is c.requires.met c.least_alone_at_site.ensures
