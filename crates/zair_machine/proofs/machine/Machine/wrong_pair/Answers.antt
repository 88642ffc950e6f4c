use Rattle.zair_machine.proofs.PairSites.{first_wrong}
use Rattle.zair_machine.proofs.PairWrongs.{all_clean}
use Rattle.zair_machine.proofs.machine.Machine.wrong_pair.Goals as goal

pub least_listed_wrong-listed-requires-clause-clean : goal.least_listed_wrong-listed-requires-clause-clean
least_listed_wrong-listed-requires-clause-clean c = all_clean 1024

pub returns : goal.returns
returns c =
    let t = c.site_laws.ensures in
    first_wrong c.args.self.now.card c.args.self.now.state c.most_beams-sound.ensures.sound t.counts t.dark t.lit t.within t.one c.args.pairs.now c.least_listed_wrong-listed.new.marks c.least_listed_wrong-listed.ensures.marks c.least_listed_wrong-listed.result c.least_unlisted.result c.earlier.result c.earlier.ensures c.least_listed_wrong-listed.ensures.wrong c.least_unlisted.ensures
