use Rattle.zac_group.proofs.Unique.{one_grouping as unique}
use Rattle.zac_group.proofs.laws.one_grouping.Goals as goal

pub returns : goal.returns
returns c = unique c.args.card.now
