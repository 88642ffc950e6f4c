use Rattle.std.proofs.Common.{rules}
use Rattle.zac_assign.proofs.SearchFacts.{fee_small}
use Rattle.zac_assign.proofs.search.search.Goals as goal

pub begin-requires-clause-fits : goal.begin-requires-clause-fits
begin-requires-clause-fits c =
    let r = c.requires in
    fee_small r.prices c.args.pairs.now.pairing (search rules) (search rules) r.small r.some_free
