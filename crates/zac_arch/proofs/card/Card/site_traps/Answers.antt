use Rattle.std.proofs.Common.{arith}
use Rattle.zac_arch.proofs.Zones.{count_is}
use Rattle.zac_arch.proofs.card.Card.site_traps.Goals as goal

pub returns-clause-left_in : goal.returns-clause-left_in
returns-clause-left_in c = omega (arith, count_is c.args.self.now.zones)

pub returns-clause-right_in : goal.returns-clause-right_in
returns-clause-right_in c = omega (arith, count_is c.args.self.now.zones)
