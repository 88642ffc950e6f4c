use Rattle.std.proofs.Common.{arith}
use Rattle.zac_arch.proofs.Zones.{count_is}
use Rattle.zac_arch.proofs.card.Card.traps.Goals as goal

pub returns : goal.returns
returns c = omega (arith, count_is c.args.self.now.zones)
