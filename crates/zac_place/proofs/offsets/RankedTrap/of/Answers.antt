use Rattle.std.proofs.Common.{arith}
use Rattle.zac_arch.proofs.Geometry.{site_count_least}
use Rattle.zac_place.proofs.offsets.RankedTrap.of.Goals as goal

pub site_traps-requires : goal.site_traps-requires
site_traps-requires c = omega (arith, site_count_least c.args.card.now c.figures-rules.ensures.rules)
