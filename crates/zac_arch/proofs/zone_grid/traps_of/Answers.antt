use Rattle.std.proofs.Common.{arith}
use Rattle.zac_arch.proofs.Walks.{zone_product, zone_product_least}
use Rattle.zac_arch.proofs.zone_grid.traps_of.Goals as goal

pub overflow_mul-result : goal.overflow_mul-result
overflow_mul-result c = omega (arith, zone_product_least c.args.z)

pub overflow_mul-result-2 : goal.overflow_mul-result-2
overflow_mul-result-2 c = rw c.traps_at_place.ensures (omega (arith, zone_product c.args.z))

pub returns : goal.returns
returns c = rw c.traps_at_place.ensures (zone_product c.args.z)
