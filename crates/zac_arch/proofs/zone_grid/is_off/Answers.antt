use Rattle.zac_arch.proofs.Nearest.{off_zone, near_zone, not_within}
use Rattle.zac_arch.proofs.zone_grid.is_off.Goals as goal

pub returns : goal.returns
returns c =
    let told = not_within c.args.reach c.distance_to_column-across.result c.distance_to_nearest-up.result c.within.result c.within.ensures in (
      λ off. off_zone c.args.z c.args.p c.args.reach c.distance_to_column-across.result c.distance_to_nearest-up.result c.distance_to_column-across.ensures.least c.distance_to_nearest-up.ensures.least (told.0 off),
      λ far. told.1 (near_zone c.args.z c.args.p c.args.reach c.distance_to_column-across.result c.distance_to_nearest-up.result c.distance_to_column-across.ensures.reached c.distance_to_nearest-up.ensures.reached far),
    )
