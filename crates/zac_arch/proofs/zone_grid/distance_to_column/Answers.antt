use Rattle.zac_arch.proofs.Nearest.{nearer_side, no_nearer_side}
use Rattle.zac_arch.proofs.zone_grid.distance_to_column.Goals as goal

pub returns-in-Entangling-clause-reached : goal.returns-in-Entangling-clause-reached
returns-in-Entangling-clause-reached c =
    nearer_side c.args.z c.args.x _ _ _ c.in-Entangling.is c.distance_to_nearest-left.ensures.reached c.distance_to_nearest.ensures.reached c.min.ensures

pub returns-in-Entangling-clause-least : goal.returns-in-Entangling-clause-least
returns-in-Entangling-clause-least c =
    no_nearer_side c.args.z c.args.x _ _ _ c.in-Entangling.is c.distance_to_nearest-left.ensures.least c.distance_to_nearest.ensures.least c.min.ensures
