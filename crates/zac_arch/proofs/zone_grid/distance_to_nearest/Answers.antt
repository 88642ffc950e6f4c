use Rattle.zac_arch.proofs.Nearest.{reached_between, least_between}
use Rattle.zac_arch.proofs.zone_grid.distance_to_nearest.Goals as goal

pub returns-clause-reached : goal.returns-clause-reached
returns-clause-reached c =
    reached_between c.args.first c.args.step c.args.count c.args.n _ c.requires.rises c.if-n-first.false c.if-last-n.false c.min.ensures

pub returns-clause-least : goal.returns-clause-least
returns-clause-least c =
    least_between c.args.first c.args.step c.args.count c.args.n _ c.requires.rises c.if-n-first.false c.if-last-n.false c.min.ensures
