use Rattle.std.proofs.Common.{◌≡◌, map, take}
use Rattle.zac_aod.specs.declared.route.Route.{Route}
use Rattle.zac_aod.proofs.route.columns_in.Given as goal

abbrev pub invariant-loop-route : goal.invariant-loop-route
invariant-loop-route l = l.lines.items ≡ map (λ (r : Route). r.column) (take l.route-index l.routes)
