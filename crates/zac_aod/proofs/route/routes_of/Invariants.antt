use Rattle.std.proofs.Common.{◌≡◌, map, take}
use Rattle.zac_aod.specs.Layout.{route_of}
use Rattle.zac_aod.proofs.route.routes_of.Given as goal

abbrev pub invariant-loop-shift : goal.invariant-loop-shift
invariant-loop-shift l = l.routes.items ≡ map (route_of l.card) (take l.shift-index l.shifts)
