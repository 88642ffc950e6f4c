use Rattle.std.proofs.Common.{◌≡◌, take, All}
use Rattle.zac_group.specs.Members.{IsRoute, moves}
use Rattle.zac_group.proofs.route.routes_of.Given as goal

abbrev pub invariant-loop-shift : goal.invariant-loop-shift
invariant-loop-shift l = record {
  routes : All (IsRoute l.card) l.routes.items;
  shifts : moves l.routes.items ≡ take l.shift-index l.shifts;
}
