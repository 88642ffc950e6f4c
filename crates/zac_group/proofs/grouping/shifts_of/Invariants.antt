use Rattle.std.proofs.Common.{◌≡◌, take}
use Rattle.zac_group.specs.Members.{moves}
use Rattle.zac_group.proofs.grouping.shifts_of.Given as goal

abbrev pub invariant-loop-route : goal.invariant-loop-route
invariant-loop-route l = l.shifts.items ≡ moves (take l.route-index l.routes)
