use Rattle.std.proofs.Common.{take}
use Rattle.zac_group.specs.Fitting.{IsFitting}
use Rattle.zac_group.specs.Members.{moves}
use Rattle.zac_group.proofs.fitting.first_fit.Given as goal

abbrev pub invariant-loop-route : goal.invariant-loop-route
invariant-loop-route l = IsFitting l.card (moves (take l.route-index l.ordered)) l.groups.items
