use Rattle.std.proofs.Common.{◌-◌, ◌≤◌}
use Rattle.zac_world.proofs.nearest.around.Given as goal

-- the width is no more than twice the field's
abbrev pub invariant-loop-found : goal.invariant-loop-found
invariant-loop-found l = record { least : 1 ≤ l.width; most : l.width ≤ 4000000 }

abbrev pub decreases-loop-found : goal.decreases-loop-found
decreases-loop-found l = 4000000 - l.width
