use Rattle.std.proofs.Common.{◌++◌, List, map, take}
use Rattle.zac_aod.specs.Jobs.{StandAt}
use Rattle.zac_arch.specs.declared.place.Point.{Point}
use Rattle.zac_aod.proofs.grid.add_row.Given as goal

abbrev pub invariant-loop-x : goal.invariant-loop-x
invariant-loop-x l = (points : List Point) → StandAt l.card l.initial.traps.items points → StandAt l.card l.traps.items (points ++ map (λ x. record { x = x; y = l.y }) (take l.x-index l.xs))
