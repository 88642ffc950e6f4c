use Rattle.std.proofs.Common.{◌++◌, List, take}
use Rattle.zac_aod.specs.Jobs.{StandAt}
use Rattle.zac_aod.specs.Lines.{crossings_of}
use Rattle.zac_arch.specs.declared.place.Point.{Point}
use Rattle.zac_aod.proofs.grid.add_grid.Given as goal

abbrev pub invariant-loop-y : goal.invariant-loop-y
invariant-loop-y l = (points : List Point) → StandAt l.card l.initial.traps.items points → StandAt l.card l.traps.items (points ++ crossings_of l.xs (take l.y-index l.ys))
