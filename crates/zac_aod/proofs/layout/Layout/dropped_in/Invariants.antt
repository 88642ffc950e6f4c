use Rattle.std.proofs.Common.{◌≡◌, map, take}
use Rattle.zac_aod.specs.Layout.{dropped_as}
use Rattle.zac_aod.proofs.layout.Layout.dropped_in.Given as goal

abbrev pub invariant-loop-atom : goal.invariant-loop-atom
invariant-loop-atom l = l.dropped.items ≡ map dropped_as (take l.atom-index l.atoms)
