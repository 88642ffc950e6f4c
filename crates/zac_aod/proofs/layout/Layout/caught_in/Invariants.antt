use Rattle.std.proofs.Common.{◌≡◌, map, take}
use Rattle.zac_aod.specs.Layout.{caught_as}
use Rattle.zac_aod.proofs.layout.Layout.caught_in.Given as goal

abbrev pub invariant-loop-atom : goal.invariant-loop-atom
invariant-loop-atom l = l.caught.items ≡ map (caught_as l.number) (take l.atom-index l.atoms)
