use Rattle.std.proofs.Common.{nat_eq}
use Rattle.std.specs.HashMap.{get}
use Rattle.zac_reuse.specs.Sharing.{ArePlaces}
use Rattle.zac_reuse.proofs.sharing.places.Given as goal

-- the places so far are found
abbrev pub invariant-loop-place : goal.invariant-loop-place
invariant-loop-place l = ArePlaces l.ops l.pulse (get nat_eq l.found) l.place
