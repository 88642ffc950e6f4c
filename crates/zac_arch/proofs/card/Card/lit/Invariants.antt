use Rattle.zac_arch.proofs.Finding.{DarkBelow}
use Rattle.zac_arch.proofs.card.Card.lit.Given as goal

-- no zone so far lights the point
abbrev pub invariant-loop-zone : goal.invariant-loop-zone
invariant-loop-zone l = DarkBelow l.radius l.p l.zones l.zone-index
