use Rattle.zac_arch.proofs.Nearest.{AreOffBelow}
use Rattle.zac_arch.proofs.card.Card.is_off_traps.Given as goal

-- the point is off all zones so far
abbrev pub invariant-loop-zone : goal.invariant-loop-zone
invariant-loop-zone l = AreOffBelow l.reach l.p l.zones l.zone-index
