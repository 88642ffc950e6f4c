use Rattle.std.proofs.Common.{◌≡◌, ℕ, Some, take, slice_get}
use Rattle.zac_arch.proofs.Zones.{count, points}
use Rattle.zac_arch.proofs.card.Card.trap_at.Given as goal

-- no trap so far stands there
abbrev pub invariant-loop-zone : goal.invariant-loop-zone
invariant-loop-zone l = record {
  traps_so_far : l.before ≡ count (take l.zone-index l.zones);
  none_so_far : (t : ℕ) → slice_get (points (take l.zone-index l.zones)) t ≡ Some l.p → ⊥;
}
