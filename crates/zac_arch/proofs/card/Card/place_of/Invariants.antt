use Rattle.std.proofs.Common.{◌≡◌, ◌+◌, take}
use Rattle.zac_arch.proofs.Zones.{count}
use Rattle.zac_arch.proofs.card.Card.place_of.Given as goal

abbrev pub invariant-loop-number : goal.invariant-loop-number
invariant-loop-number l = l.fn.t.0 ≡ count (take l.number l.zones) + l.place
