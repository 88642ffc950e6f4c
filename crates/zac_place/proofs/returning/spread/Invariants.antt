use Rattle.std.proofs.Common.{ℕ, ◌≡◌, ◌<◌, ◌≤◌, length, get_or, map, filter}
use Rattle.std.specs.List.{range_with_len}
use Rattle.zac_place.specs.Offers.{price_of}
use Rattle.zac_world.specs.Places.{is_empty}
use Rattle.zac_place.proofs.returning.spread.Given as goal

-- the empty traps so far have their prices, and the offered ones so far are just those before the next one
abbrev pub invariant-loop-t : goal.invariant-loop-t
invariant-loop-t l =
    record {
      prices : l.spread.items ≡ map (price_of l.offered l.prices) (filter (is_empty l.world.traps) (range_with_len 0 l.t));
      most : l.next ≤ length l.offered;
      before : (k : ℕ) → k < l.next → get_or l.offered k 0 < l.t;
      after : (k : ℕ) → l.next ≤ k → k < length l.offered → l.t ≤ get_or l.offered k 0;
    }
