use Rattle.std.proofs.Common.{◌≡◌, All, map}
use Rattle.std.specs.List.{range_with_len}
use Rattle.zac_place.specs.Ranks.{IsRanked, number_of}
use Rattle.zac_place.proofs.offsets.ranked_traps.Given as goal

-- the traps so far
abbrev pub invariant-loop-t : goal.invariant-loop-t
invariant-loop-t l =
    record {
      ranked : All (IsRanked l.card) l.ranked.items;
      numbers : map number_of l.ranked.items ≡ range_with_len 0 l.t;
    }
