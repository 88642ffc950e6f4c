use Rattle.std.proofs.Common.{◌≡◌, vec_len}
use Rattle.zac_assign.specs.Search.{ArePrices, IsSearch}
use Rattle.zac_pairing.specs.Tree.{left_at}
use Rattle.zac_assign.specs.Search.{unused_count}
use Rattle.zac_assign.proofs.search.search.Given as goal

abbrev pub invariant-loop-next : goal.invariant-loop-next
invariant-loop-next l = record {
  used_len : vec_len l.room.used ≡ l.costs.columns;
  distance_len : vec_len l.room.distance ≡ l.costs.columns;
  from_len : vec_len l.room.from ≡ l.costs.columns;
  prices : ArePrices l.costs l.price l.fee l.pairs.left.items l.pairs.right.items;
  search : IsSearch l.costs l.price l.fee l.pairs.left.items l.room.used.items l.room.distance.items l.room.from.items l.room.steps.items l.raised;
  root : left_at l.room.steps.items 0 ≡ l.row;
}

abbrev pub decreases-loop-next : goal.decreases-loop-next
decreases-loop-next l = unused_count l.room.used.items
