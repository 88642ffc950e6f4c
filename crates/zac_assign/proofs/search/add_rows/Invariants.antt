use Rattle.std.proofs.Common.{ℕ, ◌≡◌, ◌+◌, ◌<◌, ◌≤◌, None, vec_len}
use Rattle.std.specs.Prelude.{IsSome}
use Rattle.zac_pairing.specs.Pairing.{mate, free_count}
use Rattle.zac_assign.specs.Search.{ArePrices}
use Rattle.zac_assign.proofs.search.add_rows.Given as goal

abbrev pub invariant-loop-row : goal.invariant-loop-row
invariant-loop-row l = record {
  columns_len : vec_len l.pairs.left ≡ l.costs.rows;
  rows_len : vec_len l.pairs.right ≡ l.costs.columns;
  used_len : vec_len l.room.used ≡ l.costs.columns;
  distance_len : vec_len l.room.distance ≡ l.costs.columns;
  from_len : vec_len l.room.from ≡ l.costs.columns;
  prices : ArePrices l.costs l.price l.fee l.pairs.left.items l.pairs.right.items;
  count : free_count l.pairs.right.items + l.row ≡ l.costs.columns;
  done : (r : ℕ) → r < l.row → IsSome (mate l.pairs.left.items r);
  alone : (r : ℕ) → l.row ≤ r → mate l.pairs.left.items r ≡ None;
}
