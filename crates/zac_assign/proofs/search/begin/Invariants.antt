use Rattle.std.proofs.Common.{ℕ, ◌≡◌, ◌+◌, ◌<◌, false, slice_index, vec_len}
use Rattle.zac_assign.specs.Assignment.{cost_at}
use Rattle.zac_assign.specs.Search.{is_used}
use Rattle.zac_assign.proofs.search.begin.Given as goal

abbrev pub invariant-loop-column : goal.invariant-loop-column
invariant-loop-column l = record {
  used_len : vec_len l.room.used ≡ l.costs.columns;
  distance_len : vec_len l.room.distance ≡ l.costs.columns;
  from_len : vec_len l.room.from ≡ l.costs.columns;
  used : (c : ℕ) → c < l.column → is_used l.room.used.items c ≡ false;
  distance : (c : ℕ) → c < l.column → slice_index l.room.distance.items c ≡ cost_at l.costs l.row c + slice_index l.fee c;
  from : (c : ℕ) → c < l.column → slice_index l.room.from.items c ≡ 0;
}
