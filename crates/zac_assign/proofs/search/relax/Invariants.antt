use Rattle.std.proofs.Common.{ℕ, ◌≡◌, ◌<◌, ◌≤◌, false, slice_index, vec_len}
use Rattle.zac_assign.specs.Search.{is_used, Relaxes}
use Rattle.zac_assign.proofs.search.relax.Given as goal

abbrev pub invariant-loop-column : goal.invariant-loop-column
invariant-loop-column l = record {
  used : l.room.used ≡ l.initial.room.used;
  steps : l.room.steps ≡ l.initial.room.steps;
  distance_len : vec_len l.room.distance ≡ l.costs.columns;
  from_len : vec_len l.room.from ≡ l.costs.columns;
  done : (c : ℕ) → c < l.column → is_used l.initial.room.used.items c ≡ false → Relaxes l.costs l.price l.fee l.row l.place l.raised c l.initial.room.distance.items l.room.distance.items l.initial.room.from.items l.room.from.items;
  distance : (c : ℕ) → l.column ≤ c → slice_index l.room.distance.items c ≡ slice_index l.initial.room.distance.items c;
  from : (c : ℕ) → l.column ≤ c → slice_index l.room.from.items c ≡ slice_index l.initial.room.from.items c;
}
