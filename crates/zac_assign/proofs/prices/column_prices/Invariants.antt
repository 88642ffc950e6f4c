use Rattle.std.proofs.Common.{ℕ, ◌≡◌, ◌<◌, pos, neg_ℤ, slice_index, vec_len}
use Rattle.zac_assign.specs.Assignment.{price_at}
use Rattle.zac_assign.proofs.prices.column_prices.Given as goal

abbrev pub invariant-loop-one : goal.invariant-loop-one
invariant-loop-one l = record {
  len : vec_len l.prices ≡ l.one-index;
  each : (k : ℕ) → k < l.one-index → price_at l.prices.items k ≡ neg_ℤ (pos (slice_index l.fee k));
}
