use Rattle.std.proofs.Common.{ℕ, ◌≡◌, ◌<◌, Some, slice_index, vec_len}
use Rattle.zac_pairing.specs.Pairing.{mate}
use Rattle.zac_assign.proofs.chosen.chosen_columns.Given as goal

abbrev pub invariant-loop-column : goal.invariant-loop-column
invariant-loop-column l = record {
  len : vec_len l.chosen ≡ l.column-index;
  own : (r : ℕ) → r < l.column-index → mate l.pairs.left.items r ≡ Some (slice_index l.chosen.items r);
}
