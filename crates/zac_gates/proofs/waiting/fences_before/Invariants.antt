use Rattle.std.proofs.Common.{◌≡◌, ℕ, ◌<◌, ◌↔◌, slice_index, vec_len}
use Rattle.zac_gates.specs.Ops.{IsFencedBetween}
use Rattle.zac_gates.proofs.waiting.fences_before.Given as goal

-- the fences so far, and the last one
abbrev pub invariant-loop-k : goal.invariant-loop-k
invariant-loop-k l =
    record {
      len : vec_len l.fences ≡ l.k;
      before : (i k : ℕ) → k < l.k → IsFencedBetween l.ops i k ↔ (i < slice_index l.fences.items k);
      now : (i : ℕ) → IsFencedBetween l.ops i l.k ↔ (i < l.last);
    }
