use Rattle.std.proofs.Common.{◌≡◌, ◌≤◌, length, vec_len}
use Rattle.zac_gates.specs.Waiting.{AreNextFrom}
use Rattle.zac_gates.proofs.waiting.next_gates.Given as goal

-- the gates from the place k on are linked
abbrev pub invariant-loop-k : goal.invariant-loop-k
invariant-loop-k l =
    record {
      within : l.k ≤ length l.ops;
      linked : AreNextFrom l.ops l.next.items l.first.items l.k;
      first_len : vec_len l.first ≡ l.qubits;
    }

abbrev pub decreases-loop-k : goal.decreases-loop-k
decreases-loop-k l = l.k
