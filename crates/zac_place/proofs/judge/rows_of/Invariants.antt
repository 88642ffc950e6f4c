use Rattle.std.proofs.Common.{◌≡◌, ℕ, ◌<◌, length, get_or}
use Rattle.zac_assign.specs.Assignment.{price_at}
use Rattle.zac_place.specs.Judged.{IsRow}
use Rattle.zac_place.specs.declared.judge.Row.{Row}
use Rattle.zac_place.proofs.judge.rows_of.Given as goal

-- the rows so far are those of the qubits so far
abbrev pub invariant-loop-k : goal.invariant-loop-k
invariant-loop-k l =
    record {
      many : length l.rows.items ≡ l.k;
      each : (i : ℕ) (d : Row) → i < l.k → IsRow l.world l.marks (get_or l.leaving i 0) (get_or l.proposal.targets.items i 0) (price_at l.proposal.prices.items i) (get_or l.rows.items i d);
    }
