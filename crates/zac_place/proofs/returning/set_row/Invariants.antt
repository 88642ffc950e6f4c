use Rattle.std.proofs.Common.{ℕ, ◌≡◌, ◌≢◌, ◌<◌, Some, length}
use Rattle.std.specs.List.{slice_get}
use Rattle.zac_assign.specs.Assignment.{cost_at}
use Rattle.zac_world.specs.Nearest.{trap_distance}
use Rattle.zac_place.proofs.returning.set_row.Given as goal

-- the columns so far are set, and the other rows are as they were
abbrev pub invariant-loop-column : goal.invariant-loop-column
invariant-loop-column l =
    record {
      rows : l.costs.rows ≡ l.fn.costs.rows;
      columns : l.costs.columns ≡ l.fn.costs.columns;
      row : (k t : ℕ) → k < l.column → slice_get l.offered k ≡ Some t → cost_at l.costs l.row k ≡ trap_distance l.card l.from.0 t;
      others : (r k : ℕ) → r ≢ l.row → k < length l.offered → cost_at l.costs r k ≡ cost_at l.fn.costs r k;
    }
