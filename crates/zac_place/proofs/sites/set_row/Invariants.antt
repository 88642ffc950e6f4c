use Rattle.std.proofs.Common.{ℕ, ◌≡◌, ◌≢◌, ◌<◌, Some, length, map}
use Rattle.std.specs.List.{slice_get}
use Rattle.zac_assign.specs.Assignment.{cost_at}
use Rattle.zac_place.specs.Sites.{site_distance}
use Rattle.zac_place.specs.Tables.{site_number}
use Rattle.zac_place.proofs.sites.set_row.Given as goal

-- the columns so far are set, and the other rows are as they were
abbrev pub invariant-loop-column : goal.invariant-loop-column
invariant-loop-column l =
    record {
      rows : l.costs.rows ≡ l.fn.costs.rows;
      columns : l.costs.columns ≡ l.fn.costs.columns;
      row : (k site : ℕ) → k < l.column → slice_get (map site_number l.free) k ≡ Some site → cost_at l.costs l.row k ≡ site_distance l.card l.ends.0.0 l.ends.1.0 site;
      others : (r k : ℕ) → r ≢ l.row → k < length l.free → cost_at l.costs r k ≡ cost_at l.fn.costs r k;
    }
