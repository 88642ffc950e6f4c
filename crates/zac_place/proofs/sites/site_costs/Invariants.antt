use Rattle.std.proofs.Common.{ℕ, ◌≡◌, ◌<◌, Some, length, map}
use Rattle.std.specs.List.{slice_get}
use Rattle.zac_assign.specs.Assignment.{cost_at}
use Rattle.zac_place.specs.Sites.{site_cost}
use Rattle.zac_place.specs.Tables.{site_number}
use Rattle.zac_place.proofs.sites.site_costs.Given as goal

-- the rows so far are set
abbrev pub invariant-loop-row : goal.invariant-loop-row
invariant-loop-row l =
    record {
      rows : l.costs.rows ≡ length l.gates;
      columns : l.costs.columns ≡ length l.free;
      set : (r k site : ℕ) → r < l.row → slice_get (map site_number l.free) k ≡ Some site → cost_at l.costs r k ≡ site_cost l.world l.gates r site;
    }
