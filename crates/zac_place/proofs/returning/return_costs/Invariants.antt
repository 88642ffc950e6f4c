use Rattle.std.proofs.Common.{ℕ, ◌≡◌, ◌<◌, Some, length}
use Rattle.std.specs.List.{slice_get}
use Rattle.zac_assign.specs.Assignment.{cost_at}
use Rattle.zac_place.specs.Returns.{return_cost}
use Rattle.zac_place.proofs.returning.return_costs.Given as goal

-- the rows so far are set
abbrev pub invariant-loop-row : goal.invariant-loop-row
invariant-loop-row l =
    record {
      rows : l.costs.rows ≡ length l.leaving;
      columns : l.costs.columns ≡ length l.offered;
      set : (r k t : ℕ) → r < l.row → slice_get l.offered k ≡ Some t → cost_at l.costs r k ≡ return_cost l.world l.leaving r t;
    }
