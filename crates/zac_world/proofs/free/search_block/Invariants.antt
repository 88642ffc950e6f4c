use Rattle.std.proofs.Common.{ℕ, ◌+◌, ◌*◌, ◌≤◌, ◌<◌}
use Rattle.zac_world.specs.Free.{AreNoBetter, IsNoWorse}
use Rattle.zac_world.proofs.free.search_block.Given as goal

-- the rows so far around the middle are no better
abbrev pub invariant-loop-step : goal.invariant-loop-step
invariant-loop-step l =
    record {
      no_worse : IsNoWorse l.world l.marks l.from l.fn.best l.best;
      rows : (row : ℕ) → row < l.block.zone.rows → l.middle ≤ row + l.step → row < l.middle + l.step → AreNoBetter l.world l.marks l.from l.best (l.block.first + row * l.block.zone.columns) l.block.zone.columns;
    }
