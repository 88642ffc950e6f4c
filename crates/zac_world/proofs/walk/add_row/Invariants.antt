use Rattle.std.proofs.Common.{◌≡◌, ◌++◌}
use Rattle.zac_world.specs.Walks.{candidates_in}
use Rattle.zac_world.proofs.walk.add_row.Given as goal

-- the empty ones of the columns so far
abbrev pub invariant-loop-column : goal.invariant-loop-column
invariant-loop-column l = l.found.items ≡ l.fn.found.items ++ candidates_in l.world l.disc l.first l.column
