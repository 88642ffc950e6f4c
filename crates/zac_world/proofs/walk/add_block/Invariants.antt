use Rattle.std.proofs.Common.{◌≡◌, ◌*◌, ◌++◌}
use Rattle.zac_world.specs.Walks.{candidates_in}
use Rattle.zac_world.proofs.walk.add_block.Given as goal

-- the empty ones of the rows so far
abbrev pub invariant-loop-row : goal.invariant-loop-row
invariant-loop-row l = l.found.items ≡ l.fn.found.items ++ candidates_in l.world l.disc l.block.first (l.row * l.block.zone.columns)
