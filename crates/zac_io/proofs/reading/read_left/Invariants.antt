use Rattle.std.proofs.Common.{◌≡◌, ◌-◌, ◌≤◌, ◌++◌, take, vec_len}
use Rattle.std.specs.Prelude.{OnSome}
use Rattle.zac_io.proofs.reading.read_left.Given as goal

abbrev pub invariant-loop-filled : goal.invariant-loop-filled
invariant-loop-filled g l =
    (l.filled ≤ vec_len l.buffer) × (vec_len l.buffer ≤ l.limit)
    × OnSome (g.S.Shelf.files l.initial.shelf) (g.S.Shelf.left l.initial.shelf ≡ take l.filled l.buffer.items ++ g.S.Shelf.left l.shelf)
    × (g.S.Shelf.files l.shelf ≡ g.S.Shelf.files l.initial.shelf)
    × (g.S.Shelf.strays l.shelf ≡ g.S.Shelf.strays l.initial.shelf)
    × (g.S.Shelf.faults l.shelf ≡ g.S.Shelf.faults l.initial.shelf)

abbrev pub decreases-loop-filled : goal.decreases-loop-filled
decreases-loop-filled g l = l.limit - l.filled
