-- Routes in the order in which they are taken, and in the order of their sources.
use Rattle.std.specs.Prelude.{◌≡◌, ℕ, ◌+◌, ◌<◌, ◌≤◌, ◌⊎◌}
use Rattle.zac_arch.specs.Distances.{difference}
use Rattle.zac_group.specs.declared.route.Route.{Route}

-- how far a route goes in x and in y, added
abbrev pub length_of : Route → ℕ
length_of r = difference r.from.x r.to.x + difference r.from.y r.to.y

-- the first is longer, or as long, and its qubit's number is not greater
abbrev pub IsInTurn : Route → Route → Type 0
IsInTurn r s = (length_of s < length_of r) ⊎ ((length_of r ≡ length_of s) × (r.shift.q ≤ s.shift.q))

-- the source of the first is below that of the second, or in its row and not to its right
abbrev pub IsBySource : Route → Route → Type 0
IsBySource r s = (r.from.y < s.from.y) ⊎ ((r.from.y ≡ s.from.y) × (r.from.x ≤ s.from.x))
