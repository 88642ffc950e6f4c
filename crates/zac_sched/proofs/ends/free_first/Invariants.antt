use Rattle.std.proofs.Common.{◌≡◌, ◌<◌, ◌≤◌, ◌⊎◌, ℕ, get_or, length}
use Rattle.zac_sched.proofs.ends.free_first.Given as goal

-- the first of the least so far
abbrev pub invariant-loop-n : goal.invariant-loop-n
invariant-loop-n l = (l.first < l.n) × (l.first < length l.aods)
    × ((j : ℕ) → j < l.n → (get_or l.aods l.first 0 < get_or l.aods j 0) ⊎ ((get_or l.aods l.first 0 ≡ get_or l.aods j 0) × (l.first ≤ j)))
