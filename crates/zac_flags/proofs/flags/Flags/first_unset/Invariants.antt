use Rattle.std.proofs.Common.{◌≡◌, ℕ, ◌*◌, ◌<◌, ◌≤◌, false}
use Rattle.zac_flags.specs.Flags.{is_unset}
use Rattle.zac_flags.proofs.flags.Flags.first_unset.Given as goal

-- no place of the words so far is unset
abbrev pub invariant-loop-number : goal.invariant-loop-number
invariant-loop-number l = (p : ℕ) → l.begin ≤ p → p < l.end → p < l.number * 64 → is_unset l.self l.other p ≡ false
