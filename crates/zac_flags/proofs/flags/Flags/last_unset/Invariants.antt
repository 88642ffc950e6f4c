use Rattle.std.proofs.Common.{◌≡◌, ℕ, ◌+◌, ◌-◌, ◌*◌, ◌<◌, ◌≤◌, false}
use Rattle.zac_flags.specs.Flags.{is_unset}
use Rattle.zac_flags.proofs.flags.Flags.last_unset.Given as goal

-- no place from the words so far on is unset
abbrev pub invariant-loop-number : goal.invariant-loop-number
invariant-loop-number l =
    record {
      few : l.number * 64 < l.end + 64;
      none : (p : ℕ) → l.begin ≤ p → p < l.end → l.number * 64 ≤ p → is_unset l.self l.other p ≡ false;
    }

abbrev pub decreases-loop-number : goal.decreases-loop-number
decreases-loop-number l = l.number - l.first
