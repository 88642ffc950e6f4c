use Rattle.std.proofs.Common.{ℕ, ◌-◌, ◌*◌, ◌≤◌, ◌<◌}
use Rattle.zac_arch.proofs.duration.least_time.Given as goal

-- the wanted time is at least low and at most high
abbrev pub invariant-loop-low : goal.invariant-loop-low
invariant-loop-low l = record {
  ordered : l.low ≤ l.high;
  high_most : l.high ≤ 67108864;
  high_is_enough : l.wanted ≤ l.high * l.high * (l.high * l.high);
  below_is_short : (s : ℕ) → s < l.low → s * s * (s * s) < l.wanted;
}

abbrev pub decreases-loop-low : goal.decreases-loop-low
decreases-loop-low l = l.high - l.low
