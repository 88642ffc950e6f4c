use Rattle.std.proofs.Common.{◌≤◌, vec_len}
use Rattle.stage_speed.proofs.wide.Given as goal

-- one pair each time
abbrev pub invariant-loop : goal.invariant-loop
invariant-loop l = vec_len l.ops ≤ l.counter
