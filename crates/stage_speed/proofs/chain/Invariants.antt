use Rattle.std.proofs.Common.{◌≤◌, vec_len}
use Rattle.stage_speed.proofs.chain.Given as goal

-- one pair each time
abbrev pub invariant-loop-k : goal.invariant-loop-k
invariant-loop-k l = vec_len l.ops ≤ l.k
