use Rattle.std.proofs.Common.{◌≤◌, ◌*◌, vec_len}
use Rattle.stage_speed.proofs.fenced.Given as goal

-- two ops each time
abbrev pub invariant-loop-k : goal.invariant-loop-k
invariant-loop-k l = vec_len l.ops ≤ 2 * l.k
