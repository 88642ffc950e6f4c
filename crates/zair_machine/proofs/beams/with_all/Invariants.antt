use Rattle.std.proofs.Common.{◌≡◌, length}
use Rattle.std.proofs.Common.{drop, ◌-◌}
use Rattle.zair_state.specs.Result.{with_beams}
use Rattle.zair_machine.proofs.beams.with_all.Given as goal

abbrev pub invariant-loop-k : goal.invariant-loop-k
invariant-loop-k l = l.beams.items ≡ with_beams (drop (length l.listed - l.k) l.listed) l.active
