use Rattle.std.proofs.Common.{◌≡◌, length}
use Rattle.zair_machine.proofs.Numbering.{CaughtTo}
use Rattle.zair_machine.proofs.counts.count_caught.Given as goal

abbrev pub invariant-loop-c : goal.invariant-loop-c
invariant-loop-c l = (length l.counts ≡ 4096) × CaughtTo l.rows l.columns l.atoms l.c-index l.counts
