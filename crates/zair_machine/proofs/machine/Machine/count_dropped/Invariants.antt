use Rattle.std.proofs.Common.{◌≡◌, length}
use Rattle.zair_machine.proofs.Numbering.{DroppedTo}
use Rattle.zair_machine.proofs.machine.Machine.count_dropped.Given as goal

abbrev pub invariant-loop-d : goal.invariant-loop-d
invariant-loop-d l = (length l.counts ≡ 4096) × DroppedTo l.self.state l.aod l.atoms l.d-index l.counts
