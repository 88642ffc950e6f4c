use Rattle.zair_machine.proofs.Reaching.{FarBelow}
use Rattle.zair_machine.proofs.machine.Machine.is_free.Given as goal

abbrev pub invariant-loop-k : goal.invariant-loop-k
invariant-loop-k l = FarBelow l.reach l.self.state l.aod l.p l.k
