use Rattle.zair_state.specs.Least.{IsLeastPairOf}
use Rattle.zair_machine.proofs.PairWrongs.{UnlistedBelow}
use Rattle.zair_machine.proofs.machine.Machine.least_unlisted.Given as goal

abbrev pub invariant-loop-site : goal.invariant-loop-site
invariant-loop-site l = IsLeastPairOf (UnlistedBelow l.self.card l.self.state l.marks l.site) l.least
