use Rattle.zair_state.specs.Least.{IsLeastPairOf}
use Rattle.zair_machine.proofs.PairWrongs.{WrongBelow, MarkedBelow}
use Rattle.zair_machine.proofs.machine.Machine.least_listed_wrong.Given as goal

abbrev pub invariant-loop-p : goal.invariant-loop-p
invariant-loop-p l =
    IsLeastPairOf (WrongBelow l.self.card l.self.state l.pairs l.p-index) l.least × MarkedBelow l.self.card l.self.state l.pairs l.marks l.p-index
