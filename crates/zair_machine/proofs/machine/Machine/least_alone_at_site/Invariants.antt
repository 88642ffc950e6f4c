use Rattle.zair_state.specs.Least.{IsLeastOf}
use Rattle.zair_machine.proofs.PairWrongs.{AloneBelow}
use Rattle.zair_machine.proofs.machine.Machine.least_alone_at_site.Given as goal

abbrev pub invariant-loop-site : goal.invariant-loop-site
invariant-loop-site l = IsLeastOf (AloneBelow l.self.card l.self.state l.site) l.least
