use Rattle.zair_machine.proofs.Noting.{IndexBelow}
use Rattle.zair_machine.proofs.opening.index_of.Given as goal

abbrev pub invariant-loop-q : goal.invariant-loop-q
invariant-loop-q l = IndexBelow l.card l.homes l.q l.index.items
