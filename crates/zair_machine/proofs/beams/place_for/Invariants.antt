use Rattle.zair_machine.proofs.AfterBeams.{NoneGreater}
use Rattle.zair_machine.proofs.beams.place_for.Given as goal

abbrev pub invariant-loop-k : goal.invariant-loop-k
invariant-loop-k l = NoneGreater l.b.id l.beams l.k
