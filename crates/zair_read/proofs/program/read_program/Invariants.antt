use Rattle.std.proofs.Common.{length}
use Rattle.zair_read.proofs.Walk.{IsReadTo}
use Rattle.zair_read.proofs.program.read_program.Given as goal

abbrev pub invariant-lines : goal.invariant-lines
invariant-lines l = IsReadTo l.fn.bytes l.rest l.instrs.items l.line

abbrev pub decreases-lines : goal.decreases-lines
decreases-lines l = length l.rest
