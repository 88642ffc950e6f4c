use Rattle.std.proofs.Common.{length, ◌-◌}
use Rattle.qasm_lex.proofs.LexLoop.{LexedTo}
use Rattle.qasm_lex.proofs.lexer.read.Given as goal

abbrev pub invariant-loop-at : goal.invariant-loop-at
invariant-loop-at l = LexedTo l.source l.items.items l.at

abbrev pub decreases-loop-at : goal.decreases-loop-at
decreases-loop-at l = length l.source - l.at
