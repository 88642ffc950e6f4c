use Rattle.std.proofs.Common.{length}
use Rattle.qasm_form.specs.Symbols.{lexeme_of}
use Rattle.qasm_parse.proofs.MoveLemmas.{Passing}
use Rattle.qasm_parse.proofs.expr.advance.Given as goal

abbrev pub invariant-loop-part : goal.invariant-loop-part
invariant-loop-part l =
    Passing l.initial.parts.items l.initial.nodes.items l.parts.items l.nodes.items (lexeme_of l.source l.token)

abbrev pub decreases-loop-part : goal.decreases-loop-part
decreases-loop-part l = length l.parts.items
