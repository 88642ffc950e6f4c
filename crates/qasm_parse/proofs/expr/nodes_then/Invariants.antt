use Rattle.std.proofs.Common.{◌≡◌, [], ◌∷◌, length}
use Rattle.std.specs.Prelude.{reverse}
use Rattle.qasm_form.specs.declared.part.Part.TheVariants as part
use Rattle.qasm_parse.specs.Running.{run}
use Rattle.qasm_parse.specs.Follows.{follows}
use Rattle.qasm_form.specs.Symbols.{lexemes_of}
use Rattle.qasm_parse.proofs.expr.nodes_then.Given as goal

abbrev pub invariant-loop-nodes : goal.invariant-loop-nodes
invariant-loop-nodes l =
    run (follows l.class) l.end (reverse l.parts.items) l.nodes.items (lexemes_of l.source l.left) ≡ run (follows l.class) l.end (part.Expr ∷ []) [] (lexemes_of l.source l.initial.left)

abbrev pub decreases-loop-nodes : goal.decreases-loop-nodes
decreases-loop-nodes l = length l.left
