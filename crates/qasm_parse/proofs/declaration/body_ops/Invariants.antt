use Rattle.std.proofs.Common.{length}
use Rattle.qasm_parse.specs.Readings.{body_item}
use Rattle.qasm_form.specs.Numbers.{AreSpelt}
use Rattle.qasm_form.specs.Symbols.{lexemes_of}
use Rattle.qasm_parse.proofs.LoopLemmas.{Reading}
use Rattle.qasm_parse.proofs.declaration.body_ops.Given as goal

abbrev pub invariant-loop-ops : goal.invariant-loop-ops
invariant-loop-ops l =
    Reading (body_item l.end) (lexemes_of l.source l.initial.left) (lexemes_of l.source l.left) l.ops.items × AreSpelt (lexemes_of l.source l.left)

abbrev pub decreases-loop-ops : goal.decreases-loop-ops
decreases-loop-ops l = length l.left
