use Rattle.std.proofs.Common.{length}
use Rattle.qasm_form.specs.declared.symbol.Symbol.TheVariants as sym
use Rattle.qasm_parse.specs.declared.opening.Follow.TheVariants.{Until}
use Rattle.qasm_parse.specs.Readings.{one_more, expr_then}
use Rattle.qasm_form.specs.Numbers.{AreSpelt}
use Rattle.qasm_form.specs.Symbols.{lexemes_of}
use Rattle.qasm_parse.proofs.LoopLemmas.{Reading}
use Rattle.qasm_parse.proofs.lists.exprs_until.Given as goal

abbrev pub invariant-loop-exprs : goal.invariant-loop-exprs
invariant-loop-exprs l =
    Reading (one_more (expr_then l.end (Until sym.CloseParen))) (lexemes_of l.source l.initial.left) (lexemes_of l.source l.left) l.exprs.items × AreSpelt (lexemes_of l.source l.left)

abbrev pub decreases-loop-exprs : goal.decreases-loop-exprs
decreases-loop-exprs l = length l.left
