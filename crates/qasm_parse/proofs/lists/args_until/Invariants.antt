use Rattle.std.proofs.Common.{length}
use Rattle.qasm_form.specs.declared.symbol.Symbol.TheVariants as sym
use Rattle.qasm_parse.specs.declared.opening.Follow.TheVariants.{Until}
use Rattle.qasm_parse.specs.Readings.{one_more, arg_then}
use Rattle.qasm_form.specs.Symbols.{lexemes_of}
use Rattle.qasm_parse.proofs.LoopLemmas.{Reading}
use Rattle.qasm_parse.proofs.lists.args_until.Given as goal

abbrev pub invariant-loop-args : goal.invariant-loop-args
invariant-loop-args l =
    Reading (one_more (arg_then l.end l.place (Until sym.Semicolon))) (lexemes_of l.source l.initial.left) (lexemes_of l.source l.left) l.args.items

abbrev pub decreases-loop-args : goal.decreases-loop-args
decreases-loop-args l = length l.left
