use Rattle.std.proofs.Common.{length}
use Rattle.qasm_parse.specs.declared.opening.Follow.TheVariants.{Until}
use Rattle.qasm_parse.specs.Readings.{one_more, name_then}
use Rattle.qasm_form.specs.Symbols.{lexemes_of}
use Rattle.qasm_parse.proofs.LoopLemmas.{Reading}
use Rattle.qasm_parse.proofs.lists.names_until.Given as goal

abbrev pub invariant-loop-names : goal.invariant-loop-names
invariant-loop-names l =
    Reading (one_more (name_then l.end (Until l.stop))) (lexemes_of l.source l.initial.left) (lexemes_of l.source l.left) l.names.items

abbrev pub decreases-loop-names : goal.decreases-loop-names
decreases-loop-names l = length l.left
