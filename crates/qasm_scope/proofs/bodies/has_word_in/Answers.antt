use Rattle.qasm_scope.proofs.WordLemmas.{in_second}
use Rattle.qasm_scope.proofs.bodies.has_word_in.Goals as goal

pub returns-else-has_word : goal.returns-else-has_word
returns-else-has_word c =
    in_second c.args.first.now c.args.second.now c.args.word.now c.if-has_word.false c.has_word.ensures c.has_word-else-has_word.ensures
