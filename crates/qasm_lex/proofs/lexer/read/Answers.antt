use Rattle.qasm_lex.specs.Cuts.{IsLongestFront}
use Rattle.qasm_lex.proofs.Found.{of_rest}
use Rattle.qasm_lex.proofs.LexLoop.{lexed_more}
use Rattle.qasm_lex.proofs.lexer.read.Goals as goal

pub loop-at-preserved : goal.loop-at-preserved
loop-at-preserved c =
    let front = c.in-Some.front in
    let longest = of_rest (λ t. IsLongestFront t front.kind front.length) c.args.source.now c.loop-at.at c.in-Some.ensures in
    lexed_more c.args.source.now _ _ c.loop-at.at front.kind front.length c.loop-at.invariant longest c.in_ok-add.ensures.added
