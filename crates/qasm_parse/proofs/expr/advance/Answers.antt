use Rattle.qasm_form.specs.Symbols.{lexeme_of}
use Rattle.qasm_parse.proofs.MoveLemmas.{passing_more, passing_move, passing_end}
use Rattle.qasm_parse.proofs.expr.advance.Goals as goal

pub returns-in-Some-2-clause-moves : goal.returns-in-Some-2-clause-moves
returns-in-Some-2-clause-moves c =
    let goes = rw c.in-Some-2.is at c.in_ok-made.ensures.goes in
    passing_move c.in-Some-2.made c.args.parts.now.items c.loop-part.parts.items c.pop.new.parts.items c.step.new.parts.items c.args.nodes.now.items c.loop-part.nodes.items c.step.new.nodes.items (lexeme_of c.args.source.now c.args.token) c.in-Some.part c.loop-part.invariant c.in-Some.ensures goes

pub loop-part-preserved : goal.loop-part-preserved
loop-part-preserved c =
    let goes = rw c.in_default-2.is at c.in_ok-made.ensures.goes in
    passing_more c.args.parts.now.items c.loop-part.parts.items c.pop.new.parts.items c.step.new.parts.items c.args.nodes.now.items c.loop-part.nodes.items c.step.new.nodes.items (lexeme_of c.args.source.now c.args.token) c.in-Some.part c.loop-part.invariant c.in-Some.ensures goes

pub returns-clause-moves : goal.returns-clause-moves
returns-clause-moves c =
    passing_end c.args.parts.now.items c.loop-part.parts.items c.pop.new.parts.items c.args.nodes.now.items c.loop-part.nodes.items (lexeme_of c.args.source.now c.args.token) c.loop-part.invariant c.in_default.ensures
