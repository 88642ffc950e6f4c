use Rattle.qasm_parse.specs.Follows.{follows}
use Rattle.qasm_form.specs.Symbols.{lexemes_of}
use Rattle.qasm_parse.proofs.NumberLemmas.{run_expression}
use Rattle.qasm_parse.proofs.expr.expr_then.Goals as goal

pub invariant_of-result : goal.invariant_of-result
invariant_of-result c =
    run_expression (follows c.args.class) c.args.end (lexemes_of c.args.source.now c.args.rest.now) (c.in_ok-nodes.nodes, c.in_ok-nodes.more) (lexemes_of c.args.source.now c.in_ok-nodes.rest.now) c.in_ok-nodes.ensures c.requires
