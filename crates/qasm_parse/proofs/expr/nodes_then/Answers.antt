use Rattle.qasm_parse.proofs.LoopLemmas.{first_shorter}
use Rattle.qasm_parse.proofs.expr.nodes_then.Goals as goal

pub loop-nodes-smaller : goal.loop-nodes-smaller
loop-nodes-smaller c =
    first_shorter c.args.source.now c.args.end c.loop-nodes.left.now _ c.in_ok-token.others.now c.in_ok-token.ensures
