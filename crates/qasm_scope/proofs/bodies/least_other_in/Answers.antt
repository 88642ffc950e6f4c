use Rattle.qasm_scope.proofs.LeastLemmas.{first_none, first_all, found_more}
use Rattle.qasm_scope.proofs.bodies.least_other_in.Goals as goal

pub loop-expr-init : goal.loop-expr-init
loop-expr-init c = first_none _ c.args.exprs.now

pub loop-expr-preserved : goal.loop-expr-preserved
loop-expr-preserved c =
    found_more _ c.args.exprs.now c.loop-expr.expr-index c.expr-item.result c.loop-expr-test.true c.expr-item.is c.loop-expr.invariant c.least_other.ensures c.earlier-least.ensures

pub returns : goal.returns
returns c = first_all _ c.args.exprs.now c.loop-expr.expr-index c.loop-expr-test.false c.loop-expr.invariant
