use Rattle.qasm_scope.proofs.LeastLemmas.{first_none, first_all, found_more}
use Rattle.qasm_scope.proofs.bodies.least_undeclared.Goals as goal

pub loop-call-init : goal.loop-call-init
loop-call-init c = first_none _ c.args.body.now

pub loop-call-preserved : goal.loop-call-preserved
loop-call-preserved c =
    found_more _ c.args.body.now c.loop-call.call-index c.call-item.result c.loop-call-test.true c.call-item.is c.loop-call.invariant c.undeclared_at.ensures c.earlier-least.ensures

pub returns : goal.returns
returns c = first_all _ c.args.body.now c.loop-call.call-index c.loop-call-test.false c.loop-call.invariant
