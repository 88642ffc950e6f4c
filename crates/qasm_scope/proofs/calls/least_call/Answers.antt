use Rattle.qasm_scope.proofs.LeastLemmas.{first_none, first_all, tested_more}
use Rattle.qasm_scope.proofs.calls.least_call.Goals as goal

pub loop-call-init : goal.loop-call-init
loop-call-init c = first_none _ c.args.calls.now

pub loop-call-preserved : goal.loop-call-preserved
loop-call-preserved c =
    tested_more _ _ c.args.calls.now c.loop-call.call-index c.call-item.result c.loop-call-test.true c.call-item.is c.loop-call.invariant c.has_call_fault-refused.ensures c.then_some.ensures c.earlier-least.ensures

pub returns : goal.returns
returns c = first_all _ c.args.calls.now c.loop-call.call-index c.loop-call-test.false c.loop-call.invariant
