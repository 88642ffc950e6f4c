use Rattle.qasm_scope.proofs.LeastLemmas.{first_none, first_all, tested_more}
use Rattle.qasm_scope.proofs.arguments.least_arg.Goals as goal

pub loop-arg-init : goal.loop-arg-init
loop-arg-init c = first_none _ c.args.args.now

pub loop-arg-preserved : goal.loop-arg-preserved
loop-arg-preserved c =
    tested_more _ _ c.args.args.now c.loop-arg.arg-index c.arg-item.result c.loop-arg-test.true c.arg-item.is c.loop-arg.invariant c.has_arg_fault-refused.ensures c.then_some.ensures c.earlier-least.ensures

pub returns : goal.returns
returns c = first_all _ c.args.args.now c.loop-arg.arg-index c.loop-arg-test.false c.loop-arg.invariant
