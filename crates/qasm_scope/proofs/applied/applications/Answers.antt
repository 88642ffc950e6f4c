use Rattle.std.proofs.Common.{◌∙◌, ap}
use Rattle.qasm_names.specs.Names.{qubit_size}
use Rattle.qasm_scope.proofs.ApplicationsLemmas.{applications_more, applications_whole, applications_none}
use Rattle.qasm_scope.proofs.applied.applications.Goals as goal

pub loop-arg-preserved : goal.loop-arg-preserved
loop-arg-preserved c =
    applications_more c.args.known.now c.args.args.now c.loop-arg.arg-index c.arg-item.result c.loop-arg-test.true c.arg-item.is c.if-is_none.ensures c.loop-arg.invariant

pub returns-then-is_none : goal.returns-then-is_none
returns-then-is_none c =
    applications_whole c.args.known.now c.args.args.now c.loop-arg.arg-index c.arg-item.result c.qubit_size.result c.unwrap_or.result c.loop-arg-test.true c.arg-item.is c.if-is_none.ensures c.loop-arg.invariant (c.qubit_size.ensures ∙ ap (qubit_size c.args.known.now) c.as_slice.ensures) c.unwrap_or.ensures

pub returns : goal.returns
returns c = applications_none c.args.known.now c.args.args.now c.loop-arg.arg-index c.loop-arg-test.false c.loop-arg.invariant
