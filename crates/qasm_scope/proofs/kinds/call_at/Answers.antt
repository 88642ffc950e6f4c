use Rattle.std.proofs.Common.{List, subst}
use Rattle.qasm_form.specs.declared.stmt.BodyOp.{BodyOp}
use Rattle.qasm_scope.specs.Judged.{HasCallFaultAt}
use Rattle.qasm_scope.specs.Least.{IsLeastOffset}
use Rattle.qasm_scope.proofs.kinds.call_at.Goals as goal

pub returns : goal.returns
returns c =
    subst (λ (calls : List BodyOp). IsLeastOffset (HasCallFaultAt c.args.known.now c.args.fault calls) c.least_call.result) c.calls_in.ensures c.least_call.ensures
