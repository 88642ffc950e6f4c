use Rattle.qasm_scope.proofs.JudgedLemmas.{repeated_gate}
use Rattle.qasm_scope.proofs.kinds.repeated_at.Goals as goal

pub returns-in-Gate : goal.returns-in-Gate
returns-in-Gate c =
    repeated_gate c.args.known.now c.in-Gate.is c.as_slice-in-Gate.ensures c.least_call.ensures
