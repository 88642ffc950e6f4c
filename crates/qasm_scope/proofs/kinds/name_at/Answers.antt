use Rattle.qasm_scope.proofs.JudgedLemmas.{name_gate, name_opaque, name_call}
use Rattle.qasm_scope.proofs.kinds.name_at.Goals as goal

pub returns-in-Gate : goal.returns-in-Gate
returns-in-Gate c =
    name_gate c.in-Gate.is c.as_slice-params.ensures c.as_slice-args.ensures c.as_slice.ensures c.least_twice.ensures c.least_undeclared-undeclared.ensures c.earlier.ensures

pub returns-in-Opaque : goal.returns-in-Opaque
returns-in-Opaque c =
    name_opaque c.in-Opaque.is c.as_slice-in-Opaque.ensures c.as_slice-in-Opaque-2.ensures c.least_twice-in-Opaque.ensures

pub returns-in-Call : goal.returns-in-Call
returns-in-Call c = name_call c.in-Call.is c.as_slice-in-Call.ensures c.least_other_in.ensures
