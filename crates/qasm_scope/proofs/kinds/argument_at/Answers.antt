use Rattle.std.proofs.Common.{List, subst}
use Rattle.qasm_form.specs.declared.stmt.Arg.{Arg}
use Rattle.qasm_scope.specs.declared.arguments.Register.TheVariants as register
use Rattle.qasm_scope.specs.Judged.{HasArgFaultAt}
use Rattle.qasm_scope.specs.Least.{IsLeastOffset}
use Rattle.qasm_scope.proofs.LeastLemmas.{either_least}
use Rattle.qasm_scope.proofs.kinds.argument_at.Goals as goal

pub returns : goal.returns
returns c =
    let qubits = subst (λ (args : List Arg). IsLeastOffset (HasArgFaultAt c.args.known.now register.Qubits c.args.fault args) c.least_arg.result) c.qubit_args.ensures c.least_arg.ensures in
    let bits = subst (λ (args : List Arg). IsLeastOffset (HasArgFaultAt c.args.known.now register.Bits c.args.fault args) c.least_arg-2.result) c.bit_args.ensures c.least_arg-2.ensures in
    either_least qubits bits c.earlier.ensures
