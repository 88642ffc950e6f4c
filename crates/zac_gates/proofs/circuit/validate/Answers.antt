use Rattle.std.proofs.Common.{List, subst}
use Rattle.std.proofs.lemmas.Option.{MatchOption-at_none, MatchOption-at_some}
use Rattle.zac_gates.specs.declared.circuit.Op.{Op}
use Rattle.zac_gates.specs.Ops.{NativeCircuit, IsValid, IsFirstInvalid}
use Rattle.zac_gates.proofs.circuit.validate.Goals as goal

pub returns-in-Some-clause-err : goal.returns-in-Some-clause-err
returns-in-Some-clause-err c =
    let of : List Op → NativeCircuit = λ ops. record { qubits = c.args.qubits; bits = c.args.bits; ops = ops } in
    let seen = of c.as_slice.result.now in
    subst (λ (ops : List Op). IsFirstInvalid (of ops) c.in-Some.op) c.as_slice.ensures
    (MatchOption-at_some (IsValid seen) (IsFirstInvalid seen) c.in-Some.op c.in-Some.is c.in_ok-op.ensures)

pub returns-in-None-clause-ok : goal.returns-in-None-clause-ok
returns-in-None-clause-ok c =
    let of : List Op → NativeCircuit = λ ops. record { qubits = c.args.qubits; bits = c.args.bits; ops = ops } in
    let seen = of c.as_slice.result.now in
    subst (λ (ops : List Op). IsValid (of ops)) c.as_slice.ensures
    (MatchOption-at_none (IsValid seen) (IsFirstInvalid seen) c.in-None.is c.in_ok-op.ensures)
