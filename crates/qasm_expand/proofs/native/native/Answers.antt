use Rattle.std.proofs.Common.{◌≡◌, List, None, length, ap, subst, sym, ◌∙◌, arith}
use Rattle.std.proofs.lemmas.Result.{err_from_is_err_and}
use Rattle.zac_gates.specs.Ops.{NativeCircuit}
use Rattle.zac_gates.specs.declared.circuit.Op.{Op}
use Rattle.qasm_names.specs.Environment.{environment}
use Rattle.qasm_expand.specs.Expansion.{IsExpansion, top_calls}
use Rattle.qasm_expand.specs.Limits.{passed_before_calls}
use Rattle.zac_gates.specs.Ops.{pairs_in}
use Rattle.qasm_expand.proofs.NativeLemmas.{limit_tells, circuit_is, walked_expansion, expansion_is_valid, never_refused}
use Rattle.qasm_expand.proofs.ProgramLemmas.{walk_few}
use Rattle.qasm_expand.proofs.ReadyLemmas.{header_bare, short_gates}
use Rattle.qasm_expand.proofs.native.native.Goals as goal

pub returns-in_err-refuse-clause-err : goal.returns-in_err-refuse-clause-err
returns-in_err-refuse-clause-err c =
    let r = err_from_is_err_and c.from_residual.result c.from_residual.ensures.1 in
    rw (r.1, r.2) (limit_tells c.args.program.now c.passed_before_calls.result c.in_err-refuse.field-0.0 (c.passed_before_calls.ensures ∙ ap passed_before_calls c.statements-statements.ensures.list) c.in_err-refuse.ensures.err)

pub walk_all-requires-clause-short : goal.walk_all-requires-clause-short
walk_all-requires-clause-short c =
    let p = c.args.program.now in
    let before : passed_before_calls p.statements ≡ None = sym (c.passed_before_calls.ensures ∙ ap passed_before_calls c.statements-statements.ensures.list) ∙ c.in_ok-refuse.ensures.ok in
    short_gates p.header p.statements c.statements-statements.ensures.sound.short before

pub new-circuit-requires : goal.new-circuit-requires
new-circuit-requires c =
    let p = c.args.program.now in
    let w = c.in_ok-walk.ensures.ok in
    let few = walk_few (environment p.header p.statements).gates w.start c.in_ok-walk.walk (top_calls p) w.calls w.ops w.walks in
    omega (arith, few.0, ap (λ (ops : List Op). length ops) c.into_ops.ensures)

pub returns-in-Ok-clause-expansion : goal.returns-in-Ok-clause-expansion
returns-in-Ok-clause-expansion c =
    let p = c.args.program.now in
    let is = circuit_is p.statements c.statements-statements.result.now c.in_ok-registers.registers c.qubit_count.result c.bit_count.result c.into_ops.result c.in_ok-walk.walk.ops.items c.qubit_count.ensures c.bit_count.ensures c.in_ok-registers.ensures c.statements-statements.ensures.list c.into_ops.ensures in
    subst (IsExpansion p) (is ∙ sym c.in-Ok.ensures.ok.0) (walked_expansion p c.in_ok-walk.walk c.in_ok-walk.ensures.ok)

pub returns-in-Ok-clause-few : goal.returns-in-Ok-clause-few
returns-in-Ok-clause-few c =
    let p = c.args.program.now in
    let w = c.in_ok-walk.ensures.ok in
    let few = walk_few (environment p.header p.statements).gates w.start c.in_ok-walk.walk (top_calls p) w.calls w.ops w.walks in
    let ops : c.in-Ok.circuit.ops ≡ c.in_ok-walk.walk.ops.items = ap (λ (x : NativeCircuit). x.ops) c.in-Ok.ensures.ok.0 ∙ c.into_ops.ensures in
    (omega (arith, few.1, ap pairs_in ops), omega (arith, few.0, ap (λ (o : List Op). length o) ops))

pub unreachable-requires : goal.unreachable-requires
unreachable-requires c =
    let p = c.args.program.now in
    let bound = c.gates_are_well_bound.ensures p.header p.statements c.statements-statements.ensures.sound.admissible c.statements-statements.ensures.admissible in
    let is = circuit_is p.statements c.statements-statements.result.now c.in_ok-registers.registers c.qubit_count.result c.bit_count.result c.into_ops.result c.in_ok-walk.walk.ops.items c.qubit_count.ensures c.bit_count.ensures c.in_ok-registers.ensures c.statements-statements.ensures.list c.into_ops.ensures in
    let expansion = subst (IsExpansion p) is (walked_expansion p c.in_ok-walk.walk c.in_ok-walk.ensures.ok) in
    let valid = expansion_is_valid p _ (header_bare p.header c.statements-statements.ensures.sound.admissible) c.statements-statements.ensures.admissible bound expansion in
    never_refused (record { qubits = c.qubit_count.result; bits = c.bit_count.result; ops = c.into_ops.result }) c.in-Err.fault c.in-Op.op c.in-Op.is c.in-Err.ensures.err valid
