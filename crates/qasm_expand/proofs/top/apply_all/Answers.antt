use Rattle.std.proofs.Common.{rules, ◌≡◌, ◌<◌, ◌∷◌, [], map, ap, subst, sym, ◌∙◌}
use Rattle.std.specs.List.{AllByRecursion}
use Rattle.std.proofs.lemmas.Result.{err_from_is_err_and}
use Rattle.qasm_form.specs.declared.stmt.Arg.{Arg}
use Rattle.qasm_names.specs.Applications.{applications, applied}
use Rattle.qasm_expand.specs.Calls.{at_depth}
use Rattle.qasm_expand.specs.Items.{Item, application, qubit_number}
use Rattle.qasm_expand.specs.RegisterKinds.{IsPlaceIn}
use Rattle.qasm_expand.specs.Sized.{sized}
use Rattle.qasm_expand.specs.Top.{visits_of}
use Rattle.qasm_expand.specs.Walks.{Walks, Passes}
use Rattle.qasm_expand.specs.declared.kind.RegisterKind.TheVariants as register
use Rattle.qasm_expand.proofs.TopCalls.{walks_more, walks_fails, memory_passes, application_is}
use Rattle.qasm_expand.proofs.WalksLemmas.{walks_none}
use Rattle.qasm_expand.proofs.top.apply_all.Goals as goal

pub loop-k-init : goal.loop-k-init
loop-k-init c = walks_none c.args.gates.now c.args.walk.now

pub qubits-requires : goal.qubits-requires
qubits-requires c =
    let less : c.loop-k.k < applications (sized c.args.registers.now) c.args.call.now.args = subst (λ n. c.loop-k.k < n) (c.applications-k-end.ensures ∙ ap (applications (sized c.args.registers.now)) c.as_slice-args.ensures) c.loop-k-test.true in
    let placed : AllByRecursion (λ (arg : Arg). IsPlaceIn register.Qubit c.args.registers.now (applied arg c.loop-k.k)) c.as_slice-args.result.now =
    subst (AllByRecursion (λ (arg : Arg). IsPlaceIn register.Qubit c.args.registers.now (applied arg c.loop-k.k))) (sym c.as_slice-args.ensures) (c.requires.places c.loop-k.k less) in
    search (rules, placed)

pub returns-in_err-qubits-clause-err : goal.returns-in_err-qubits-clause-err
returns-in_err-qubits-clause-err c =
    let p = err_from_is_err_and c.from_residual.result c.from_residual.ensures.1 in
    rw p.1 (memory_passes c.args.gates.now c.args.walk.now (visits_of c.args.registers.now c.args.target c.args.call.now) p.0 p.2)

pub returns-in_err-apply-clause-err : goal.returns-in_err-apply-clause-err
returns-in_err-apply-clause-err c =
    let all = c.args.registers.now in
    let call = c.args.call.now in
    let f = application all c.args.target call in
    let p = err_from_is_err_and c.from_residual-in_err-apply.result c.from_residual-in_err-apply.ensures.1 in
    let less : c.loop-k.k < applications (sized all) call.args = subst (λ n. c.loop-k.k < n) (c.applications-k-end.ensures ∙ ap (applications (sized all)) c.as_slice-args.ensures) c.loop-k-test.true in
    let numbers : c.in_ok-qubits.qubits.items ≡ map (λ (arg : Arg). qubit_number all (applied arg c.loop-k.k)) c.as_slice-args.result.now = search rules in
    let is = application_is all c.args.target call c.loop-k.k c.as_slice.result.now c.in_ok-qubits.qubits.items c.as_slice-args.result.now c.as_slice.ensures c.as_slice-args.ensures numbers in
    let fails : Passes c.args.gates.now c.loop-k.walk (at_depth 1 (f c.loop-k.k ∷ [])) c.in_err-apply.field-0.0 = subst (λ (i : Item). Passes c.args.gates.now c.loop-k.walk (at_depth 1 (i ∷ [])) c.in_err-apply.field-0.0) is c.in_err-apply.ensures.err in
    rw (p.1, p.2) (walks_fails c.args.gates.now c.args.walk.now c.loop-k.walk f c.loop-k.k (applications (sized all) call.args) c.in_err-apply.field-0.0 less c.loop-k.invariant fails)

pub loop-k-preserved : goal.loop-k-preserved
loop-k-preserved c =
    let all = c.args.registers.now in
    let call = c.args.call.now in
    let f = application all c.args.target call in
    let numbers : c.in_ok-qubits.qubits.items ≡ map (λ (arg : Arg). qubit_number all (applied arg c.loop-k.k)) c.as_slice-args.result.now = search rules in
    let is = application_is all c.args.target call c.loop-k.k c.as_slice.result.now c.in_ok-qubits.qubits.items c.as_slice-args.result.now c.as_slice.ensures c.as_slice-args.ensures numbers in
    let walks : Walks c.args.gates.now c.loop-k.walk c.apply.new.self (at_depth 1 (f c.loop-k.k ∷ [])) = subst (λ (i : Item). Walks c.args.gates.now c.loop-k.walk c.apply.new.self (at_depth 1 (i ∷ []))) is c.in_ok-apply.ensures.ok in
    walks_more c.args.gates.now c.args.walk.now c.loop-k.walk c.apply.new.self f c.loop-k.k c.loop-k.invariant walks
