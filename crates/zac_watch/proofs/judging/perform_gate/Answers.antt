use Rattle.std.proofs.Common.{List, ◌∷◌, [], ap, refl, subst}
use Rattle.std.proofs.lemmas.Result.{err_from_is_err_and}
use Rattle.zac_gates.specs.declared.circuit.Op.{Op}
use Rattle.zac_gates.specs.declared.circuit.Op.TheVariants as op
use Rattle.zac_gates.specs.Ops.{NativeCircuit}
use Rattle.zac_gates.specs.Checklist.{Checking, CanPerform, IsRefused}
use Rattle.zac_gates.specs.Log.{Entry}
use Rattle.zair_form.specs.declared.step.OneGate.{OneGate}
use Rattle.zac_watch.proofs.PerformFacts.{none_performed, one_more_performed, one_refused}
use Rattle.zac_watch.proofs.judging.perform_gate.Goals as goal

abbrev entry_of : OneGate → Entry
entry_of g = record { op = g.op; what = op.One g.q g.angles }

pub returns-in_err-perform-clause-err : goal.returns-in_err-perform-clause-err
returns-in_err-perform-clause-err c =
    let ops = c.args.circuit.now.ops in
    let log = c.args.checklist.now.log in
    let e = entry_of c.args.gate in
    let fault = c.in_err-perform.field-0.0 in
    let same_ops = ap (λ (n : NativeCircuit). n.ops) c.requires.its_circuit in
    let refused = subst (λ (os : List Op). IsRefused os log e.op e.what fault) same_ops c.in_err-perform.ensures.err.0 in
    let r = err_from_is_err_and c.from_residual.result c.from_residual.ensures.1 in
    rw (r.1, r.2) (one_refused ops log (e ∷ []) log 0 e fault (none_performed ops log c.requires.performable) refl refused)

pub returns-clause-ok : goal.returns-clause-ok
returns-clause-ok c =
    let ops = c.args.circuit.now.ops in
    let log = c.args.checklist.now.log in
    let done = c.in_ok-perform.ensures.ok in
    let e = entry_of c.args.gate in
    let same_ops = ap (λ (n : NativeCircuit). n.ops) c.requires.its_circuit in
    let can = subst (λ (os : List Op). CanPerform os log e.op e.what) same_ops done.0 in
    one_more_performed ops log [] log c.perform.new.self.log e (none_performed ops log c.requires.performable) can (ap (λ (g : Checking). g.log) done.1)
