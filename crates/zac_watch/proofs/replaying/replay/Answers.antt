use Rattle.std.proofs.Common.{ℕ, Some, List, length, ap, sym, ◌∙◌, subst}
use Rattle.std.proofs.lemmas.Result.{err_from_is_err_and}
use Rattle.zac_arch.specs.declared.place.TrapId.{TrapId}
use Rattle.zac_gates.specs.declared.circuit.Op.{Op}
use Rattle.zac_gates.specs.Checklist.{Checking, IsMissing, IsPerformable}
use Rattle.zac_gates.specs.Log.{Realises}
use Rattle.zac_gates.specs.Ops.{NativeCircuit}
use Rattle.zair_form.specs.declared.program.Instr.{Instr}
use Rattle.zair_form.specs.Steps.{homes}
use Rattle.zair_machine.specs.Machine.{IsWrongHome, TellsHome}
use Rattle.zair_state.specs.Least.{IsLeastOf}
use Rattle.zair_state.specs.State.{opening}
use Rattle.zair_state.specs.declared.fault.NewFault.{NewFault}
use Rattle.zac_watch.specs.Replaying.{IsFirstWrongLength, Replays}
use Rattle.zac_watch.proofs.RunFacts.{at_place, none_run}
use Rattle.zac_watch.proofs.ReplayFacts.{fit_of, homes_of_qubits, judged_ended, judged_more, judged_whole, missed, none_judged, replayed}
use Rattle.zac_watch.proofs.replaying.replay.Goals as goal

pub returns-in-Err-Home-clause-err : goal.returns-in-Err-Home-clause-err
returns-in-Err-Home-clause-err c =
    let a = c.args.card.now in
    let traps = c.homes-homes.result.now in
    let counted = c.if-text-from.false ∙ c.from.ensures ∙ c.qubits-source.ensures in
    let told : IsLeastOf (IsWrongHome a traps) (Some c.in-Err-Home.q) = subst (λ (f : NewFault). TellsHome a traps f) c.in-Err-Home.field-0-is c.in-Err-Home.ensures in
    let at_home = subst (λ (l : List TrapId). IsLeastOf (IsWrongHome a l) (Some c.in-Err-Home.q)) c.homes-homes.ensures told in (
      sym (ap length c.homes-homes.ensures) ∙ counted,
      subst (λ (n : ℕ). IsLeastOf (IsWrongHome a (homes c.args.program.now)) (Some n)) (sym c.in-Err-Home.q-is) at_home,
    )

pub returns-in-Some-clause-err : goal.returns-in-Some-clause-err
returns-in-Some-clause-err c =
    let a = c.args.card.now in
    let counted = c.if-text-from.false ∙ c.from.ensures ∙ c.qubits-source.ensures in (
      homes_of_qubits a c.args.circuit.now c.args.program.now c.homes-homes.result.now c.homes-homes.ensures counted c.in-Ok.ensures.1,
      subst (λ (l : List Instr). IsFirstWrongLength a.figures l c.in-Some.instr) c.instrs.ensures.value c.in-Some.ensures,
    )

pub loop-number-init : goal.loop-number-init
loop-number-init c =
    let a = c.args.card.now in
    let named = c.in_ok-order.ensures in
    let machine_is = c.in-Ok.ensures.0 ∙ ap (λ (l : List TrapId). record { card = a; state = opening a l }) c.homes-homes.ensures in
    let checking = c.in_ok-checklist.ensures in
    record {
      same = ap (λ (g : Checking). g.circuit) checking;
      judged = record {
        order = named.0;
        named = named.1;
        places_are = c.as_slice-instr-items.ensures ∙ named.2;
        run = none_run a c.args.program.now named.0 c.in-Ok.machine machine_is;
        log_is = ap (λ (g : Checking). g.log) checking;
        performable = subst (IsPerformable c.args.circuit.now.ops) (sym (ap (λ (g : Checking). g.log) checking)) (none_judged c.args.circuit.now.ops);
      };
    }

pub judge-requires-clause-has : goal.judge-requires-clause-has
judge-requires-clause-has c =
    let so_far = c.loop-number.invariant.judged in
    let found = at_place c.args.card.now.figures c.args.program.now so_far.order c.as_slice-instr-items.result.now c.loop-number.number (0, 0) so_far.named so_far.places_are c.loop-number-test.true in
    (found.step, found.at)

pub returns-in_err-judge-clause-err : goal.returns-in_err-judge-clause-err
returns-in_err-judge-clause-err c =
    let a = c.args.card.now in
    let counted = c.if-text-from.false ∙ c.from.ensures ∙ c.qubits-source.ensures in
    let fit = fit_of a c.args.circuit.now c.args.program.now c.homes-homes.result.now c.instrs.result.now c.homes-homes.ensures counted c.in-Ok.ensures.1 c.instrs.ensures.value c.in_default.ensures in
    let r = err_from_is_err_and c.from_residual-in_err-judge.result c.from_residual-in_err-judge.ensures.1 in
    rw (r.1, r.2)
    (judged_ended a c.args.circuit.now c.args.program.now c.as_slice-instr-items.result.now c.loop-number.number (0, 0) c.loop-number.machine c.loop-number.checklist.log
    c.in_err-judge.field-0.0 c.faults_tell_legal_steps.ensures.legal fit c.loop-number.invariant.judged c.loop-number-test.true c.in_err-judge.ensures.err)

pub loop-number-preserved : goal.loop-number-preserved
loop-number-preserved c = record {
  same = c.judge.ensures.circuit;
  judged = judged_more c.args.card.now c.args.circuit.now.ops c.args.program.now c.as_slice-instr-items.result.now c.loop-number.number (0, 0) c.loop-number.machine c.judge.new.machine
      c.loop-number.checklist.log c.judge.new.checklist.log c.loop-number.invariant.judged c.loop-number-test.true c.in_ok-judge.ensures.ok;
}

pub returns-in-Some-complete-clause-err : goal.returns-in-Some-complete-clause-err
returns-in-Some-complete-clause-err c =
    let a = c.args.card.now in
    let log = c.loop-number.checklist.log in
    let counted = c.if-text-from.false ∙ c.from.ensures ∙ c.qubits-source.ensures in
    let fit = fit_of a c.args.circuit.now c.args.program.now c.homes-homes.result.now c.instrs.result.now c.homes-homes.ensures counted c.in-Ok.ensures.1 c.instrs.ensures.value c.in_default.ensures in
    let judged = judged_whole a c.args.circuit.now c.args.program.now c.as_slice-instr-items.result.now c.loop-number.number c.loop-number.machine log fit
    c.loop-number.invariant.judged c.loop-number-test.false in
    let same_ops = ap (λ (n : NativeCircuit). n.ops) c.loop-number.invariant.same in
    missed a c.args.circuit.now c.args.program.now c.as_slice-instr-items.result.now log c.in-Some-complete.op judged
    (subst (λ (os : List Op). IsMissing os log c.in-Some-complete.op) same_ops c.in-Some-complete.ensures)

pub returns-clause-ok : goal.returns-clause-ok
returns-clause-ok c =
    let a = c.args.card.now in
    let log = c.loop-number.checklist.log in
    let counted = c.if-text-from.false ∙ c.from.ensures ∙ c.qubits-source.ensures in
    let fit = fit_of a c.args.circuit.now c.args.program.now c.homes-homes.result.now c.instrs.result.now c.homes-homes.ensures counted c.in-Ok.ensures.1 c.instrs.ensures.value c.in_default.ensures in
    let judged = judged_whole a c.args.circuit.now c.args.program.now c.as_slice-instr-items.result.now c.loop-number.number c.loop-number.machine log fit
    c.loop-number.invariant.judged c.loop-number-test.false in
    let same_ops = ap (λ (n : NativeCircuit). n.ops) c.loop-number.invariant.same in
    let places = c.as_slice-instr-items.ensures ∙ sym c.as_slice.ensures in
    subst (λ l. Replays a c.args.circuit.now c.args.program.now (length l)) places
    (replayed a c.args.circuit.now c.args.program.now c.as_slice-instr-items.result.now log judged (subst (λ (os : List Op). Realises os log) same_ops c.in-None.ensures))
