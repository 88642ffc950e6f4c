use Rattle.std.proofs.Common.{ℕ, Some, List, ap, sym, ◌∙◌, subst}
use Rattle.std.proofs.lemmas.Result.{err_from_is_err_and}
use Rattle.zac_arch.specs.declared.place.TrapId.{TrapId}
use Rattle.zair_form.specs.Steps.{homes}
use Rattle.zair_machine.specs.Machine.{IsWrongHome, TellsHome}
use Rattle.zair_state.specs.Least.{IsLeastOf}
use Rattle.zair_state.specs.State.{opening}
use Rattle.zair_state.specs.declared.fault.NewFault.{NewFault}
use Rattle.zac_watch.proofs.RunFacts.{at_place, none_run, right_homes}
use Rattle.zac_watch.proofs.ShownFacts.{nothing_shown}
use Rattle.zac_watch.proofs.WatchFacts.{watch_ended, watch_more, watch_whole}
use Rattle.zac_watch.proofs.watching.watched.Goals as goal

pub returns-in-Err-Home-clause-err : goal.returns-in-Err-Home-clause-err
returns-in-Err-Home-clause-err g c =
    let a = c.args.card.now in
    let traps = c.homes.result.now in
    let told : IsLeastOf (IsWrongHome a traps) (Some c.in-Err-Home.q) = subst (λ (f : NewFault). TellsHome a traps f) c.in-Err-Home.field-0-is c.in-Err-Home.ensures in
    let at_home = subst (λ (l : List TrapId). IsLeastOf (IsWrongHome a l) (Some c.in-Err-Home.q)) c.homes.ensures told in
    (subst (λ (n : ℕ). IsLeastOf (IsWrongHome a (homes c.args.program.now)) (Some n)) (sym c.in-Err-Home.q-is) at_home, nothing_shown _ _ _)

pub loop-number-init : goal.loop-number-init
loop-number-init g c =
    let a = c.args.card.now in
    let named = c.in_ok-order.ensures in
    let machine_is = c.in-Ok.ensures.0 ∙ ap (λ (l : List TrapId). record { card = a; state = opening a l }) c.homes.ensures in
    record {
      order = named.0;
      named = named.1;
      places_are = c.as_slice-instr-items.ensures ∙ named.2;
      run = none_run a c.args.program.now named.0 c.in-Ok.machine machine_is;
      shown = nothing_shown _ _ _;
    }

pub show_at-requires : goal.show_at-requires
show_at-requires g c =
    let so_far = c.loop-number.invariant in
    let found = at_place c.args.card.now.figures c.args.program.now so_far.order c.as_slice-instr-items.result.now c.loop-number.number (0, 0) so_far.named so_far.places_are c.loop-number-test.true in
    (found.step, found.at)

pub loop-number-preserved : goal.loop-number-preserved
loop-number-preserved g c =
    watch_more _ _ c.args.panel.now.items c.loop-number.panel.items c.show_at.new.panel.items c.args.card.now c.args.program.now c.as_slice-instr-items.result.now
    c.loop-number.number (0, 0) c.loop-number.machine c.show_at.new.machine c.loop-number.invariant c.loop-number-test.true c.in_ok-show_at.ensures.ok

pub returns-in_err-show_at-clause-err : goal.returns-in_err-show_at-clause-err
returns-in_err-show_at-clause-err g c =
    let a = c.args.card.now in
    let right = subst (λ (l : List TrapId). (q : ℕ) → ¬ IsWrongHome a l q) c.homes.ensures c.in-Ok.ensures.1 in
    let r = err_from_is_err_and c.from_residual-in_err-show_at.result c.from_residual-in_err-show_at.ensures.1 in
    rw (r.1, r.2)
    (watch_ended _ _ c.args.panel.now.items c.loop-number.panel.items c.show_at.new.panel.items a c.args.program.now c.as_slice-instr-items.result.now
    c.loop-number.number (0, 0) c.loop-number.machine c.in_err-show_at.field-0.0 c.faults_tell_legal_steps.ensures.legal (right_homes a (homes c.args.program.now) right) c.loop-number.invariant c.loop-number-test.true c.in_err-show_at.ensures.err)

pub returns-clause-ok : goal.returns-clause-ok
returns-clause-ok g c =
    let a = c.args.card.now in
    let right = subst (λ (l : List TrapId). (q : ℕ) → ¬ IsWrongHome a l q) c.homes.ensures c.in-Ok.ensures.1 in
    watch_whole _ _ c.args.panel.now.items c.loop-number.panel.items a c.args.program.now c.as_slice-instr-items.result.now c.loop-number.number c.loop-number.machine
    (right_homes a (homes c.args.program.now) right) c.loop-number.invariant c.loop-number-test.false
