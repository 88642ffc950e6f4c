use Rattle.std.proofs.Common.{◌≡◌, ℕ, ◌∙◌, List, ap, sym}
use Rattle.std.proofs.lemmas.Result.{on_ok_weaker}
use Rattle.zac_group.specs.declared.shift.Shift.{Shift}
use Rattle.zac_world.specs.Places.{Places}
use Rattle.zac_plan.specs.Plan.{after_shifts, places, shifts_to}
use Rattle.zac_plan.specs.Seats.{rests_in}
use Rattle.zac_plan.proofs.Returns.{can_go_home, ends_home, few_leave, grows_home, phase_home}
use Rattle.zac_plan.proofs.agenda.Agenda.add_returns.Goals as goal
use Rattle.zac_plan.proofs.agenda.Agenda.add_returns.Goals.{In_ok-shifts}

pub return_targets-requires-clause-few : goal.return_targets-requires-clause-few
return_targets-requires-clause-few c =
    few_leave c.args.card.now c.args.ops.now c.args.world.now c.args.before.now c.args.kept.now c.requires.its_card c.requires.can_return
    c.deref.result.now (c.deref.ensures.value ∙ c.in_ok-leaving.ensures.leaving)

-- the moves are those of the leaving qubits to what is placed
listed : (c : In_ok-shifts) → c.in_ok-shifts.shifts.items ≡ shifts_to (rests_in c.args.world.now) c.deref.result.now c.in_ok-targets.targets
listed c =
    let rests = rests_in c.args.world.now in
    c.in_ok-shifts.ensures.shifts
    ∙ ap (λ (l : List ℕ). shifts_to rests l c.as_slice.result.now) (c.deref-2.ensures.value ∙ sym c.deref.ensures.value)
    ∙ ap (shifts_to rests c.deref.result.now) c.as_slice.ensures

pub put_all-requires-clause-can_make : goal.put_all-requires-clause-can_make
put_all-requires-clause-can_make c =
    can_go_home c.args.card.now c.args.ops.now c.args.world.now c.args.before.now c.args.kept.now c.requires.its_card c.requires.can_return
    c.deref.result.now (c.deref.ensures.value ∙ c.in_ok-leaving.ensures.leaving) c.in_ok-targets.targets c.in_ok-targets.ensures.placing
    c.deref-3.result.now (c.deref-3.ensures.value ∙ listed (goal.at.put_all-requires-clause-can_make c).In_ok-shifts)

pub put_all-requires-clause-targets : goal.put_all-requires-clause-targets
put_all-requires-clause-targets c =
    ends_home c.args.card.now c.args.ops.now c.args.world.now c.args.before.now c.args.kept.now c.requires.its_card c.requires.can_return
    c.deref.result.now (c.deref.ensures.value ∙ c.in_ok-leaving.ensures.leaving) c.in_ok-targets.targets c.in_ok-targets.ensures.placing
    c.deref-3.result.now (c.deref-3.ensures.value ∙ listed (goal.at.put_all-requires-clause-targets c).In_ok-shifts)

pub add_jobs-requires : goal.add_jobs-requires
add_jobs-requires c = record {
  phase = phase_home c.args.card.now c.args.ops.now c.args.world.now c.args.before.now c.args.kept.now c.requires.its_card c.requires.can_return
      c.deref.result.now (c.deref.ensures.value ∙ c.in_ok-leaving.ensures.leaving) c.in_ok-targets.targets c.in_ok-targets.ensures.placing
      c.of.result (c.of.ensures ∙ listed (goal.at.add_jobs-requires c).In_ok-shifts);
}

pub returns : goal.returns
returns c =
    let behind : List Shift → Places = λ shifts. places c.args.world.now.architecture (after_shifts (rests_in c.args.world.now) shifts) in
    record {
      ok = on_ok_weaker c.add_jobs.result
          (grows_home c.args.card.now c.args.ops.now c.args.world.now c.args.before.now c.args.kept.now c.requires.its_card c.requires.can_return
          c.deref.result.now (c.deref.ensures.value ∙ c.in_ok-leaving.ensures.leaving) c.in_ok-targets.targets c.in_ok-targets.ensures.placing
          c.of.result (c.of.ensures ∙ listed (goal.at.returns c).In_ok-shifts) c.args.self.now c.add_jobs.new.self c.put_all.new.world c.in_ok-targets.ensures.least
          (c.put_all.ensures ∙ ap behind (c.deref-3.ensures.value ∙ sym c.of.ensures)))
          c.add_jobs.ensures.ok;
    }
