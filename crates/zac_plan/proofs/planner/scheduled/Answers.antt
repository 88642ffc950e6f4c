use Rattle.std.proofs.Common.{◌≤◌, ◌*◌, List, length, refl, subst, sym}
use Rattle.std.specs.List.{All, AllByRecursion}
use Rattle.std.proofs.lemmas.List.Elements.{All-from_recursion}
use Rattle.zac_arch.proofs.Geometry.{figure_ranges}
use Rattle.zac_sched.specs.Exchange.{IsTidyProgram}
use Rattle.zac_sched.specs.Schedule.{IsSchedule}
use Rattle.zac_sched.specs.Todos.{IsOfCard, NamesQubitsBelow, steps_in_all}
use Rattle.zac_sched.specs.declared.todo.Todo.{Todo}
use Rattle.zair_form.specs.Ranges.{ProgramFits}
use Rattle.zair_form.specs.declared.program.Instr.{Instr}
use Rattle.zair_state.specs.Resources.{AreApart}
use Rattle.zac_plan.specs.Growth.{FitsOnEach}
use Rattle.zac_plan.specs.Leading.{LeadOn}
use Rattle.zac_plan.specs.Plan.{IsPlan}
use Rattle.zac_plan.proofs.Performing.{all_named, all_of_card, are_homes, both_ok, by_names, schedule_fits, schedule_is_tidy}
use Rattle.zac_plan.proofs.Planned.{homes_fit}
use Rattle.zac_plan.proofs.planner.scheduled.Goals as goal
use Rattle.zac_plan.proofs.planner.scheduled.Goals.{After-of}

-- what is to be done leads on from the homes
lead : (c : After-of) → LeadOn c.args.card.now c.in_ok-homes.homes c.of.result c.in_ok-agenda.ensures.leads.0
lead c =
    by_names (λ homes todo. LeadOn c.args.card.now homes todo c.in_ok-agenda.ensures.leads.0) c.in_ok-homes.homes c.as_slice.result.now c.of.result
    c.in_ok-agenda.agenda.todo.items c.as_slice.ensures c.of.ensures c.in_ok-agenda.ensures.leads.1

pub schedule-requires-clause-cards : goal.schedule-requires-clause-cards
schedule-requires-clause-cards c =
    let a = c.args.card.now in
    All-from_recursion (IsOfCard a) c.of.result
    (all_of_card a c.in_ok-homes.homes c.in_ok-agenda.ensures.leads.0 c.of.result (lead (goal.at.schedule-requires-clause-cards c).After-of))

pub schedule-requires-clause-qubits : goal.schedule-requires-clause-qubits
schedule-requires-clause-qubits c =
    let homes = c.in_ok-homes.homes in
    All-from_recursion (NamesQubitsBelow (length homes)) c.of.result
    (all_named c.args.card.now (length homes) homes c.in_ok-agenda.ensures.leads.0 c.of.result refl (lead (goal.at.schedule-requires-clause-qubits c).After-of))

pub returns-clause-tidy : goal.returns-clause-tidy
returns-clause-tidy c =
    let a = c.args.card.now in
    let circuit = c.args.circuit.now in
    let stages = c.args.stages.now in
    let homes = c.in_ok-homes.homes in
    let plan =
    by_names (λ homes todo. IsPlan a circuit homes stages.gates stages.pairs todo) homes c.as_slice.result.now c.of.result
    c.in_ok-agenda.agenda.todo.items c.as_slice.ensures c.of.ensures c.in_ok-agenda.ensures.plan in
    let leads = lead (goal.at.returns-clause-tidy c).After-of in
    both_ok (IsSchedule a homes c.of.result) (AreApart a) (IsTidyProgram a circuit) c.schedule.result
    (λ program is apart.
    schedule_is_tidy a homes c.of.result program is circuit stages c.requires.stages plan c.in_ok-agenda.ensures.leads.0 leads (are_homes a circuit.qubits homes c.in_ok-homes.ensures.apart) apart)
    c.schedule.ensures.schedule c.schedule.ensures.apart

pub returns-clause-ranges : goal.returns-clause-ranges
returns-clause-ranges c =
    let a = c.args.card.now in
    let homes = c.in_ok-homes.homes in
    let rules = c.figures-figures.ensures.rules in
    let fits = subst (AllByRecursion FitsOnEach) (sym c.of.ensures) c.in_ok-agenda.ensures.in_range in
    let few : steps_in_all c.of.result ≤ 16000000 = subst (λ (l : List Todo). steps_in_all l ≤ 16000000) (sym c.of.ensures) c.in_ok-agenda.ensures.few_steps in
    let steps = steps_in_all c.of.result in
    both_ok (IsSchedule a homes c.of.result) (All (λ (i : Instr). (i.begin ≤ i.end) × (i.end ≤ 1000000000 * steps))) ProgramFits c.schedule.result
    (λ program is ends.
    schedule_fits a homes c.of.result program is (figure_ranges a rules).aods_most (homes_fit a rules homes c.in_ok-homes.ensures.apart.in_storage) fits steps few ends)
    c.schedule.ensures.schedule c.schedule.ensures.ends
