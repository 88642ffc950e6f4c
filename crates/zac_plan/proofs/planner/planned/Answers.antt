use Rattle.std.proofs.Common.{◌≡◌, ◌<◌, length, List, sym, ap, ◌∙◌, subst, arith, slice_get}
use Rattle.std.specs.List.{All}
use Rattle.zac_arch.proofs.Geometry.{trap_count_is}
use Rattle.zac_gates.specs.declared.circuit.Op.{Op}
use Rattle.zac_plan.specs.Plan.{gates_at, gates_todo, reads_in, reads_todo}
use Rattle.zac_plan.proofs.Growing.{goes_on_same}
use Rattle.zac_plan.proofs.Planned.{IsWholePlan, does_more, does_none, slot_below, whole_plan}
use Rattle.zac_plan.proofs.planner.planned.Goals as goal
use Rattle.zac_plan.proofs.planner.planned.Goals.{In_ok-add_readout}

pub new-requires-clause-in_range : goal.new-requires-clause-in_range
new-requires-clause-in_range c =
    λ k d within. omega (arith, c.requires.homes.in_storage k d within, trap_count_is c.args.card.now c.figures-figures.ensures.rules)

pub loop-t-init : goal.loop-t-init
loop-t-init c =
    does_none c.args.card.now c.args.circuit.now c.args.stages.now c.args.homes.now c.empty-agenda.result c.in_ok-world.world c.figures-figures.ensures.rules
    c.requires.homes c.openings_are_sound.ensures c.in_ok-world.ensures c.empty-agenda.ensures

pub add_round-requires-clause-seats : goal.add_round-requires-clause-seats
add_round-requires-clause-seats c = c.loop-t.invariant.seats

pub add_round-requires-clause-its_card : goal.add_round-requires-clause-its_card
add_round-requires-clause-its_card c = c.loop-t.invariant.its_card

pub loop-t-preserved : goal.loop-t-preserved
loop-t-preserved c =
    let within : c.loop-t.t < length c.args.stages.now.pairs = omega (arith, c.loop-t-test.true, c.pulses-pulses.ensures.value) in
    does_more c.args.card.now c.args.circuit.now c.args.stages.now c.figures-figures.ensures.rules c.requires.fits c.ops-ops.ensures.valid c.requires.stages c.args.homes.now
    c.loop-t.agenda c.add_round.new.self c.loop-t.world c.add_round.new.world c.loop-t.t c.loop-t.invariant within c.legal_steps_keep_states_sound.ensures.all
    (record { sound = c.jobs_are_sound.ensures.sound; resources = c.job_resources.ensures; moves = c.job_limits.ensures.moves }) c.in_ok-add_round.ensures.ok

pub gates_at-requires : goal.gates_at-requires
gates_at-requires c =
    subst (λ (l : List Op). All (λ k. k < length l) c.gates.result.now) (sym c.ops-ops.ensures.value)
    (slot_below c.args.card.now c.args.circuit.now c.args.stages.now c.figures-figures.ensures.rules c.requires.fits c.ops-ops.ensures.valid c.requires.stages c.pulses-pulses.result c.gates.result.now c.gates.ensures)

whole : (c : In_ok-add_readout) → IsWholePlan c.args.card.now c.args.circuit.now c.args.stages.now c.figures-figures.ensures.rules c.requires.fits c.ops-ops.ensures.valid c.requires.stages c.args.homes.now c.add_readout.new.self.todo.items
whole c =
    let a = c.args.card.now in
    let circuit = c.args.circuit.now in
    let these = c.gates.result.now in
    let value = c.ops-ops.ensures.value in
    let at_end : c.loop-t.t ≡ c.pulses-pulses.result = omega arith in
    let gates = goes_on_same c.loop-t.agenda c.add_gates.new.self (gates_todo c.in_ok-ones.ones.items) (gates_todo (gates_at circuit.ops these))
    (ap gates_todo (c.in_ok-ones.ensures.gates ∙ ap (λ (l : List Op). gates_at l these) value)) c.in_ok-add_gates.ensures.ok in
    let readout = goes_on_same c.add_gates.new.self c.add_readout.new.self (reads_todo c.in_ok-reads.reads.items) (reads_todo (reads_in circuit.ops))
    (ap reads_todo (c.in_ok-reads.ensures.reads ∙ ap reads_in value)) c.in_ok-add_readout.ensures.ok in
    whole_plan a circuit c.args.stages.now c.figures-figures.ensures.rules c.requires.fits c.ops-ops.ensures.valid c.requires.stages c.args.homes.now
    c.loop-t.agenda c.add_gates.new.self c.add_readout.new.self c.loop-t.world c.loop-t.t these c.loop-t.invariant (at_end ∙ c.pulses-pulses.ensures.value)
    (ap (slice_get c.args.stages.now.gates) at_end ∙ c.gates.ensures) gates readout c.legal_steps_keep_states_sound.ensures.all c.requires.few_pairs c.requires.few

pub returns-clause-plan : goal.returns-clause-plan
returns-clause-plan c = (whole (goal.at.returns-clause-plan c).In_ok-add_readout).plan

pub returns-clause-leads : goal.returns-clause-leads
returns-clause-leads c =
    let all = whole (goal.at.returns-clause-leads c).In_ok-add_readout in
    (all.behind, all.lead)

pub returns-clause-in_range : goal.returns-clause-in_range
returns-clause-in_range c = (whole (goal.at.returns-clause-in_range c).In_ok-add_readout).in_range

pub returns-clause-few : goal.returns-clause-few
returns-clause-few c = (whole (goal.at.returns-clause-few c).In_ok-add_readout).few

pub returns-clause-few_steps : goal.returns-clause-few_steps
returns-clause-few_steps c = (whole (goal.at.returns-clause-few_steps c).In_ok-add_readout).few_steps
