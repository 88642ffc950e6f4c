use Rattle.std.proofs.Common.{◌≡◌, [], ◌∷◌, ◌<◌, ◌∙◌, List, length, arith, sym, ap, subst}
use Rattle.std.specs.List.{All}
use Rattle.std.proofs.lemmas.Option.{get_or_from_slice_get}
use Rattle.zac_sched.specs.declared.todo.Todo.TheVariants.{Rydberg}
use Rattle.zair_form.specs.declared.step.PairOf.{PairOf}
use Rattle.zac_arch.specs.declared.place.TrapId.{TrapId}
use Rattle.zac_gates.specs.declared.circuit.Op.{Op}
use Rattle.zac_plan.specs.Growth.{GrowsByArrivals, numbers_at, pulse_before}
use Rattle.zac_plan.specs.Plan.{after_shifts, gates_todo, gates_at, leaving, pairs_at, shifts_to}
use Rattle.zac_plan.proofs.Arriving.{can_arrive}
use Rattle.zac_plan.proofs.Growing.{goes_on_same}
use Rattle.zac_plan.proofs.Worlds.{rests_of_places}
use Rattle.zac_plan.specs.Seats.{CanArrive, rests_in}
use Rattle.zac_plan.proofs.Leaving.{cleared, held_are_kept}
use Rattle.zac_plan.proofs.Planned.{fits_before, fits_now, pulse_below, slot_below}
use Rattle.zac_plan.proofs.PulsePairs.{pairs_before, pairs_now}
use Rattle.zac_plan.proofs.RoundGrowth.{grows_by_round}
use Rattle.zac_plan.proofs.agenda.Agenda.add_round.Goals as goal

pub gates_at-requires : goal.gates_at-requires
gates_at-requires c =
    subst (λ (l : List Op). All (λ k. k < length l) c.gates.result.now) (sym c.ops-ops.ensures.value)
    (slot_below c.args.card.now c.args.circuit.now c.args.stages.now c.figures-figures.ensures.rules c.requires.fits c.ops-ops.ensures.valid c.requires.stages c.args.t c.gates.result.now c.gates.ensures)

pub pairs_at-requires : goal.pairs_at-requires
pairs_at-requires c =
    subst (λ (l : List Op). All (λ k. k < length l) c.pairs.result.now) (sym c.ops-ops.ensures.value)
    (pulse_below c.args.card.now c.args.circuit.now c.args.stages.now c.figures-figures.ensures.rules c.requires.fits c.ops-ops.ensures.valid c.requires.stages c.args.t c.pairs.result.now c.pairs.ensures)

pub add_arrivals-requires-clause-can_arrive : goal.add_arrivals-requires-clause-can_arrive
add_arrivals-requires-clause-can_arrive c =
    let a = c.args.card.now in
    let n = c.args.circuit.now.qubits in
    let ops = c.args.circuit.now.ops in
    let rules = c.figures-figures.ensures.rules in
    let from = rests_in c.args.world.now in
    let before = pulse_before c.args.stages.now.pairs c.args.t in
    let pulse = numbers_at c.args.stages.now.pairs c.args.t in
    let pulse_is : pulse ≡ c.pairs.result.now = get_or_from_slice_get c.args.stages.now.pairs c.args.t c.pairs.result.now [] c.pairs.ensures in
    let pairs_are : c.in_ok-pairs.pairs.items ≡ pairs_at ops pulse =
    c.in_ok-pairs.ensures.pairs ∙ ap (λ (l : List Op). pairs_at l c.pairs.result.now) c.ops-ops.ensures.value ∙ ap (pairs_at ops) (sym pulse_is) in
    let sent = c.in_ok-send_home.ensures.ok in
    let here = fits_before a c.args.circuit.now c.args.stages.now rules c.requires.fits c.ops-ops.ensures.valid c.requires.stages c.args.t (omega arith) in
    let next = fits_now a c.args.circuit.now c.args.stages.now rules c.requires.fits c.ops-ops.ensures.valid c.requires.stages c.args.t c.requires.t_in in
    let shifts = shifts_to from (leaving ops (pairs_at ops before) sent.kept) sent.grows.targets in
    let there : rests_in c.send_home.new.world ≡ after_shifts from shifts = ap rests_in sent.grows.moved ∙ rests_of_places a (after_shifts from shifts) in
    let can = can_arrive a rules n c.requires.fits (after_shifts from shifts) (pairs_at ops pulse) next
    (cleared a rules n c.requires.fits ops from before pulse sent.kept sent.keeping here next c.requires.seats sent.grows.targets sent.grows.chosen.placing) in
    subst (λ (l : List PairOf). CanArrive a (rests_in c.send_home.new.world) l) (sym (c.deref.ensures.value ∙ pairs_are))
    (subst (λ (l : List TrapId). CanArrive a l (pairs_at ops pulse)) (sym there) can)

pub returns : goal.returns
returns c =
    let a = c.args.card.now in
    let ops = c.args.circuit.now.ops in
    let value = c.ops-ops.ensures.value in
    let slot = numbers_at c.args.stages.now.gates c.args.t in
    let pulse = numbers_at c.args.stages.now.pairs c.args.t in
    let slot_is : slot ≡ c.gates.result.now = get_or_from_slice_get c.args.stages.now.gates c.args.t c.gates.result.now [] c.gates.ensures in
    let pulse_is : pulse ≡ c.pairs.result.now = get_or_from_slice_get c.args.stages.now.pairs c.args.t c.pairs.result.now [] c.pairs.ensures in
    let pairs_are : c.in_ok-pairs.pairs.items ≡ pairs_at ops pulse =
    c.in_ok-pairs.ensures.pairs ∙ ap (λ (l : List Op). pairs_at l c.pairs.result.now) value ∙ ap (pairs_at ops) (sym pulse_is) in
    let gates_are = c.in_ok-ones.ensures.gates ∙ ap (λ (l : List Op). gates_at l c.gates.result.now) value ∙ ap (gates_at ops) (sym slot_is) in
    let gates = goes_on_same c.args.self.now c.add_gates.new.self (gates_todo c.in_ok-ones.ones.items) (gates_todo (gates_at ops slot)) (ap gates_todo gates_are) c.in_ok-add_gates.ensures.ok in
    let came =
    subst (λ (l : List PairOf). GrowsByArrivals a l c.send_home.new.self c.add_arrivals.new.self c.send_home.new.world c.add_arrivals.new.world) (c.deref.ensures.value ∙ pairs_are) c.in_ok-add_arrivals.ensures.ok in
    let pulsed = goes_on_same c.add_arrivals.new.self c.add_pulse.new.self (Rydberg c.in_ok-pairs.pairs.items ∷ []) (Rydberg (pairs_at ops pulse) ∷ []) (ap (λ (l : List PairOf). Rydberg l ∷ []) pairs_are) c.in_ok-add_pulse.ensures.ok in
    let before = pulse_before c.args.stages.now.pairs c.args.t in
    let sent = c.in_ok-send_home.ensures.ok in
    record {
      ok = grows_by_round a ops before slot pulse c.args.self.now c.add_gates.new.self c.send_home.new.self c.add_arrivals.new.self c.add_pulse.new.self
          c.args.world.now c.send_home.new.world c.add_arrivals.new.world gates sent came pulsed
          (held_are_kept a c.figures-figures.ensures.rules c.args.circuit.now.qubits c.requires.fits ops (rests_in c.args.world.now) before pulse sent.kept sent.keeping
          (fits_before a c.args.circuit.now c.args.stages.now c.figures-figures.ensures.rules c.requires.fits c.ops-ops.ensures.valid c.requires.stages c.args.t (omega arith))
          (fits_now a c.args.circuit.now c.args.stages.now c.figures-figures.ensures.rules c.requires.fits c.ops-ops.ensures.valid c.requires.stages c.args.t c.requires.t_in)
          c.requires.seats (pairs_before a c.args.circuit.now c.args.stages.now c.requires.stages c.args.t) (pairs_now a c.args.circuit.now c.args.stages.now c.requires.stages c.args.t)
          sent.grows.targets sent.grows.chosen.placing);
    }
