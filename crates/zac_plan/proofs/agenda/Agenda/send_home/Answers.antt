use Rattle.std.proofs.Common.{◌≡◌, ◌∙◌, ◌<◌, ◌-◌, List, ap, arith, length, subst, sym}
use Rattle.std.specs.List.{All}
use Rattle.std.proofs.lemmas.Result.{on_ok_weaker}
use Rattle.zac_gates.specs.declared.circuit.Op.{Op}
use Rattle.zac_reuse.specs.Keeping.{IsGreatest, IsKeeping}
use Rattle.zac_plan.specs.Growth.{numbers_at, pulse_before}
use Rattle.zac_plan.specs.Plan.{pairs_at}
use Rattle.zac_plan.specs.Seats.{rests_in}
use Rattle.zac_plan.proofs.Leaving.{can_return}
use Rattle.zac_plan.proofs.Planned.{fits_before, fits_now, pulse_below}
use Rattle.zac_plan.proofs.SentHome.{can_return_by_names, found_before, grows_by_names, kept_in, none_leave_at_first, of_both}
use Rattle.zac_plan.proofs.agenda.Agenda.send_home.Goals as goal
use Rattle.zac_plan.proofs.agenda.Agenda.send_home.Goals.{After-as_slice}

pub returns-then-t-eq0 : goal.returns-then-t-eq0
returns-then-t-eq0 c = record {
  ok = none_leave_at_first c.args.card.now c.args.circuit.now.ops c.args.stages.now.pairs c.args.t (numbers_at c.args.stages.now.pairs c.args.t)
      c.args.self.now c.args.world.now (omega arith) c.requires.its_card;
}

pub pairs_at-requires : goal.pairs_at-requires
pairs_at-requires c =
    subst (λ (l : List Op). All (λ n. n < length l) c.pairs.result.now) (sym c.ops-ops.ensures.value)
    (pulse_below c.args.card.now c.args.circuit.now c.args.stages.now c.figures-figures.ensures.rules c.requires.fits c.ops-ops.ensures.valid
    c.requires.stages (c.args.t - 1) c.pairs.result.now c.pairs.ensures)

pub add_returns-requires-clause-kept_in : goal.add_returns-requires-clause-kept_in
add_returns-requires-clause-kept_in c =
    subst (λ (l : List Op). All (λ k. (k.0 < length l) × (k.1 < length l)) c.as_slice.result.now) (sym c.ops-ops.ensures.value)
    (subst (All (λ k. (k.0 < length c.args.circuit.now.ops) × (k.1 < length c.args.circuit.now.ops))) (sym c.as_slice.ensures)
    (kept_in c.args.circuit.now.ops _ _ c.in_ok-kept.kept.pairs c.in_ok-kept.ensures.keeping))

-- the numbers that are read are those of the pulse before
its_numbers : (c : After-as_slice) → c.pairs.result.now ≡ pulse_before c.args.stages.now.pairs c.args.t
its_numbers c = found_before c.args.stages.now.pairs c.args.t c.pairs.result.now (λ e. omega arith) c.pairs.ensures

-- and the pairs are its pairs
its_pairs : (c : After-as_slice) → c.deref.result.now ≡ pairs_at c.args.circuit.now.ops (pulse_before c.args.stages.now.pairs c.args.t)
its_pairs c =
    c.deref.ensures.value
    ∙ c.in_ok-before.ensures.pairs
    ∙ ap (λ (l : List Op). pairs_at l c.pairs.result.now) c.ops-ops.ensures.value
    ∙ ap (pairs_at c.args.circuit.now.ops) (its_numbers c)

keeping : (c : After-as_slice) →
    IsKeeping c.args.circuit.now.ops (pulse_before c.args.stages.now.pairs c.args.t) (numbers_at c.args.stages.now.pairs c.args.t) c.in_ok-kept.kept.pairs
keeping c =
    of_both (λ first second. IsKeeping c.args.circuit.now.ops first second c.in_ok-kept.kept.pairs) c.args.stages.now.pairs c.args.t (λ e. omega arith)
    c.in_ok-kept.ensures.keeping

greatest : (c : After-as_slice) →
    IsGreatest c.args.circuit.now.ops (pulse_before c.args.stages.now.pairs c.args.t) (numbers_at c.args.stages.now.pairs c.args.t) c.in_ok-kept.kept.pairs
greatest c =
    of_both (λ first second. IsGreatest c.args.circuit.now.ops first second c.in_ok-kept.kept.pairs) c.args.stages.now.pairs c.args.t (λ e. omega arith)
    c.in_ok-kept.ensures.greatest

pub add_returns-requires-clause-can_return : goal.add_returns-requires-clause-can_return
add_returns-requires-clause-can_return d =
    let c = (goal.at.add_returns-requires-clause-can_return d).After-as_slice in
    let a = c.args.card.now in
    let circuit = c.args.circuit.now in
    let stages = c.args.stages.now in
    let rules = c.figures-figures.ensures.rules in
    let before = pulse_before stages.pairs c.args.t in
    can_return_by_names a circuit.ops c.ops-ops.result.now (pairs_at circuit.ops before) c.deref.result.now c.in_ok-kept.kept.pairs c.as_slice.result.now
    c.ops-ops.ensures.value (its_pairs c) c.as_slice.ensures (rests_in c.args.world.now)
    (can_return a rules circuit.qubits c.requires.fits circuit.ops (rests_in c.args.world.now) before (numbers_at stages.pairs c.args.t) c.in_ok-kept.kept.pairs (keeping c)
    (fits_before a circuit stages rules c.requires.fits c.ops-ops.ensures.valid c.requires.stages c.args.t (omega arith))
    (fits_now a circuit stages rules c.requires.fits c.ops-ops.ensures.valid c.requires.stages c.args.t c.requires.t_in) c.requires.seats)

pub returns : goal.returns
returns c =
    let at = (goal.at.returns c).After-as_slice in
    let ops = c.args.circuit.now.ops in
    record {
      ok = on_ok_weaker c.add_returns.result
          (λ grows. record {
            kept = c.in_ok-kept.kept.pairs;
            keeping = keeping at;
            greatest = greatest at;
            grows =
                grows_by_names c.args.card.now ops c.ops-ops.result.now (pairs_at ops (pulse_before c.args.stages.now.pairs c.args.t)) c.deref.result.now
                c.in_ok-kept.kept.pairs c.as_slice.result.now c.ops-ops.ensures.value (its_pairs at) c.as_slice.ensures
                c.args.self.now c.add_returns.new.self c.args.world.now c.add_returns.new.world grows;
          })
          c.add_returns.ensures.ok;
    }
