use Rattle.std.proofs.Common.{ℕ, ◌<◌, ◌≤◌, ◌^◌, inl, inr, subst, arith}
use Rattle.std.proofs.lemmas.List.Elements.{All-contains}
use Rattle.zac_arch.specs.Architecture.{Architecture, storage_count, trap_count}
use Rattle.zac_arch.specs.Rules.{HasFigureRanges}
use Rattle.zac_group.specs.Moves.{IsBetweenKinds}
use Rattle.zac_group.specs.declared.shift.Shift.{Shift}
use Rattle.zac_aod.proofs.Durations.{job_quick}
use Rattle.zac_aod.proofs.Goings.{job_goes}
use Rattle.zac_aod.proofs.Limits.{InRanges, job_fits}
use Rattle.zac_aod.proofs.laws.job_limits.Goals as goal

target_inside : (a : Architecture) (s : Shift) → storage_count a ≤ trap_count a → trap_count a < 2 ^ 32 → IsBetweenKinds a s → s.to.0 < 2 ^ 32
target_inside a s counts few (inl h) = omega (arith, h.1.1)
target_inside a s counts few (inr h) = omega (arith, h.1)

ranges : (c : goal.After-figures-rules) → HasFigureRanges c.args.card.now.figures
ranges c = subst HasFigureRanges c.figures-rules.ensures.figures c.figures-rules.ensures.ranges

pub returns-clause-fits : goal.returns-clause-fits
returns-clause-fits c = λ shifts aod g le small.
    let r = ranges c in
    let laws = c.card_laws.ensures in
    let few : trap_count c.args.card.now < 2 ^ 32 = subst (λ (n : ℕ). n < 2 ^ 32) c.traps-count.ensures c.traps-count.type_inv in
    let here : InRanges c.args.card.now shifts = record {
      rows = r.rows_most;
      columns = r.columns_most;
      qubits = λ s in'. All-contains (λ (t : Shift). t.q < 2 ^ 32) shifts s small in';
      targets = λ s in'. target_inside c.args.card.now s laws.counts few (All-contains (IsBetweenKinds c.args.card.now) shifts s g.phase.between in');
    } in
    job_fits c.args.card.now shifts laws g here aod le

pub returns-clause-quick : goal.returns-clause-quick
returns-clause-quick c = λ shifts aod t g is. job_quick c.args.card.now (ranges c) shifts aod t is

pub returns-clause-moves : goal.returns-clause-moves
returns-clause-moves c = λ shifts aod g. job_goes c.args.card.now shifts c.card_laws.ensures g aod
