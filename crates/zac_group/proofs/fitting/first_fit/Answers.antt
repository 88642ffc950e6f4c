use Rattle.std.proofs.Common.{ℕ, ◌<◌, ◌≤◌, List, [], length, get_or, subst, sym}
use Rattle.std.proofs.lemmas.List.{get_or_default}
use Rattle.zac_group.specs.declared.members.Members.{Members}
use Rattle.zac_group.specs.declared.route.Route.{Route}
use Rattle.zac_group.specs.FirstFit.{Fits}
use Rattle.zac_group.specs.Fitting.{IsFitting, shifts_at}
use Rattle.zac_group.proofs.FirstFitFacts.{fitting_more, fitting_none}
use Rattle.zac_group.proofs.fitting.first_fit.Goals as goal

pub loop-route-init : goal.loop-route-init
loop-route-init c = subst (λ (l : List Members). IsFitting c.args.card.now [] l) (sym c.new-groups.ensures.items) (fitting_none c.args.card.now)

pub loop-route-preserved : goal.loop-route-preserved
loop-route-preserved c =
    let a = c.args.card.now in
    let z : Route = record {
      shift = record { q = 0; from = record { 0 = 0 }; to = record { 0 = 0 } };
      from = record { x = 0; y = 0 };
      to = record { x = 0; y = 0 };
      zones = record { from = 0; to = 0 };
    } in
    let r : Route = get_or c.args.ordered.now c.loop-route.route-index z in
    let n : ℕ = c.first_that_fits-number.result in
    let found = c.first_that_fits-number.ensures in
    let same = c.as_slice.ensures.value in
    fitting_more a c.args.ordered.now c.loop-route.route-index r c.loop-route.groups.items c.add_to.new.groups.items n
    c.loop-route-test.true (get_or_default c.args.ordered.now c.loop-route.route-index z r c.loop-route-test.true) c.loop-route.invariant
    (subst (λ (l : List Members). n ≤ length l) same found.within)
    (subst (λ (l : List Members). Fits a (shifts_at l n) r.shift) same found.fits)
    (subst (λ (l : List Members). (g : ℕ) → g < n → ¬ Fits a (shifts_at l g) r.shift) same found.passed)
    c.in_ok-add_to.ensures.members c.in_ok-add_to.ensures.adds
