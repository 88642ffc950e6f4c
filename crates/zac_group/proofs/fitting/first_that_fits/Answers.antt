use Rattle.std.proofs.Common.{List, below_more, sym, ap, ◌∙◌, subst}
use Rattle.zac_group.specs.declared.members.Members.{Members}
use Rattle.zac_group.specs.declared.shift.Shift.{Shift}
use Rattle.zac_group.specs.FirstFit.{Fits}
use Rattle.zac_group.specs.Members.{moves}
use Rattle.zac_group.proofs.FirstFitFacts.{shifts_here}
use Rattle.zac_group.proofs.fitting.first_that_fits.Goals as goal

pub loop-number-preserved : goal.loop-number-preserved
loop-number-preserved c =
    let group = c.index-groups-number.result in
    let here = shifts_here c.args.groups.now c.loop-number.number group c.loop-number-test.true ∙ ap (λ (m : Members). moves m.routes.items) (sym c.index-groups-number.is) in
    below_more _ _ c.loop-number.invariant
    (λ fit. let holds = c.fits.ensures.1 (subst (λ (l : List Shift). Fits c.args.card.now l c.args.route.shift) here fit) in cc)
