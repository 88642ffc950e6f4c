use Rattle.std.proofs.Common.{List, ap, ◌∙◌, subst, sym}
use Rattle.std.specs.List.Sorted.{IsPermutation}
use Rattle.zac_group.specs.declared.members.Members.{Members}
use Rattle.zac_group.specs.declared.shift.Shift.{Shift}
use Rattle.zac_group.specs.Groups.{IsPhase}
use Rattle.zac_group.specs.Members.{moves}
use Rattle.zac_group.proofs.FirstFitFacts.{shifts_here}
use Rattle.zac_group.proofs.GroupingFacts.{made_more}
use Rattle.zac_group.proofs.grouping.groups_of.Goals as goal

pub group_of-requires-clause-phase : goal.group_of-requires-clause-phase
group_of-requires-clause-phase c =
    let k = c.loop-members.members-index in
    let item = c.members-item.result in
    let here = shifts_here c.args.fitted.now k item c.loop-members-test.true ∙ ap (λ (m : Members). moves m.routes.items) (sym c.members-item.is) in
    subst (λ (l : List Shift). IsPhase c.args.card.now l) here (c.requires.phases k c.loop-members-test.true)

pub loop-members-preserved : goal.loop-members-preserved
loop-members-preserved c =
    let k = c.loop-members.members-index in
    let item = c.members-item.result in
    let here = shifts_here c.args.fitted.now k item c.loop-members-test.true ∙ ap (λ (m : Members). moves m.routes.items) (sym c.members-item.is) in
    let g = c.in_ok-group_of.field-0 in
    made_more c.args.card.now c.args.fitted.now k c.loop-members.groups.items c.push.new.self.items g c.loop-members.invariant
    c.in_ok-group_of.ensures.card (subst (λ (l : List Shift). IsPermutation l g.shifts) (sym here) c.in_ok-group_of.ensures.shifts)
    c.in_ok-group_of.ensures.group c.in_ok-push.ensures.items
