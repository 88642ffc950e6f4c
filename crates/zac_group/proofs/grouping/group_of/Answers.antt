use Rattle.std.proofs.Common.{List, ap, ◌∙◌, subst, sym}
use Rattle.std.specs.List.Sorted.{IsPermutation}
use Rattle.zac_group.specs.declared.route.Route.{Route}
use Rattle.zac_group.specs.declared.shift.Shift.{Shift}
use Rattle.zac_group.specs.Members.{moves}
use Rattle.zac_group.proofs.Phases.{group_made, moves_permute}
use Rattle.zac_group.proofs.grouping.group_of.Goals as goal

pub invariant_of-result : goal.invariant_of-result
invariant_of-result c =
    let qs = c.in_ok-routes.routes.items in
    group_made c.args.card.now c.args.members.now qs c.in_ok-shifts.shifts.items c.laws_of_traps.ensures.one_trap c.requires.members c.requires.phase
    (subst (λ (l : List Route). IsPermutation l qs) c.as_slice.ensures.value c.in_ok-routes.ensures.permutes) c.in_ok-routes.ensures.order
    (c.in_ok-shifts.ensures ∙ ap moves c.as_slice-2.ensures.value)

pub returns-clause-group : goal.returns-clause-group
returns-clause-group c =
    let qs = c.in_ok-routes.routes.items in
    group_made c.args.card.now c.args.members.now qs c.in_ok-shifts.shifts.items c.laws_of_traps.ensures.one_trap c.requires.members c.requires.phase
    (subst (λ (l : List Route). IsPermutation l qs) c.as_slice.ensures.value c.in_ok-routes.ensures.permutes) c.in_ok-routes.ensures.order
    (c.in_ok-shifts.ensures ∙ ap moves c.as_slice-2.ensures.value)

pub returns-clause-shifts : goal.returns-clause-shifts
returns-clause-shifts c =
    let qs = c.in_ok-routes.routes.items in
    let rs = c.args.members.now.routes.items in
    subst (λ (l : List Shift). IsPermutation (moves rs) l) (sym (c.in_ok-shifts.ensures ∙ ap moves c.as_slice-2.ensures.value))
    (moves_permute rs qs (subst (λ (l : List Route). IsPermutation l qs) c.as_slice.ensures.value c.in_ok-routes.ensures.permutes))
