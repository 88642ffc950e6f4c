use Rattle.std.proofs.Common.{List, length, subst, sym}
use Rattle.std.specs.List.Sorted.{IsPermutation}
use Rattle.zac_group.specs.declared.members.Members.{Members}
use Rattle.zac_group.specs.declared.route.Route.{Route}
use Rattle.zac_group.specs.declared.shift.Shift.{Shift}
use Rattle.zac_group.specs.Fitting.{IsFitting}
use Rattle.zac_group.specs.FirstFit.{IsGrouping}
use Rattle.zac_group.specs.Groups.{MoveGroup}
use Rattle.zac_group.specs.Made.{AreMadeOf}
use Rattle.zac_group.specs.Members.{moves}
use Rattle.zac_group.proofs.GroupingFacts.{fitting_phases, grouping_made}
use Rattle.zac_group.proofs.grouping.groups.Goals as goal

pub groups_of-requires-clause-phases : goal.groups_of-requires-clause-phases
groups_of-requires-clause-phases c = λ n lt.
    let a = c.args.card.now in
    let rs = c.in_ok-routes.routes.items in
    let permutes = subst (λ (l : List Shift). IsPermutation l (moves rs)) c.as_slice.ensures c.in_ok-routes.ensures.permutes in
    let fitting = subst (λ (l : List Route). IsFitting a (moves l) c.in_ok-fitted.fitted.items) c.as_slice-2.ensures.value c.in_ok-fitted.ensures in
    fitting_phases a c.args.shifts (moves rs) c.as_slice-3.result.now c.requires.phase permutes
    (subst (λ (l : List Members). IsFitting a (moves rs) l) (sym c.as_slice-3.ensures.value) fitting) n

pub returns : goal.returns
returns c =
    let a = c.args.card.now in
    let rs = c.in_ok-routes.routes.items in
    let fitted = c.in_ok-fitted.fitted.items in
    let permutes = subst (λ (l : List Shift). IsPermutation l (moves rs)) c.as_slice.ensures c.in_ok-routes.ensures.permutes in
    let fitting = subst (λ (l : List Route). IsFitting a (moves l) fitted) c.as_slice-2.ensures.value c.in_ok-fitted.ensures in
    let made = subst (λ (l : List Members). AreMadeOf a l (length l) c.in_ok-groups.groups.items) c.as_slice-3.ensures.value c.in_ok-groups.ensures in
    record {
      grouping = subst (λ (gs : List MoveGroup). IsGrouping a c.args.shifts gs) (sym c.of.ensures)
          (grouping_made a c.args.shifts (moves rs) fitted c.in_ok-groups.groups.items permutes c.in_ok-routes.ensures.order fitting made);
    }
