use Rattle.std.proofs.Common.{◌∷◌, [], ap, ◌∙◌, refl, subst}
use Rattle.zac_arch.specs.declared.card.Figures.{Figures}
use Rattle.zac_arch.specs.Rules.{HasFigureRanges}
use Rattle.zac_group.specs.declared.members.Members.{Members}
use Rattle.zac_group.specs.declared.tracks.Track.{Track}
use Rattle.zac_group.proofs.MemberFacts.{members_one}
use Rattle.zac_group.proofs.members.Members.of.Goals as goal

pub returns-clause-members : goal.returns-clause-members
returns-clause-members c =
    let figures = c.figures-figures.ensures in
    let new : Members = record { routes = c.in_ok-from_slice.field-0; zones = c.args.route.zones; columns = c.in_ok-from_slice-2.field-0; rows = c.in_ok-from_slice-3.field-0 } in
    members_one c.args.card.now c.args.route new (subst (λ (f : Figures). HasFigureRanges f) figures.figures figures.ranges) c.requires
    c.in_ok-from_slice.ensures.items refl
    (c.in_ok-from_slice-2.ensures.items ∙ ap (λ (t : Track). t ∷ []) c.column.ensures)
    (c.in_ok-from_slice-3.ensures.items ∙ ap (λ (t : Track). t ∷ []) c.row.ensures)
