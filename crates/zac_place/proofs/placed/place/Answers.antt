use Rattle.std.proofs.Common.{◌≡◌, ℕ, List, map, sym, ap, ◌∙◌, subst}
use Rattle.std.specs.Prelude.{slice_index}
use Rattle.zac_place.specs.Placing.{IsPlacing, ProvesPlacing}
use Rattle.zac_place.proofs.PlacingFacts.{IsPlacing-from_assignment, ProvesPlacing-from_assignment}
use Rattle.zac_place.proofs.placed.place.Goals as goal

pub returns-clause-placing : goal.returns-clause-placing
returns-clause-placing c =
    let offered = c.args.offered.now in
    let costs = c.args.costs.now in
    let columns = c.in_ok-assigned.assigned.columns in
    let places : c.of.result ≡ map (slice_index offered) columns = c.of.ensures ∙ c.in_ok-targets.ensures ∙ ap (map (slice_index offered)) c.as_slice.ensures in
    subst (IsPlacing offered costs.rows) (sym places)
    (IsPlacing-from_assignment offered costs c.requires.columns c.requires.distinct columns c.in_ok-assigned.ensures.assignment)

pub returns-clause-prices : goal.returns-clause-prices
returns-clause-prices c = λ cost tab.
    let offered = c.args.offered.now in
    let costs = c.args.costs.now in
    let assigned = c.in_ok-assigned.assigned in
    let places : c.of.result ≡ map (slice_index offered) assigned.columns = c.of.ensures ∙ c.in_ok-targets.ensures ∙ ap (map (slice_index offered)) c.as_slice.ensures in
    subst (λ (l : List ℕ). ProvesPlacing cost offered costs.rows l assigned.row_price assigned.column_price) (sym places)
    (ProvesPlacing-from_assignment offered costs c.requires.columns c.requires.distinct assigned.columns c.in_ok-assigned.ensures.assignment assigned.row_price assigned.column_price c.in_ok-assigned.ensures.prices cost tab)
