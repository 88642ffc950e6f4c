use Rattle.std.proofs.Common.{◌≡◌, ℕ, ℤ, List, length, map, sym, ap, ◌∙◌, subst}
use Rattle.std.specs.List.{All, Contains}
use Rattle.zac_world.specs.Places.{empty_storage}
use Rattle.zac_place.specs.Offers.{price_of}
use Rattle.zac_place.specs.Placing.{ProvesPlacing}
use Rattle.zac_place.specs.Returns.{return_cost}
use Rattle.zac_place.proofs.ReturnFacts.{empty_apart, near_targets, offered_empty, placing_in_all, prices_of_all}
use Rattle.zac_place.proofs.returning.returns.Goals as goal

pub spread-requires-clause-empty : goal.spread-requires-clause-empty
spread-requires-clause-empty c =
    subst (All (Contains (empty_storage c.args.world.now))) (sym c.as_slice.ensures.value)
    (offered_empty c.args.world.now c.args.leaving.now c.in_ok-offered.field-0.offered.items c.in_ok-offered.ensures.offered.near)

pub spread-requires-clause-priced : goal.spread-requires-clause-priced
spread-requires-clause-priced c =
    ap (λ (l : List ℤ). length l) c.as_slice-2.ensures ∙ c.in_ok-offered.ensures.prices.each_place ∙ ap (λ (l : List ℕ). length l) (sym c.as_slice.ensures.value)

pub returns-clause-placing : goal.returns-clause-placing
returns-clause-placing c =
    placing_in_all c.args.world.now c.args.leaving.now c.in_ok-offered.field-0.offered.items c.in_ok-offered.field-0.placed.targets c.in_ok-offered.ensures.offered c.in_ok-offered.ensures.placing

pub returns-clause-prices : goal.returns-clause-prices
returns-clause-prices c =
    let all = empty_storage c.args.world.now in
    let leaving = c.args.leaving.now in
    let offered = c.in_ok-offered.field-0.offered.items in
    let placed = c.in_ok-offered.field-0.placed in
    let spread : c.of.result ≡ map (price_of offered placed.column_price) all =
    c.of.ensures ∙ c.in_ok-spread.ensures
    ∙ ap (λ (l : List ℕ). map (price_of l c.as_slice-2.result.now) all) c.as_slice.ensures.value
    ∙ ap (λ (l : List ℤ). map (price_of offered l) all) c.as_slice-2.ensures in
    subst (ProvesPlacing (return_cost c.args.world.now leaving) all (length leaving) placed.targets placed.row_price) (sym spread)
    (prices_of_all c.args.world.now leaving offered placed.targets placed.row_price placed.column_price c.in_ok-offered.ensures.rising c.in_ok-offered.ensures.offered c.in_ok-offered.ensures.placing c.in_ok-offered.ensures.prices)

pub returns-clause-least : goal.returns-clause-least
returns-clause-least c =
    c.prices_bound_every_placing.ensures (return_cost c.args.world.now c.args.leaving.now) (empty_storage c.args.world.now) (length c.args.leaving.now) c.in_ok-offered.field-0.placed.targets c.in_ok-offered.field-0.placed.row_price c.of.result
    (empty_apart c.args.world.now) (returns-clause-placing c) (returns-clause-prices c)

pub returns-clause-near : goal.returns-clause-near
returns-clause-near c =
    near_targets c.args.world.now c.args.leaving.now c.in_ok-offered.field-0.offered.items c.in_ok-offered.field-0.placed.targets c.in_ok-offered.ensures.offered c.in_ok-offered.ensures.placing
