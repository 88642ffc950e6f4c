use Rattle.std.proofs.Common.{◌<◌, ℕ, List, length, sym, ap, subst, arith}
use Rattle.std.specs.List.{All}
use Rattle.zac_arch.specs.Architecture.{Architecture, storage_count}
use Rattle.zac_place.specs.Returns.{return_cost}
use Rattle.zac_place.proofs.ReturnFacts.{enough_offered, few_empty, few_rising, offered_below, placing_of, proof_of}
use Rattle.zac_place.proofs.returning.placed_by_table.Goals as goal

pub return_costs-requires-clause-few : goal.return_costs-requires-clause-few
return_costs-requires-clause-few c =
    omega (arith, (few_empty c.args.world.now c.args.card.now c.requires.card c.figures-rules.ensures.rules).0, c.requires.few)

pub return_costs-requires-clause-traps : goal.return_costs-requires-clause-traps
return_costs-requires-clause-traps c =
    subst (λ (a : Architecture). All (λ t. t < storage_count a) c.as_slice.result.now) c.requires.card
    (subst (All (λ t. t < storage_count c.args.world.now.architecture)) (sym c.as_slice.ensures.value)
    (offered_below c.args.world.now c.args.leaving.now c.in_ok-offered.offered.items c.in_ok-offered.ensures.offered.near))

pub return_costs-requires-clause-some : goal.return_costs-requires-clause-some
return_costs-requires-clause-some c =
    let most = few_rising c.in_ok-offered.offered.items (storage_count c.args.world.now.architecture) c.in_ok-offered.ensures.rising
    (offered_below c.args.world.now c.args.leaving.now c.in_ok-offered.offered.items c.in_ok-offered.ensures.offered.near) in
    omega (arith, most, ap (λ (l : List ℕ). length l) c.as_slice.ensures.value, ap storage_count c.requires.card)

pub place-requires-clause-rows : goal.place-requires-clause-rows
place-requires-clause-rows c =
    omega (
      arith,
      c.in_ok-costs.ensures.rows_are,
      c.in_ok-costs.ensures.columns_are,
      ap (λ (l : List ℕ). length l) c.as_slice.ensures.value,
      enough_offered c.args.world.now c.args.leaving.now c.in_ok-offered.offered.items c.in_ok-offered.ensures.rising c.in_ok-offered.ensures.offered c.requires.few,
    )

pub returns-clause-placing : goal.returns-clause-placing
returns-clause-placing c =
    placing_of c.in_ok-offered.offered.items c.as_slice-2.result.now c.in_ok-costs.costs.rows (length c.args.leaving.now) c.in_ok-placed.placed.targets c.as_slice-2.ensures.value c.in_ok-costs.ensures.rows_are c.in_ok-placed.ensures.placing

pub returns-clause-prices : goal.returns-clause-prices
returns-clause-prices c =
    proof_of (return_cost c.args.world.now c.args.leaving.now) c.in_ok-offered.offered.items c.as_slice.result.now c.as_slice-2.result.now (length c.args.leaving.now) c.in_ok-costs.costs c.in_ok-placed.placed.targets c.in_ok-placed.placed.row_price c.in_ok-placed.placed.column_price
    c.as_slice.ensures.value c.as_slice-2.ensures.value c.in_ok-costs.ensures c.in_ok-placed.ensures.prices
