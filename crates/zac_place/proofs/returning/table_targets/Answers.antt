use Rattle.std.proofs.Common.{length}
use Rattle.zac_world.specs.Places.{empty_storage}
use Rattle.zac_place.specs.Returns.{return_cost}
use Rattle.zac_place.proofs.ReturnFacts.{empty_apart, near_targets, placing_in_all, prices_of_all}
use Rattle.zac_place.proofs.returning.table_targets.Goals as goal

pub returns-clause-placing : goal.returns-clause-placing
returns-clause-placing c =
    placing_in_all c.args.world.now c.args.leaving.now c.in_ok-placed.field-0.offered.items c.in_ok-placed.field-0.placed.targets c.in_ok-placed.ensures.offered c.in_ok-placed.ensures.placing

pub returns-clause-least : goal.returns-clause-least
returns-clause-least c =
    let placed = c.in_ok-placed.field-0.placed in
    c.prices_bound_every_placing.ensures (return_cost c.args.world.now c.args.leaving.now) (empty_storage c.args.world.now) (length c.args.leaving.now) placed.targets placed.row_price _
    (empty_apart c.args.world.now) (returns-clause-placing c)
    (prices_of_all c.args.world.now c.args.leaving.now c.in_ok-placed.field-0.offered.items placed.targets placed.row_price placed.column_price c.in_ok-placed.ensures.rising c.in_ok-placed.ensures.offered c.in_ok-placed.ensures.placing c.in_ok-placed.ensures.prices)

pub returns-clause-near : goal.returns-clause-near
returns-clause-near c =
    near_targets c.args.world.now c.args.leaving.now c.in_ok-placed.field-0.offered.items c.in_ok-placed.field-0.placed.targets c.in_ok-placed.ensures.offered c.in_ok-placed.ensures.placing
