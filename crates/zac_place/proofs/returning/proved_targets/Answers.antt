use Rattle.std.proofs.Common.{length, sym, subst}
use Rattle.zac_world.specs.Places.{empty_storage}
use Rattle.zac_place.specs.Placing.{IsLeastPlacing}
use Rattle.zac_place.specs.Returns.{AreNear, return_cost}
use Rattle.zac_place.proofs.ReturnFacts.{empty_apart}
use Rattle.zac_place.proofs.returning.proved_targets.Goals as goal

pub returns-clause-least : goal.returns-clause-least
returns-clause-least c =
    let p = c.args.world.now in
    let leaving = c.args.leaving.now in
    let told = c.in_ok-is_proved.ensures c.if-not-branch.false in
    subst (IsLeastPlacing (return_cost p leaving) (empty_storage p) (length leaving)) (sym c.of.ensures)
    (c.prices_bound_every_placing.ensures (return_cost p leaving) (empty_storage p) (length leaving) c.in-Some.proposal.targets.items c.in-Some.proposal.prices.items _ (empty_apart p) told.placing told.prices)

pub returns-clause-near : goal.returns-clause-near
returns-clause-near c =
    subst (AreNear c.args.world.now c.args.leaving.now) (sym c.of.ensures) (c.in_ok-is_proved.ensures c.if-not-branch.false).near
