use Rattle.zac_place.proofs.OfferFacts.{same_offer}
use Rattle.zac_place.proofs.offer.offered_traps.Goals as goal

pub returns-clause-offered : goal.returns-clause-offered
returns-clause-offered c =
    same_offer c.args.world.now c.args.leaving.now c.in_ok-offered.offered.items c.put_in_order.new.numbers.items c.put_in_order.ensures.kept c.put_in_order.ensures.no_other c.in_ok-offered.ensures
