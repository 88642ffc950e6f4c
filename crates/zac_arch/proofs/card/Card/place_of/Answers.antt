use Rattle.zac_arch.proofs.Walks.{traps_of_fit}
use Rattle.zac_arch.proofs.card.Card.place_of.Goals as goal

pub traps_of-count-requires : goal.traps_of-count-requires
traps_of-count-requires c =
    traps_of_fit _ c.ruled_zones-zones.ensures.rules _ c.ruled_zones-zones.ensures.zones _ _ c.loop-number-test.true
