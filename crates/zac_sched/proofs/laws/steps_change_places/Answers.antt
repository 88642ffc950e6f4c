use Rattle.zac_sched.proofs.Darkness.{card_laws}
use Rattle.zac_sched.proofs.Exchanging.{exchange}
use Rattle.zac_sched.proofs.laws.steps_change_places.Goals as goal

pub returns : goal.returns
returns c =
    exchange c.args.card.now (card_laws c.args.card.now c.figures-rules.ensures.rules
    c.laws_of_traps.ensures.counts c.laws_of_traps.ensures.one_trap c.laws_of_parking.ensures.corners_apart c.laws_of_parking.ensures.parked_apart)
