use Rattle.zair_machine.proofs.Homing.{opened_kept}
use Rattle.zair_machine.proofs.machine.Machine.new.Goals as goal

pub invariant_of-result : goal.invariant_of-result
invariant_of-result c =
    opened_kept c.args.card.now c.args.homes.now c.in_ok-in_traps.in_traps.items c.in_ok-at_crossings.at_crossings.items c.in_ok-places.places.items c.in_ok-aods.aods.items c.figures-count.result c.in_ok-q.field-0 c.figures-count.ensures.rules c.figures-count.ensures.figures c.in_ok-places.ensures c.in_ok-aods.ensures c.in_ok-q.ensures c.in_default.is c.in_ok-in_traps.ensures.len c.in_ok-at_crossings.ensures c.in_ok-in_traps.ensures.told
