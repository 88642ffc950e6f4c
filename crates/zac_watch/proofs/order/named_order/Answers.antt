use Rattle.std.proofs.Common.{◌∙◌, map, ap}
use Rattle.zac_watch.specs.declared.slot.Slot.{Slot}
use Rattle.zac_watch.proofs.OrderFacts.{in_named_order}
use Rattle.zac_watch.proofs.order.named_order.Goals as goal

pub returns : goal.returns
returns c =
    in_named_order c.args.card.now.figures c.args.program.now c.in_ok-slots.slots.items c.put_in_order.new.slots.items c.of.result
    c.in_ok-slots.ensures c.put_in_order.ensures.permutes c.put_in_order.ensures.order
    (c.of.ensures ∙ c.in_ok-places_of.ensures ∙ ap (map (λ (s : Slot). (s.instr, s.place))) c.as_slice.ensures.value)
