use Rattle.std.proofs.Common.{take}
use Rattle.zac_watch.specs.Slots.{AreSlotsOf}
use Rattle.zac_watch.proofs.slot.slots_of.Given as goal

abbrev pub invariant-loop-number : goal.invariant-loop-number
invariant-loop-number l = AreSlotsOf l.card.figures (take l.number l.program) l.slots.items
