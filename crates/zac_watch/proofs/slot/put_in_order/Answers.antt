use Rattle.std.proofs.Common.{rules}
use Rattle.std.proofs.lemmas.List.Sorted.{answers_always}
use Rattle.zac_watch.specs.declared.slot.Slot.{Slot}
use Rattle.zac_watch.proofs.SlotFacts.{sorted_slots}
use Rattle.zac_watch.proofs.slot.put_in_order.Goals as goal

pub returns-clause-order : goal.returns-clause-order
returns-clause-order c =
    sorted_slots c.sort_unstable_by_key.new.self.items
    (c.sort_unstable_by_key.ensures.sorted (λ (s : Slot). (s.begin, s.instr, s.place)) (answers_always _ _ _ (λ f a r g h. search rules)))
