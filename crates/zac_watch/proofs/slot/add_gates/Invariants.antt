use Rattle.std.proofs.Common.{◌+◌, ◌*◌, ◌≤◌, take, map}
use Rattle.zair_form.specs.declared.step.Step.TheVariants.{One}
use Rattle.zac_watch.proofs.TimedFacts.{IsAddedSoFar}
use Rattle.zac_watch.proofs.slot.add_gates.Given as goal

abbrev pub invariant-loop-place : goal.invariant-loop-place
invariant-loop-place l = record {
  so_far : IsAddedSoFar l.card.figures l.number l.begin (map (λ gate. One gate) (take l.place l.ones)) l.fn.slots.items l.now l.slots.items;
  early : l.now ≤ l.begin + l.place * 18446744073709551616;
}
