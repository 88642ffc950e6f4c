use Rattle.std.proofs.Common.{◌+◌, ◌*◌, ◌≤◌, take}
use Rattle.zair_form.specs.Timing.{AreLastOf}
use Rattle.zac_watch.proofs.TimedFacts.{IsAddedSoFar}
use Rattle.zac_watch.proofs.slot.add_job.Given as goal

abbrev pub invariant-loop-place : goal.invariant-loop-place
invariant-loop-place l = record {
  so_far : IsAddedSoFar l.card.figures l.number l.begin (take l.place l.steps) l.fn.slots.items l.now l.slots.items;
  timer_is : AreLastOf l.timer (take l.place l.steps);
  early : l.now ≤ l.begin + l.place * 18446744073709551616;
}
