use Rattle.std.proofs.Common.{[], ◌*◌, ◌≤◌, take}
use Rattle.zair_form.specs.Timing.{AreLastOf}
use Rattle.zair_form.specs.Times.{LastTogether}
use Rattle.zac_watch.proofs.lengths.job_lasts.Given as goal

abbrev pub invariant-loop-step : goal.invariant-loop-step
invariant-loop-step l = record {
  together : LastTogether l.card.figures [] (take l.step-index l.steps) l.lasts;
  timer_is : AreLastOf l.timer (take l.step-index l.steps);
  few : l.lasts ≤ l.step-index * 18446744073709551616;
}
