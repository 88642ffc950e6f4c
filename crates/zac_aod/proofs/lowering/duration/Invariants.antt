use Rattle.std.proofs.Common.{◌*◌, ◌≤◌, take}
use Rattle.zair_form.specs.Timing.{AreLastOf}
use Rattle.zac_aod.proofs.Totals.{IsTotal}
use Rattle.zac_aod.proofs.lowering.duration.Given as goal

abbrev pub invariant-loop-step : goal.invariant-loop-step
invariant-loop-step l = record {
  last : AreLastOf l.timer (take l.step-index l.steps);
  most : l.total ≤ 1000000000 * l.step-index;
  total : IsTotal l.card.figures l.steps l.step-index l.total;
}
