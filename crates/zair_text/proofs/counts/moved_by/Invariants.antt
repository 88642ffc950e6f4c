use Rattle.std.proofs.Common.{◌≡◌, take}
use Rattle.zair_text.specs.Tally.{told, moved_by}
use Rattle.zair_text.proofs.counts.moved_by.Given as goal

abbrev pub invariant-loop-step : goal.invariant-loop-step
invariant-loop-step l = l.count ≡ told (moved_by (take l.step-index l.steps))
