use Rattle.std.proofs.Common.{◌≡◌, Some, take}
use Rattle.serde_json.specs.View.{items_view}
use Rattle.zair_read.specs.Told.{told_items, told_step}
use Rattle.zair_read.proofs.step.steps_in.Given as goal

abbrev pub invariant-loop-value : goal.invariant-loop-value
invariant-loop-value l = told_items (told_step l.aod) (items_view (take l.value-index l.values)) ≡ Some l.steps.items
