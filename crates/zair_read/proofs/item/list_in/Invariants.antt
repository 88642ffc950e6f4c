use Rattle.std.proofs.Common.{◌≡◌, Some, take}
use Rattle.serde_json.specs.View.{items_view}
use Rattle.zair_read.specs.Told.{told_items}
use Rattle.zair_read.proofs.item.list_in.Given as goal

abbrev pub invariant-loop-value : goal.invariant-loop-value
invariant-loop-value g l = told_items g.T.FromJson.told (items_view (take l.value-index l.values)) ≡ Some l.items.items
