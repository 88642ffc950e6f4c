use Rattle.std.proofs.Common.{◌≡◌, ◌++◌, map, filter, take}
use Rattle.serde_json.specs.View.{view}
use Rattle.zac_archfile.specs.Entries.{is_object}
use Rattle.zac_archfile.specs.Values.{storage_zone}
use Rattle.zac_archfile.proofs.build.add_storage.Given as goal

abbrev pub invariant-loop-value : goal.invariant-loop-value
invariant-loop-value l = l.zones.items ≡ l.initial.zones.items ++ map storage_zone (filter is_object (map view (take l.value-index l.values)))
