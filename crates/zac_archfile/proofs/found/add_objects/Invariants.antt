use Rattle.std.proofs.Common.{◌≡◌, ◌++◌, map, filter, take}
use Rattle.std.specs.List.{flat_map}
use Rattle.serde_json.specs.View.{view}
use Rattle.zac_archfile.specs.Entries.{entry_at, is_object}
use Rattle.zac_archfile.proofs.found.add_objects.Given as goal

abbrev pub invariant-loop-value : goal.invariant-loop-value
invariant-loop-value l =
    l.entries.items
    ≡ l.initial.entries.items ++ flat_map (λ zone. map (entry_at zone) l.fields) (filter is_object (map view (take l.value-index l.values)))
