use Rattle.std.proofs.Common.{◌≡◌, ◌++◌, map, take}
use Rattle.serde_json.specs.View.{view}
use Rattle.zac_archfile.specs.Entries.{entry_at}
use Rattle.zac_archfile.proofs.found.add_entries.Given as goal

abbrev pub invariant-loop-field : goal.invariant-loop-field
invariant-loop-field l = l.entries.items ≡ l.initial.entries.items ++ map (entry_at (view l.value)) (take l.field-index l.fields)
