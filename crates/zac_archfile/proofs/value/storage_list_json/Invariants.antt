use Rattle.std.proofs.Common.{◌≡◌, map, filter, take}
use Rattle.serde_json.specs.View.{view}
use Rattle.zac_arch.specs.Architecture.{is_storage}
use Rattle.zac_archfile.specs.Values.{storage_value}
use Rattle.zac_archfile.proofs.value.storage_list_json.Given as goal

abbrev pub invariant-loop-zone : goal.invariant-loop-zone
invariant-loop-zone l = map view l.values.items ≡ map storage_value (filter (λ z. is_storage z.kind) (take l.zone-index l.zones))
