use Rattle.std.proofs.Common.{◌≡◌, map, filter, take, not}
use Rattle.serde_json.specs.View.{view}
use Rattle.zac_arch.specs.Architecture.{is_storage}
use Rattle.zac_archfile.specs.Values.{entangling_value}
use Rattle.zac_archfile.proofs.value.entangling_list_json.Given as goal

abbrev pub invariant-loop-zone : goal.invariant-loop-zone
invariant-loop-zone l = map view l.values.items ≡ map entangling_value (filter (λ z. not (is_storage z.kind)) (take l.zone-index l.zones))
