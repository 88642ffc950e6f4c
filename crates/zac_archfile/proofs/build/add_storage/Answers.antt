use Rattle.std.proofs.Common.{◌∙◌, sym}
use Rattle.zac_archfile.specs.Fields.{storage_fields}
use Rattle.zac_archfile.specs.Values.{HasSmallNumbers}
use Rattle.zac_archfile.proofs.Views.{object_at}
use Rattle.zac_archfile.proofs.build.add_storage.Goals as goal

pub storage_zone_in-requires : goal.storage_zone_in-requires
storage_zone_in-requires c =
    object_at (HasSmallNumbers storage_fields) c.args.values.now c.loop-value.value-index c.value-item.result c.loop-value-test.true c.value-item.is (sym c.is_object.ensures ∙ c.if-is_object.true) c.requires
