use Rattle.std.proofs.Common.{◌∙◌, sym}
use Rattle.zac_archfile.specs.Fields.{entangling_fields}
use Rattle.zac_archfile.specs.Values.{HasSmallNumbers}
use Rattle.zac_archfile.proofs.Views.{object_at}
use Rattle.zac_archfile.proofs.build.add_entangling.Goals as goal

pub entangling_zone_in-requires : goal.entangling_zone_in-requires
entangling_zone_in-requires c =
    object_at (HasSmallNumbers entangling_fields) c.args.values.now c.loop-value.value-index c.value-item.result c.loop-value-test.true c.value-item.is (sym c.is_object.ensures ∙ c.if-is_object.true) c.requires
