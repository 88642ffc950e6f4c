use Rattle.serde_json.specs.View.{view, members_view}
use Rattle.zac_archfile.specs.declared.field.Field.TheVariants.{Version}
use Rattle.zac_archfile.proofs.Written.{written_more}
use Rattle.zac_archfile.proofs.value.numbers_json.Goals as goal

pub loop-field-preserved : goal.loop-field-preserved
loop-field-preserved c =
    written_more (members_view c.loop-field.members.entries) (members_view c.put_value.new.members.entries) c.args.numbers.now c.loop-field.field-index (Version, 0) (view c.from.result)
    c.loop-field-test.true c.in_ok-put_value.ensures c.from.ensures c.loop-field.invariant
