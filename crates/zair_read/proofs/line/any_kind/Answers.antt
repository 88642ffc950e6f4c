use Rattle.serde_json.specs.View.{view}
use Rattle.zair_read.proofs.Answering.{kind_answered}
use Rattle.zair_read.proofs.line.any_kind.Goals as goal

pub returns-in-Ok : goal.returns-in-Ok
returns-in-Ok c =
    kind_answered c.args.bytes.now (view c.in-Ok.value) c.kind_in.result c.in-Ok.ensures.value c.kind_in.ensures
