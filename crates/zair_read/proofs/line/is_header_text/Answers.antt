use Rattle.serde_json.specs.View.{view}
use Rattle.zair_read.proofs.Answering.{header_answered}
use Rattle.zair_read.proofs.line.is_header_text.Goals as goal

pub returns-in-Ok : goal.returns-in-Ok
returns-in-Ok c =
    header_answered c.args.bytes.now (view c.in-Ok.value) c.is_header.result c.in-Ok.ensures.value c.is_header.ensures
