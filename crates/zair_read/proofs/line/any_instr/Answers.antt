use Rattle.serde_json.specs.View.{view}
use Rattle.zair_read.proofs.Answering.{answered, refused}
use Rattle.zair_read.proofs.line.any_instr.Goals as goal

pub returns-clause-instr : goal.returns-clause-instr
returns-clause-instr c =
    answered c.args.bytes.now (view c.in_ok-value.value) c.instr_in.result c.in_ok-value.ensures.value c.instr_in.ensures

pub returns-clause-refused : goal.returns-clause-refused
returns-clause-refused c =
    refused c.args.bytes.now (view c.in_ok-value.value) c.instr_in.result c.in_ok-value.ensures.value c.instr_in.ensures
