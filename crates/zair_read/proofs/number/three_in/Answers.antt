use Rattle.serde_json.specs.View.{view}
use Rattle.zair_read.proofs.Arrays.{told_no_three}
use Rattle.zair_read.proofs.number.three_in.Goals as goal

pub returns-else-values-eq3 : goal.returns-else-values-eq3
returns-else-values-eq3 c = told_no_three (view c.args.value.now) c.in_ok-values.values.now c.in_ok-values.ensures c.if-values-eq3.false
