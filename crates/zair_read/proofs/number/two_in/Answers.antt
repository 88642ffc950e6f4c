use Rattle.serde_json.specs.View.{view}
use Rattle.zair_read.proofs.Arrays.{told_no_two}
use Rattle.zair_read.proofs.number.two_in.Goals as goal

pub returns-else-values-eq2 : goal.returns-else-values-eq2
returns-else-values-eq2 c = told_no_two (view c.args.value.now) c.in_ok-values.values.now c.in_ok-values.ensures c.if-values-eq2.false
