use Rattle.qasm_scope.proofs.Accepting.{go_or_stop}
use Rattle.qasm_scope.proofs.laws.tokens_go_to_the_end_or_stop.Goals as goal

pub returns : goal.returns
returns c = go_or_stop c.statement_or_one_fault.ensures.some
