use Rattle.qasm_scope.proofs.Judging.{accepted_or_refused, not_accepted_and_refused}
use Rattle.qasm_scope.proofs.laws.each_program_is_accepted_or_refused.Goals as goal

pub returns-clause-some : goal.returns-clause-some
returns-clause-some c = accepted_or_refused

pub returns-clause-not_both : goal.returns-clause-not_both
returns-clause-not_both c = not_accepted_and_refused
