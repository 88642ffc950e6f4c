use Rattle.qasm_names.specs.Environment.{environment}
use Rattle.qasm_scope.proofs.Judging.{judged, first_once, not_admissible}
use Rattle.qasm_scope.proofs.laws.one_judgement.Goals as goal

pub returns-clause-some : goal.returns-clause-some
returns-clause-some c = λ header before s. judged (environment header before) before s

pub returns-clause-one_refusal : goal.returns-clause-one_refusal
returns-clause-one_refusal c = λ header before. first_once (environment header before) before

pub returns-clause-not_both : goal.returns-clause-not_both
returns-clause-not_both c = not_admissible
