use Rattle.qasm_scope.proofs.WordLemmas.{twice_least}
use Rattle.qasm_scope.proofs.bodies.least_twice.Goals as goal

pub returns : goal.returns
returns c = twice_least c.args.params.now c.args.args.now c.least_again.ensures c.least_again-2.ensures c.earlier.ensures
