use Rattle.qasm_scope.proofs.ApplicationsLemmas.{repeats_from}
use Rattle.qasm_scope.proofs.applied.repeats_qubit.Goals as goal

pub returns : goal.returns
returns c = repeats_from c.args.known.now c.args.args.now c.applications-times.ensures c.has_faulty_pair.ensures
