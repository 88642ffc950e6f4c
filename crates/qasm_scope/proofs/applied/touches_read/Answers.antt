use Rattle.std.proofs.Common.{◌∙◌, ap}
use Rattle.qasm_names.specs.Applications.{applications}
use Rattle.qasm_scope.proofs.ApplicationsLemmas.{touches_from}
use Rattle.qasm_scope.proofs.applied.touches_read.Goals as goal

pub returns : goal.returns
returns c = touches_from c.args.names.now.environment c.args.args.now c.args.names.now.before (c.applications.ensures ∙ ap (λ e. applications e c.args.args.now) c.known.ensures) c.touches_read_within.ensures
