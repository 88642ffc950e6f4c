use Rattle.qasm_names.specs.Environment.{environment}
use Rattle.qasm_expand.specs.Top.{visits_below}
use Rattle.qasm_expand.specs.Walks.{Walks}
use Rattle.qasm_expand.proofs.statement.walk_all.Given as goal

abbrev pub invariant-loop-place : goal.invariant-loop-place
invariant-loop-place l = Walks (environment l.program.header l.program.statements).gates l.initial.walk l.walk (visits_below l.program l.place)
