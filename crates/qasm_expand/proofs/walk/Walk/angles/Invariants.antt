use Rattle.std.proofs.Common.{drop}
use Rattle.qasm_expand.specs.Walks.{angles_in}
use Rattle.qasm_expand.proofs.AnglesLemmas.{Building}
use Rattle.qasm_expand.proofs.walk.Walk.angles.Given as goal

abbrev pub invariant-loop-expr : goal.invariant-loop-expr
invariant-loop-expr l =
    Building l.initial.self l.self (angles_in l.params l.outer l.exprs) (angles_in l.params l.outer (drop l.expr-index l.exprs)) l.angles.items
