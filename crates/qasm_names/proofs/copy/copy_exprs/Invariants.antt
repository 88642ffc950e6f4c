use Rattle.std.proofs.Common.{◌≡◌, take}
use Rattle.qasm_names.proofs.copy.copy_exprs.Given as goal

abbrev pub invariant-loop-expr : goal.invariant-loop-expr
invariant-loop-expr l = l.copy.items ≡ take l.expr-index l.exprs
