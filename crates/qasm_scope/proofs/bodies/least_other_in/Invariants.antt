use Rattle.std.specs.List.{Any}
use Rattle.qasm_names.specs.Environment.{words_of}
use Rattle.qasm_names.specs.Refusals.{UsesOther}
use Rattle.qasm_scope.specs.Least.{IsLeastOffset}
use Rattle.qasm_scope.proofs.LeastLemmas.{OfFirst}
use Rattle.qasm_scope.proofs.bodies.least_other_in.Given as goal

abbrev pub invariant-loop-expr : goal.invariant-loop-expr
invariant-loop-expr l =
    IsLeastOffset (OfFirst (λ expr at. Any (UsesOther (words_of l.params) at) expr) l.exprs l.expr-index) l.least
