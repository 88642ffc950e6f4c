use Rattle.std.proofs.Common.{◌≡◌}
use Rattle.std.specs.List.{Contains}
use Rattle.qasm_names.specs.Environment.{words_of}
use Rattle.qasm_scope.specs.Least.{IsLeastOffset}
use Rattle.qasm_scope.proofs.LeastLemmas.{OfFirst}
use Rattle.qasm_scope.proofs.bodies.least_foreign.Given as goal

abbrev pub invariant-loop-arg : goal.invariant-loop-arg
invariant-loop-arg l =
    IsLeastOffset (OfFirst (λ arg at. (¬ Contains (words_of l.names) arg.word) × (at ≡ arg.at)) l.args l.arg-index) l.least
