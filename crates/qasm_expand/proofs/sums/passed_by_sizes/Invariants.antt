use Rattle.std.proofs.Common.{◌≡◌, ◌≤◌, drop}
use Rattle.std.specs.List.{flat_map}
use Rattle.qasm_expand.specs.Limits.{passed_by_sizes}
use Rattle.qasm_expand.specs.RegisterKinds.{limit_of, most_of, sizes_of}
use Rattle.qasm_expand.proofs.sums.passed_by_sizes.Given as goal

abbrev pub invariant-loop-stmt : goal.invariant-loop-stmt
invariant-loop-stmt l = record {
  within : l.sum ≤ most_of l.kind;
  rest : passed_by_sizes (limit_of l.kind) (most_of l.kind) l.sum (flat_map (sizes_of l.kind) (drop l.stmt-index l.statements)) ≡ passed_by_sizes (limit_of l.kind) (most_of l.kind) 0 (flat_map (sizes_of l.kind) l.statements);
}
