use Rattle.std.proofs.Common.{◌≡◌, ◌+◌, ◌*◌, ◌^◌, ◌≤◌, drop, length}
use Rattle.std.specs.List.{zip}
use Rattle.qasm_expand.specs.Angles.{substitute}
use Rattle.qasm_expand.proofs.substitution.node_count.Given as goal

abbrev pub invariant-loop-node : goal.invariant-loop-node
invariant-loop-node l = record {
  counted : l.count + length (substitute (zip l.params l.angles) (drop l.node-index l.nodes)) ≡ length (substitute (zip l.params l.angles) l.nodes);
  bound : l.count ≤ l.node-index * 2 ^ 64;
}
