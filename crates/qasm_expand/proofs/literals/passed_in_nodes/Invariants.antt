use Rattle.std.proofs.Common.{◌≡◌, drop}
use Rattle.std.specs.List.{flat_map}
use Rattle.qasm_expand.specs.Limits.{literal_of, passed_by_literals}
use Rattle.qasm_expand.proofs.literals.passed_in_nodes.Given as goal

abbrev pub invariant-loop-node : goal.invariant-loop-node
invariant-loop-node l = passed_by_literals (flat_map literal_of (drop l.node-index l.nodes)) ≡ passed_by_literals (flat_map literal_of l.nodes)
