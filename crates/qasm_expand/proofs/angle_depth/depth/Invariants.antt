use Rattle.std.proofs.Common.{◌≡◌, ◌≤◌, [], drop}
use Rattle.std.specs.Prelude.{reverse}
use Rattle.std.specs.List.{AllByRecursion}
use Rattle.qasm_expand.specs.AngleReadings.{depths}
use Rattle.qasm_expand.specs.StackReadings.{read_nodes}
use Rattle.qasm_expand.proofs.angle_depth.depth.Given as goal

abbrev pub invariant-loop-node : goal.invariant-loop-node
invariant-loop-node l = record {
  read : read_nodes depths (drop l.node-index l.node-items) (reverse l.stack.items) ≡ read_nodes depths l.angle [];
  small : AllByRecursion (λ d. d ≤ l.node-index) (reverse l.stack.items);
}
