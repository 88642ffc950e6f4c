use Rattle.std.proofs.Common.{◌≡◌, [], drop}
use Rattle.std.specs.Prelude.{reverse}
use Rattle.qasm_expand.specs.AngleReadings.{texts}
use Rattle.qasm_expand.specs.StackReadings.{read_nodes}
use Rattle.qasm_expand.proofs.angle_text.text_bytes.Given as goal

abbrev pub invariant-loop-node : goal.invariant-loop-node
invariant-loop-node l =
    read_nodes texts (drop l.node-index l.nodes) (reverse l.stack.items) ≡ read_nodes texts l.nodes []
