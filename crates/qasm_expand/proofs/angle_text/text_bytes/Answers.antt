use Rattle.std.proofs.Common.{◌≡◌, [], sym, ◌∙◌, ap}
use Rattle.std.specs.Prelude.{reverse}
use Rattle.qasm_expand.specs.AngleReadings.{texts}
use Rattle.qasm_expand.specs.StackReadings.{read_nodes, first_or}
use Rattle.qasm_expand.proofs.AngleReadingsLemmas.{read_done, text_read}
use Rattle.qasm_expand.proofs.angle_text.text_bytes.Goals as goal

pub returns-in-None : goal.returns-in-None
returns-in-None c =
    let nodes = c.args.nodes.now in
    let stack = reverse c.loop-node.stack.items in
    let read : stack ≡ read_nodes texts nodes [] = read_done texts nodes c.loop-node.node-index stack (read_nodes texts nodes []) c.loop-node-test.false c.loop-node.invariant in
    c.of.ensures ∙ (c.new.ensures.items ∙ sym (text_read nodes ∙ ap (λ s. first_or s []) (sym read ∙ c.in-None.ensures.0)))

pub returns : goal.returns
returns c =
    let nodes = c.args.nodes.now in
    let stack = reverse c.loop-node.stack.items in
    let read : stack ≡ read_nodes texts nodes [] = read_done texts nodes c.loop-node.node-index stack (read_nodes texts nodes []) c.loop-node-test.false c.loop-node.invariant in
    sym (text_read nodes ∙ ap (λ s. first_or s []) (sym read ∙ c.in-Some.ensures))
