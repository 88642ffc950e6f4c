use Rattle.std.proofs.Common.{rules, ◌≡◌, [], ◌∷◌, ◌+◌, suc, drop, sym, ◌∙◌, ap, add-one, arith, subst}
use Rattle.std.proofs.lemmas.List.{drop_more}
use Rattle.std.specs.Prelude.{reverse}
use Rattle.qasm_expand.specs.AngleReadings.{depths}
use Rattle.qasm_expand.specs.StackReadings.{read_nodes, read_node, first_or}
use Rattle.qasm_expand.proofs.AngleReadingsLemmas.{read_done, depth_read}
use Rattle.qasm_expand.proofs.DepthLemmas.{AtMost, read_at_most}
use Rattle.qasm_expand.proofs.angle_depth.depth.Goals as goal

pub loop-node-preserved : goal.loop-node-preserved
loop-node-preserved c =
    let nodes = c.as_slice-node-items.result.now in
    let i = c.loop-node.node-index in
    let x = c.node-item.result in
    let before = reverse c.loop-node.stack.items in
    let after : reverse c.read_depth.new.stack.items ≡ read_node depths x before = c.in_ok-read_depth.ensures in
    let rest : drop i nodes ≡ x ∷ drop (i + 1) nodes = cc (drop_more nodes i x (omega arith), c.node-item.is) in
    record {
      read = ap (read_nodes depths (drop (i + 1) nodes)) after ∙ (ap (λ ns. read_nodes depths ns before) (sym rest) ∙ c.loop-node.invariant.read);
      small = subst (λ n. AtMost n (reverse c.read_depth.new.stack.items)) (sym (add-one i)) (subst (AtMost (suc i)) (sym after) (read_at_most x i before c.loop-node.invariant.small));
    }

pub returns : goal.returns
returns c =
    let angle = c.args.angle.now in
    let nodes = c.as_slice-node-items.result.now in
    let stack = reverse c.loop-node.stack.items in
    let read : stack ≡ read_nodes depths angle [] = read_done depths nodes c.loop-node.node-index stack (read_nodes depths angle []) c.loop-node-test.false c.loop-node.invariant.read in
    let top : c.unwrap_or.result ≡ first_or stack 0 = search rules in
    top ∙ (ap (λ s. first_or s 0) read ∙ sym (depth_read angle 0 c.as_slice-node-items.ensures.postfix))
