use Rattle.std.proofs.Common.{List, subst}
use Rattle.std.specs.List.{Any}
use Rattle.qasm_form.specs.declared.stmt.Node.{Node}
use Rattle.qasm_names.specs.Environment.{words_of}
use Rattle.qasm_names.specs.Refusals.{UsesOther}
use Rattle.qasm_scope.specs.Least.{IsLeastOffset}
use Rattle.qasm_scope.proofs.LeastLemmas.{first_none, first_all, found_more}
use Rattle.qasm_scope.proofs.bodies.least_other.Goals as goal

pub loop-node-init : goal.loop-node-init
loop-node-init c = first_none _ c.as_slice-node-items.result.now

pub loop-node-preserved : goal.loop-node-preserved
loop-node-preserved c =
    found_more _ c.as_slice-node-items.result.now c.loop-node.node-index c.node-item.result c.loop-node-test.true c.node-item.is c.loop-node.invariant c.other_at.ensures c.earlier-least.ensures

pub returns : goal.returns
returns c =
    let all = first_all (λ node at. UsesOther (words_of c.args.params.now) at node) c.as_slice-node-items.result.now c.loop-node.node-index c.loop-node-test.false c.loop-node.invariant in
    subst (λ (nodes : List Node). IsLeastOffset (λ at. Any (UsesOther (words_of c.args.params.now) at) nodes) c.loop-node.least) c.as_slice-node-items.ensures.nodes all
