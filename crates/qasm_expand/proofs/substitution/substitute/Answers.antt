use Rattle.std.proofs.Common.{◌≡◌, sym, ◌∙◌, ap, subst, arith}
use Rattle.std.specs.List.{zip, AllByRecursion}
use Rattle.qasm_form.specs.Numbers.{HasNumber, IsExpression}
use Rattle.qasm_form.specs.Postfix.{IsPostfix}
use Rattle.qasm_expand.specs.Angles.{substitute}
use Rattle.qasm_expand.proofs.SubstitutionLemmas.{stand_more, put_more, put_done, put_expression}
use Rattle.qasm_expand.proofs.substitution.substitute.Goals as goal

pub loop-node-preserved : goal.loop-node-preserved
loop-node-preserved c =
    let pairs = zip c.args.params.now c.args.angles.now in
    let nodes = c.as_slice-node-items.result.now in
    let i = c.loop-node.node-index in
    let x = c.node-item.result in
    let made = c.in_ok-push_replaced.ensures in
    record {
      made = put_more pairs nodes i x c.loop-node.nodes.items c.push_replaced.new.nodes.items (substitute pairs c.args.expr.now) (omega arith) c.node-item.is made.nodes c.loop-node.invariant.made;
      stand = stand_more pairs nodes i x (omega arith) c.node-item.is c.loop-node.invariant.stand made.stands;
    }

pub invariant_of-result : goal.invariant_of-result
invariant_of-result c =
    let pairs = zip c.args.params.now c.args.angles.now in
    let nodes = c.as_slice-node-items.result.now in
    let i = c.loop-node.node-index in
    let same : nodes ≡ c.args.expr.now = c.as_slice-node-items.ensures.nodes in
    let is_expression : IsExpression nodes = record {
      postfix = subst IsPostfix (sym same) c.as_slice-node-items.ensures.postfix;
      numbers = subst (AllByRecursion HasNumber) (sym same) c.as_slice-node-items.ensures.numbers;
    } in
    let whole : IsExpression (substitute pairs nodes) = put_expression pairs nodes i c.loop-node-test.false c.loop-node.invariant.stand is_expression in
    let made : c.loop-node.nodes.items ≡ substitute pairs c.args.expr.now = put_done pairs nodes i c.loop-node.nodes.items (substitute pairs c.args.expr.now) c.loop-node-test.false c.loop-node.invariant.made in
    subst IsExpression (ap (substitute pairs) same ∙ (sym made ∙ sym c.of.ensures)) whole

pub returns : goal.returns
returns c =
    let pairs = zip c.args.params.now c.args.angles.now in
    c.of.ensures ∙ put_done pairs c.as_slice-node-items.result.now c.loop-node.node-index c.loop-node.nodes.items (substitute pairs c.args.expr.now) c.loop-node-test.false c.loop-node.invariant.made
