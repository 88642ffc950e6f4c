use Rattle.std.proofs.Common.{ap, sym, ◌∙◌}
use Rattle.qasm_form.specs.declared.stmt.Expr.{Expr}
use Rattle.std.specs.List.{flat_map}
use Rattle.qasm_expand.specs.Limits.{literal_of, passed_by_literals}
use Rattle.qasm_expand.proofs.LiteralsLemmas.{passed_found, passed_more}
use Rattle.qasm_expand.proofs.literals.passed_in_exprs.Goals as goal

pub returns-then-is_some : goal.returns-then-is_some
returns-then-is_some c =
    passed_found (λ (expr : Expr). flat_map literal_of expr) c.args.exprs.now c.loop-expr.expr-index c.expr-item.result c.passed_in_nodes-passed.result c.loop-expr-test.true c.expr-item.is (c.passed_in_nodes-passed.ensures ∙ ap (λ nodes. passed_by_literals (flat_map literal_of nodes)) c.as_slice.ensures.nodes) (sym c.is_some.ensures ∙ c.if-is_some.true) c.loop-expr.invariant

pub loop-expr-preserved : goal.loop-expr-preserved
loop-expr-preserved c =
    passed_more (λ (expr : Expr). flat_map literal_of expr) c.args.exprs.now c.loop-expr.expr-index c.expr-item.result c.passed_in_nodes-passed.result c.loop-expr-test.true c.expr-item.is (c.passed_in_nodes-passed.ensures ∙ ap (λ nodes. passed_by_literals (flat_map literal_of nodes)) c.as_slice.ensures.nodes) (sym c.is_some.ensures ∙ c.if-is_some.false) c.loop-expr.invariant
