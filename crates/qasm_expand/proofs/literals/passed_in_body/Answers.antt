use Rattle.std.proofs.Common.{ap, sym, ◌∙◌}
use Rattle.qasm_form.specs.declared.stmt.BodyOp.{BodyOp}
use Rattle.qasm_expand.specs.Limits.{literals_in, passed_by_literals}
use Rattle.qasm_expand.proofs.LiteralsLemmas.{passed_found, passed_more}
use Rattle.qasm_expand.proofs.literals.passed_in_body.Goals as goal

pub returns-then-is_some : goal.returns-then-is_some
returns-then-is_some c =
    passed_found (λ (op : BodyOp). literals_in op.exprs) c.args.body.now c.loop-op.op-index c.op-item.result c.passed_in_exprs-passed.result c.loop-op-test.true c.op-item.is (c.passed_in_exprs-passed.ensures ∙ ap (λ exprs. passed_by_literals (literals_in exprs)) c.as_slice.ensures) (sym c.is_some.ensures ∙ c.if-is_some.true) c.loop-op.invariant

pub loop-op-preserved : goal.loop-op-preserved
loop-op-preserved c =
    passed_more (λ (op : BodyOp). literals_in op.exprs) c.args.body.now c.loop-op.op-index c.op-item.result c.passed_in_exprs-passed.result c.loop-op-test.true c.op-item.is (c.passed_in_exprs-passed.ensures ∙ ap (λ exprs. passed_by_literals (literals_in exprs)) c.as_slice.ensures) (sym c.is_some.ensures ∙ c.if-is_some.false) c.loop-op.invariant
