use Rattle.std.proofs.Common.{sym, ◌∙◌}
use Rattle.qasm_expand.specs.Limits.{statement_literals}
use Rattle.qasm_expand.proofs.LiteralsLemmas.{passed_found, passed_more}
use Rattle.qasm_expand.proofs.literals.passed_by_literals.Goals as goal

pub returns-then-is_some : goal.returns-then-is_some
returns-then-is_some c =
    passed_found statement_literals c.args.statements.now c.loop-stmt.stmt-index c.stmt-item.result c.passed_in_statement-passed.result c.loop-stmt-test.true c.stmt-item.is c.passed_in_statement-passed.ensures (sym c.is_some.ensures ∙ c.if-is_some.true) c.loop-stmt.invariant

pub loop-stmt-preserved : goal.loop-stmt-preserved
loop-stmt-preserved c =
    passed_more statement_literals c.args.statements.now c.loop-stmt.stmt-index c.stmt-item.result c.passed_in_statement-passed.result c.loop-stmt-test.true c.stmt-item.is c.passed_in_statement-passed.ensures (sym c.is_some.ensures ∙ c.if-is_some.false) c.loop-stmt.invariant
