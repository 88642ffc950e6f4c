use Rattle.std.proofs.Common.{◌≡◌, ◌<◌, List, length, ap, subst, ◌∙◌, arith}
use Rattle.std.proofs.lemmas.Result.{err_from_is_err_and}
use Rattle.qasm_form.specs.declared.stmt.Stmt.{Stmt}
use Rattle.qasm_names.specs.Environment.{environment}
use Rattle.qasm_expand.specs.Expansion.{top_calls}
use Rattle.qasm_expand.specs.Top.{IsStopped, visits_below}
use Rattle.qasm_expand.specs.Walks.{Walks, Passes}
use Rattle.qasm_expand.proofs.ProgramWalks.{all_visits, below_fails, walks_below_more}
use Rattle.qasm_expand.proofs.WalksLemmas.{walks_none}
use Rattle.qasm_expand.proofs.statement.walk_all.Goals as goal

pub loop-place-init : goal.loop-place-init
loop-place-init c = walks_none (environment c.args.program.now.header c.args.program.now.statements).gates c.new-walk.result

pub returns-in_err-visit-clause-err : goal.returns-in_err-visit-clause-err
returns-in_err-visit-clause-err c =
    let p = c.args.program.now in
    let gates = (environment p.header p.statements).gates in
    let r = err_from_is_err_and c.from_residual.result c.from_residual.ensures.1 in
    let less : c.loop-place.place < length p.statements = subst (λ (ss : List Stmt). c.loop-place.place < length ss) c.statements-place-end.ensures.list c.loop-place-test.true in
    let passes : Passes gates c.new-walk.result (top_calls p) c.in_err-visit.field-0.0 = subst (λ vs. Passes gates c.new-walk.result vs c.in_err-visit.field-0.0) (all_visits p) (below_fails p gates c.new-walk.result c.loop-place.walk c.loop-place.place (length p.statements) c.in_err-visit.field-0.0 less c.loop-place.invariant c.in_err-visit.ensures.err) in
    let stopped : IsStopped p c.in_err-visit.field-0.0 = record { start = c.new-walk.result; calls = c.new-walk.ensures.calls; nodes = c.new-walk.ensures.nodes; passes = passes } in
    rw (r.1, r.2) stopped

pub loop-place-preserved : goal.loop-place-preserved
loop-place-preserved c =
    let p = c.args.program.now in
    walks_below_more p (environment p.header p.statements).gates c.new-walk.result c.loop-place.walk c.visit.new.walk c.loop-place.place c.loop-place.invariant c.in_ok-visit.ensures.ok

pub returns-clause-ok : goal.returns-clause-ok
returns-clause-ok c =
    let p = c.args.program.now in
    let gates = (environment p.header p.statements).gates in
    let same = ap (λ (ss : List Stmt). length ss) c.statements-place-end.ensures.list in
    let at : c.loop-place.place ≡ length p.statements = omega (arith, same) in
    record {
      start = c.new-walk.result;
      calls = c.new-walk.ensures.calls;
      nodes = c.new-walk.ensures.nodes;
      ops = c.new-walk.ensures.ops;
      walks = subst (Walks gates c.new-walk.result c.loop-place.walk) (ap (visits_below p) at ∙ all_visits p) c.loop-place.invariant;
    }
