use Rattle.std.proofs.Common.{ℕ, List, arith, cond, Some, None, ◌∙◌}
use Rattle.std.specs.Str.{bytes_eq}
use Rattle.qasm_expand.specs.Numbering.{extent_in}
use Rattle.qasm_expand.proofs.ExtentLemmas.{extents_some, extents_none, count_some, count_none, stepped}
use Rattle.qasm_expand.proofs.extent.extents_of.Goals as goal
use Rattle.qasm_expand.proofs.extent.extents_of.Goals.{in-Some+in_ok-note, in_default}

pub loop-stmt-preserved : goal.loop-stmt-preserved
loop-stmt-preserved c =
    let kind = c.args.kind in
    let xs = c.args.statements.now in
    let i = c.loop-stmt.stmt-index in
    let x = c.stmt-item.result in
    let start = c.loop-stmt.start in
    let old = λ (q : List ℕ). extent_in c.loop-stmt.extents q in
    elim c.match-register_in.branch [
      | in-Some+in_ok-note w ↦ record {
        few = rw w.start-is (omega (arith, count_some kind xs i x w.in-Some.name.now w.in-Some.size c.loop-stmt-test.true c.stmt-item.is w.in-Some.ensures.named, c.loop-stmt.invariant.few));
        rest = λ q. rw (w.extents-is, w.start-is) (stepped (extent_in w.note.new.extents q) (old q) (cond (bytes_eq q w.in-Some.name.now) (Some (record { start = start; size = w.in-Some.size })) None) _ (w.in_ok-note.ensures q) ∙ extents_some kind xs i x w.in-Some.name.now w.in-Some.size start q (old q) c.loop-stmt-test.true c.stmt-item.is w.in-Some.ensures.named ∙ c.loop-stmt.invariant.rest q);
      }
      | in_default w ↦ record {
        few = rw w.start-is (omega (arith, count_none kind xs i x c.loop-stmt-test.true c.stmt-item.is w.in_default.ensures.named, c.loop-stmt.invariant.few));
        rest = λ q. rw (w.extents-is, w.start-is) (extents_none kind xs i x start q (old q) c.loop-stmt-test.true c.stmt-item.is w.in_default.ensures.named ∙ c.loop-stmt.invariant.rest q);
      }
    ]
