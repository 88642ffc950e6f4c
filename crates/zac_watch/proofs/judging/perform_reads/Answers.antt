use Rattle.std.proofs.Common.{ap, ◌∙◌}
use Rattle.std.proofs.lemmas.Result.{err_from_is_err_and}
use Rattle.zac_gates.specs.declared.circuit.Op.TheVariants as op
use Rattle.zac_gates.specs.Checklist.{Checking}
use Rattle.zac_gates.specs.Log.{Entry}
use Rattle.zair_form.specs.declared.step.ReadOf.{ReadOf}
use Rattle.zac_watch.proofs.PerformFacts.{next_performed, next_refused}
use Rattle.zac_watch.proofs.judging.perform_reads.Goals as goal

abbrev entry_of : ReadOf → Entry
entry_of p = record { op = p.op; what = op.Read p.q p.bit }

abbrev none : ReadOf
none = record { op = 0; q = 0; bit = 0 }

pub returns-in_err-perform-clause-err : goal.returns-in_err-perform-clause-err
returns-in_err-perform-clause-err c =
    let r = err_from_is_err_and c.from_residual.result c.from_residual.ensures.1 in
    rw (r.1, r.2)
    (next_refused entry_of c.args.reads.now none c.loop-read.read-index c.loop-read-test.true c.args.circuit.now c.args.checklist.now.log c.loop-read.checklist
    c.loop-read.invariant.same c.loop-read.invariant.performed c.in_err-perform.field-0.0 c.in_err-perform.ensures.err.0)

pub loop-read-preserved : goal.loop-read-preserved
loop-read-preserved c =
    let done = c.in_ok-perform.ensures.ok in
    record {
      same = ap (λ (g : Checking). g.circuit) done.1 ∙ c.loop-read.invariant.same;
      performed = next_performed entry_of c.args.reads.now none c.loop-read.read-index c.loop-read-test.true c.args.circuit.now c.args.checklist.now.log c.loop-read.checklist
          c.loop-read.invariant.same c.loop-read.invariant.performed c.perform.new.self done.0 (ap (λ (g : Checking). g.log) done.1);
    }
