use Rattle.std.proofs.Common.{◌∙◌, ℕ, subst}
use Rattle.std.proofs.lemmas.Result.{err_from_is_err_and}
use Rattle.zac_io.specs.Outside.{Rose}
use Rattle.zac_fault.proofs.Telling.{said_more, said_in_part}
use Rattle.zac_fault.proofs.refusal.tell_parts.Goals as goal

pub loop-part-preserved : goal.loop-part-preserved
loop-part-preserved g c =
    let at = c.loop-part in
    let more = said_more c.writes_add_up.ensures c.args.parts.now at.part-index _ c.loop-part-test.true at.invariant.said at.invariant.is (g.E.Sink.written c.args.err.now) (g.E.Sink.written at.err) (g.E.Sink.written c.tell_part.new.err) at.invariant.grown c.in_ok-tell_part.ensures.line in
    record { said = more.0; is = more.1; grown = more.2; calm = c.in_ok-tell_part.ensures.cause ∙ at.invariant.calm }

pub returns-in_err-tell_part-clause-line : goal.returns-in_err-tell_part-clause-line
returns-in_err-tell_part-clause-line g c =
    let at = c.loop-part in
    let p = err_from_is_err_and c.from_residual.result c.from_residual.ensures.1 in
    rw p.1 (said_in_part c.writes_add_up.ensures c.args.parts.now at.part-index _ c.loop-part-test.true at.invariant.said at.invariant.is (g.E.Sink.written c.args.err.now) (g.E.Sink.written at.err) (g.E.Sink.written c.tell_part.new.err) at.invariant.grown c.in_err-tell_part.ensures.line)

pub returns-in_err-tell_part-clause-cause : goal.returns-in_err-tell_part-clause-cause
returns-in_err-tell_part-clause-cause g c =
    let p = err_from_is_err_and c.from_residual.result c.from_residual.ensures.1 in
    rw p.1 (subst (λ (n : ℕ). Rose n (g.E.Sink.faults c.tell_part.new.err)) c.loop-part.invariant.calm c.in_err-tell_part.ensures.cause)
