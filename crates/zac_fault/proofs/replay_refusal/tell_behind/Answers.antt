use Rattle.std.proofs.Common.{codes, map}
use Rattle.std.proofs.lemmas.Result.{err_from_is_err_and}
use Rattle.zac_fault.specs.Parts.{part_bytes}
use Rattle.zac_fault.proofs.Telling.{failed_second}
use Rattle.zac_fault.proofs.replay_refusal.tell_behind.Goals as goal

pub returns-in_err-tell_parts-2-clause-line : goal.returns-in_err-tell_parts-2-clause-line
returns-in_err-tell_parts-2-clause-line g c =
    let p = err_from_is_err_and c.from_residual-in_err-tell_parts-2.result c.from_residual-in_err-tell_parts-2.ensures.1 in
    rw p.1 (failed_second c.writes_add_up.ensures (map part_bytes c.args.lead.now) (map part_bytes c.args.detail.now) (codes "\n") (g.E.Sink.written c.args.err.now) (g.E.Sink.written c.tell_parts.new.err) (g.E.Sink.written c.tell_parts-2.new.err) c.in_ok-tell_parts.ensures.line c.in_err-tell_parts-2.ensures.line)
