use Rattle.std.proofs.Common.{◌≡◌, Err, Result, ap}
use Rattle.std.proofs.lemmas.Result.{err_from_is_err_and, on_ok_weaker}
use Rattle.zair_text.specs.declared.write.WriteFault.{WriteFault}
use Rattle.zair_text.specs.declared.write.WriteFault.TheVariants.{Memory, Failed}
use Rattle.zair_text.specs.Values.{header_value}
use Rattle.zair_text.specs.Lines.{line, later_lines, joined}
use Rattle.zair_text.proofs.Growing.{first_and_lines, no_line}
use Rattle.zair_text.proofs.write.write_program.Goals as goal

pub returns-in_err-write_header-clause-failed : goal.returns-in_err-write_header-clause-failed
returns-in_err-write_header-clause-failed g c =
    λ h.
    let p = err_from_is_err_and c.from_residual.result c.from_residual.ensures.1 in
    let err : WriteFault → Result (Unit {0}) WriteFault = λ e. Err e in
    let is : c.in_err-write_header.field-0.0 ≡ Failed = cc in
    c.writes_add_up.ensures.front _ _ (line header_value) (joined (later_lines c.args.program.now)) (c.in_err-write_header.ensures.failed (ap err is))

pub returns-in_err-write_header-clause-memory : goal.returns-in_err-write_header-clause-memory
returns-in_err-write_header-clause-memory g c =
    λ h.
    let p = err_from_is_err_and c.from_residual.result c.from_residual.ensures.1 in
    let err : WriteFault → Result (Unit {0}) WriteFault = λ e. Err e in
    let is : c.in_err-write_header.field-0.0 ≡ Memory = cc in
    let same = c.in_err-write_header.ensures.memory (ap err is) in
    rw same (no_line c.writes_add_up.ensures (line header_value) (later_lines c.args.program.now) (g.K.Sink.written c.args.sink.now))

pub returns-clause-ok : goal.returns-clause-ok
returns-clause-ok g c =
    on_ok_weaker c.write_later.result
    (λ h. c.writes_add_up.ensures.both _ _ _ (line header_value) (joined (later_lines c.args.program.now)) c.in_ok-write_header.ensures.ok h)
    c.write_later.ensures.ok

pub returns-clause-failed : goal.returns-clause-failed
returns-clause-failed g c =
    λ h. c.writes_add_up.ensures.behind _ _ _ (line header_value) (joined (later_lines c.args.program.now)) c.in_ok-write_header.ensures.ok (c.write_later.ensures.failed h)

pub returns-clause-memory : goal.returns-clause-memory
returns-clause-memory g c =
    λ h. first_and_lines c.writes_add_up.ensures (line header_value) (later_lines c.args.program.now) _ _ _ c.in_ok-write_header.ensures.ok (c.write_later.ensures.memory h)
