use Rattle.std.proofs.Common.{◌≡◌, List, ℕ, map, Err, Result, ap, subst, sym}
use Rattle.std.proofs.lemmas.Result.{err_from_is_err_and, on_ok_weaker}
use Rattle.zac_io.specs.Outside.{Appends, AppendsPrefix}
use Rattle.zair_form.specs.declared.program.Instr.{Instr}
use Rattle.zair_text.specs.declared.write.WriteFault.{WriteFault}
use Rattle.zair_text.specs.declared.write.WriteFault.TheVariants.{Memory, Failed}
use Rattle.zair_text.specs.Lines.{instr_line, totals_line, joined}
use Rattle.zair_text.specs.Tally.{totals_of}
use Rattle.zair_text.specs.Writing.{AppendsLines}
use Rattle.zair_text.proofs.Growing.{joined_more, not_the_last}
use Rattle.zair_text.proofs.Steps.{own_steps_in_program}
use Rattle.zair_text.proofs.write.write_later.Goals as goal

pub write_instrs-requires : goal.write_instrs-requires
write_instrs-requires g c = rw c.instrs.ensures.value (own_steps_in_program c.args.program.now c.instrs.ensures.program)

pub returns-in_err-write_instrs-clause-failed : goal.returns-in_err-write_instrs-clause-failed
returns-in_err-write_instrs-clause-failed g c =
    λ h.
    let p = err_from_is_err_and c.from_residual.result c.from_residual.ensures.1 in
    let err : WriteFault → Result (Unit {0}) WriteFault = λ e. Err e in
    let is : c.in_err-write_instrs.field-0.0 ≡ Failed = cc in
    let lines = map instr_line c.args.program.now in
    let last = totals_line (totals_of c.args.program.now) in
    let Of : List Instr → Type 0 = λ is. AppendsPrefix (g.K.Sink.written c.args.sink.now) (g.K.Sink.written c.write_instrs.new.sink) (joined (map instr_line is)) in
    let P : List ℕ → Type 0 = λ s. AppendsPrefix (g.K.Sink.written c.args.sink.now) (g.K.Sink.written c.write_instrs.new.sink) s in
    subst P (sym (joined_more lines last)) (c.writes_add_up.ensures.front _ _ (joined lines) last (subst Of c.instrs.ensures.value (c.in_err-write_instrs.ensures.failed (ap err is))))

pub returns-in_err-write_instrs-clause-memory : goal.returns-in_err-write_instrs-clause-memory
returns-in_err-write_instrs-clause-memory g c =
    λ h.
    let p = err_from_is_err_and c.from_residual.result c.from_residual.ensures.1 in
    let err : WriteFault → Result (Unit {0}) WriteFault = λ e. Err e in
    let is : c.in_err-write_instrs.field-0.0 ≡ Memory = cc in
    let Of : List Instr → Type 0 = λ is. AppendsLines (g.K.Sink.written c.args.sink.now) (g.K.Sink.written c.write_instrs.new.sink) (map instr_line is) in
    not_the_last (map instr_line c.args.program.now) (totals_line (totals_of c.args.program.now)) _ _ (subst Of c.instrs.ensures.value (c.in_err-write_instrs.ensures.memory (ap err is)))

pub returns-clause-ok : goal.returns-clause-ok
returns-clause-ok g c =
    let lines = map instr_line c.args.program.now in
    let last = totals_line (totals_of c.args.program.now) in
    let Of : List Instr → Type 0 = λ is. Appends (g.K.Sink.written c.args.sink.now) (g.K.Sink.written c.write_instrs.new.sink) (joined (map instr_line is)) in
    let P : List ℕ → Type 0 = λ s. Appends (g.K.Sink.written c.args.sink.now) (g.K.Sink.written c.write_end.new.sink) s in
    on_ok_weaker c.write_end.result
    (λ h. subst P (sym (joined_more lines last)) (c.writes_add_up.ensures.both _ _ _ (joined lines) last (subst Of c.instrs.ensures.value c.in_ok-write_instrs.ensures.ok) h))
    c.write_end.ensures.ok

pub returns-clause-failed : goal.returns-clause-failed
returns-clause-failed g c =
    let lines = map instr_line c.args.program.now in
    let last = totals_line (totals_of c.args.program.now) in
    let Of : List Instr → Type 0 = λ is. Appends (g.K.Sink.written c.args.sink.now) (g.K.Sink.written c.write_instrs.new.sink) (joined (map instr_line is)) in
    let P : List ℕ → Type 0 = λ s. AppendsPrefix (g.K.Sink.written c.args.sink.now) (g.K.Sink.written c.write_end.new.sink) s in
    λ h. subst P (sym (joined_more lines last)) (c.writes_add_up.ensures.behind _ _ _ (joined lines) last (subst Of c.instrs.ensures.value c.in_ok-write_instrs.ensures.ok) (c.write_end.ensures.failed h))
