use Rattle.std.proofs.Common.{◌∙◌, ◌++◌, ap}
use Rattle.zair_text.specs.Lines.{instr_line}
use Rattle.zair_text.proofs.Growing.{lines_before, prefix_at, line_more}
use Rattle.zair_text.proofs.Writable.{writable_more}
use Rattle.zair_text.proofs.write.write_instrs.Goals as goal

pub returns-in_err-add_line-clause-memory : goal.returns-in_err-add_line-clause-memory
returns-in_err-add_line-clause-memory g c =
    λ h. lines_before instr_line c.args.instrs.now c.loop-instr.instr-index c.instr-item.result _ _ c.loop-instr-test.true c.instr-item.is c.loop-instr.invariant.0

pub returns-in_err-write-clause-failed : goal.returns-in_err-write-clause-failed
returns-in_err-write-clause-failed g c =
    λ h. prefix_at c.writes_add_up.ensures instr_line c.args.instrs.now c.loop-instr.instr-index c.instr-item.result _ _ _ _ c.loop-instr-test.true c.instr-item.is
    (c.as_slice.ensures.value ∙ (c.in_ok-add_line.ensures.line ∙ ap (λ s. s ++ instr_line c.instr-item.result) c.clear.ensures.items)) c.loop-instr.invariant.0 c.in_err-write.ensures.bytes

pub loop-instr-preserved : goal.loop-instr-preserved
loop-instr-preserved g c = (
  line_more c.writes_add_up.ensures instr_line c.args.instrs.now c.loop-instr.instr-index c.instr-item.result _ _ _ _ c.loop-instr-test.true c.instr-item.is
      (c.as_slice.ensures.value ∙ (c.in_ok-add_line.ensures.line ∙ ap (λ s. s ++ instr_line c.instr-item.result) c.clear.ensures.items)) c.loop-instr.invariant.0 c.in_ok-write.ensures.bytes,
  c.in_ok-write.ensures.cause ∙ c.loop-instr.invariant.1,
  writable_more c.args.instrs.now c.loop-instr.instr-index c.instr-item.result c.loop-instr-test.true c.instr-item.is c.requires c.in_ok-add_line.ensures.small c.loop-instr.invariant.2,
)
