use Rattle.std.proofs.Common.{◌≡◌, map, take}
use Rattle.zac_io.specs.Outside.{Appends}
use Rattle.zair_text.specs.Lines.{instr_line, joined}
use Rattle.zair_text.specs.Ranges.{AreWritable}
use Rattle.zair_text.proofs.write.write_instrs.Given as goal

abbrev pub invariant-loop-instr : goal.invariant-loop-instr
invariant-loop-instr g l =
    Appends (g.K.Sink.written l.initial.sink) (g.K.Sink.written l.sink) (joined (map instr_line (take l.instr-index l.instrs)))
    × (g.K.Sink.faults l.sink ≡ g.K.Sink.faults l.initial.sink)
    × AreWritable (take l.instr-index l.instrs)
