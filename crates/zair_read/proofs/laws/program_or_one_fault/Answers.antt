use Rattle.zair_read.specs.Texts.{lines_of}
use Rattle.zair_read.proofs.Lines.{one_instr, whole_same, one_wrong, whole_or_wrong}
use Rattle.zair_read.proofs.Answered.{some_answer}
use Rattle.zair_read.proofs.laws.program_or_one_fault.Goals as goal

pub returns-clause-one_instr : goal.returns-clause-one_instr
returns-clause-one_instr c = one_instr

pub returns-clause-one_program : goal.returns-clause-one_program
returns-clause-one_program c bytes is js h k = whole_same (lines_of bytes) is js h k

pub returns-clause-one_line : goal.returns-clause-one_line
returns-clause-one_line c bytes m n h k = one_wrong (lines_of bytes) m n h k

pub returns-clause-not_both : goal.returns-clause-not_both
returns-clause-not_both c bytes is n h k = whole_or_wrong (lines_of bytes) is n h k

pub returns-clause-some : goal.returns-clause-some
returns-clause-some c bytes = some_answer (lines_of bytes)
