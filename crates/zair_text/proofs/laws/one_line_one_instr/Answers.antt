use Rattle.zair_text.proofs.Distinct.{instr_same, value_same}
use Rattle.zair_text.proofs.laws.one_line_one_instr.Goals as goal

pub returns : goal.returns
returns c =
    instr_same c.args.a.now c.args.b.now c.requires.first c.requires.second
    (value_same _ _ c.args.bytes.now c.requires.line_of_first c.requires.line_of_second)
