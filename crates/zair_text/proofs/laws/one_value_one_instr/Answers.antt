use Rattle.zair_text.proofs.Distinct.{instr_same}
use Rattle.zair_text.proofs.laws.one_value_one_instr.Goals as goal

pub returns : goal.returns
returns c = instr_same c.args.a.now c.args.b.now c.requires.first c.requires.second
