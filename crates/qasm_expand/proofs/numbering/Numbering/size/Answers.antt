use Rattle.qasm_expand.proofs.NumberingLemmas.{extent-size, extent-none}
use Rattle.qasm_expand.proofs.numbering.Numbering.size.Goals as goal

pub returns-in-Some : goal.returns-in-Some
returns-in-Some c = extent-size c.args.self.now.kind c.args.self.now.statements.now c.args.name.now _ c.in-Some.ensures

pub returns-in-None : goal.returns-in-None
returns-in-None c = extent-none c.args.self.now.kind c.args.self.now.statements.now c.args.name.now c.in-None.ensures
