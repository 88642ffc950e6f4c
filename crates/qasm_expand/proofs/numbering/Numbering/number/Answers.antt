use Rattle.std.proofs.Common.{arith}
use Rattle.qasm_expand.proofs.NumberingLemmas.{extent-number, no_extent}
use Rattle.qasm_expand.proofs.numbering.Numbering.number.Goals as goal

pub overflow_cast-result : goal.overflow_cast-result
overflow_cast-result c =
    let at = extent-number _ _ _ _ c.in-Some.ensures c.requires in
    omega (arith, at.below, c.args.self.now.few)

pub overflow_add-result : goal.overflow_add-result
overflow_add-result c =
    let at = extent-number _ _ _ _ c.in-Some.ensures c.requires in
    omega (arith, at.below, c.args.self.now.few)

pub unreachable-requires : goal.unreachable-requires
unreachable-requires c = no_extent _ _ _ c.in-None.ensures c.requires

pub returns : goal.returns
returns c = (extent-number _ _ _ _ c.in-Some.ensures c.requires).number
