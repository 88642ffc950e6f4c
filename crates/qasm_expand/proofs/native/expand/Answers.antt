use Rattle.qasm_expand.proofs.NativeLemmas.{memory_alone, limit_or_memory}
use Rattle.qasm_expand.proofs.native.expand.Goals as goal

pub returns-clause-within : goal.returns-clause-within
returns-clause-within c = memory_alone c.args.program.now c.native.result c.native.ensures.err

pub returns-clause-passes : goal.returns-clause-passes
returns-clause-passes c = λ kind count. limit_or_memory c.args.program.now c.native.result kind count c.native.ensures.within c.native.ensures.err
