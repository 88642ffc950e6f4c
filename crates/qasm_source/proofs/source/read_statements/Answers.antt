use Rattle.std.proofs.Common.{ap, length, arith}
use Rattle.qasm_source.proofs.source.read_statements.Goals as goal

pub overflow_cast-count : goal.overflow_cast-count
overflow_cast-count c =
    omega (arith, c.tokens_are_few.ensures 0 c.args.tokens.now.tokens c.args.tokens.now.source_length c.all.ensures.in_order, c.all.ensures.fits, ap length c.all.ensures.tokens)
