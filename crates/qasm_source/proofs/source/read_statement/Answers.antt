use Rattle.std.proofs.Common.{arith}
use Rattle.qasm_source.proofs.Reading.{accepted_more}
use Rattle.qasm_source.proofs.source.read_statement.Goals as goal

pub returns-clause-ok : goal.returns-clause-ok
returns-clause-ok c =
    accepted_more c.args.source.now c.args.tokens.now c.args.scope.now c.admit.new.self c.args.place c.in_ok-statement.next c.in_ok-statement.statement
    c.requires.so_far c.in_ok-statement.ensures.ok c.in_ok-check.ensures c.in_ok-admit.ensures.ok

pub returns-clause-within : goal.returns-clause-within
returns-clause-within c =
    let is = c.in_ok-statement.ensures.ok in
    (omega (arith, is.goes_on), omega (arith, is.within, c.each_token_is_seen.ensures c.args.source.now c.args.tokens.now.tokens))
