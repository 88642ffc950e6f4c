use Rattle.std.proofs.Common.{arith}
use Rattle.zac_world.proofs.SpanFacts.{reached_between, least_between}
use Rattle.zac_world.proofs.span.least_distance.Goals as goal

pub returns-clause-reached : goal.returns-clause-reached
returns-clause-reached c =
    reached_between c.args.first c.args.step c.args.count c.args.n c.min.result c.requires.rises (omega arith) (omega arith) (omega arith)

pub returns-clause-least : goal.returns-clause-least
returns-clause-least c =
    least_between c.args.first c.args.step c.args.count c.args.n c.min.result c.requires.rises (omega arith) (omega arith) (omega arith)
