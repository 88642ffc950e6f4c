use Rattle.qasm_parse.proofs.AnswerLemmas.{gives_shorter}
use Rattle.qasm_parse.proofs.reader.read_at.Goals as goal

pub returns-then-from-eq0-clause-shorter : goal.returns-then-from-eq0-clause-shorter
returns-then-from-eq0-clause-shorter c =
    gives_shorter 0 c.args.end c.args.source.now c.args.rest.now c.version_at.result c.version_at.ensures

pub returns-else-from-eq0-clause-shorter : goal.returns-else-from-eq0-clause-shorter
returns-else-from-eq0-clause-shorter c =
    gives_shorter 1 c.args.end c.args.source.now c.args.rest.now c.statement_at.result c.statement_at.ensures
