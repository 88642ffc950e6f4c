use Rattle.zair_read.proofs.CompactLines.{timed_instr}
use Rattle.zair_read.proofs.direct.timed.Goals as goal

pub returns : goal.returns
returns c =
    timed_instr c.in_ok-begin.begin c.in_ok-begin.end c.in_ok-act.act c.args.bytes.now c.in_ok-rest.rest.now c.in_ok-begin.rest.now
    c.in_ok-rest.ensures c.in_ok-begin.ensures.0 c.in_ok-begin.ensures.1 c.in_ok-begin.ensures.2 c.in_ok-act.ensures
