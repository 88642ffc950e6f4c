use Rattle.zair_read.proofs.CompactLines.{job_instr}
use Rattle.zair_read.proofs.direct.job.Goals as goal

pub returns : goal.returns
returns c =
    job_instr c.in_ok-aod.aod c.in_ok-begin.begin c.in_ok-begin.end c.in_ok-steps.steps
    c.args.bytes.now c.in_ok-aod.rest.now c.in_ok-rest.rest.now c.in_ok-begin.rest.now c.in_ok-rest-2.rest.now c.in_ok-steps.rest.now
    c.in_ok-aod.ensures.0 c.in_ok-rest.ensures c.in_ok-begin.ensures.0 c.in_ok-rest-2.ensures c.in_ok-steps.ensures.0 c.in_ok-last.ensures
    c.in_ok-aod.ensures.1 c.in_ok-begin.ensures.1 c.in_ok-begin.ensures.2 c.in_ok-steps.ensures.1
