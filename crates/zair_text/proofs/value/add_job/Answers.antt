use Rattle.zair_text.proofs.Objects.{job_added}
use Rattle.zair_text.proofs.value.add_job.Goals as goal

pub returns : goal.returns
returns c = job_added c.args.times.0 c.args.times.1 c.args.aod _ c.args.steps.now _ _ _ _ _ _ c.from.ensures c.in_ok-add_number.ensures c.in_ok-add_number-2.ensures c.in_ok-add_number-3.ensures c.in_ok-add_list.ensures c.in_ok-extend_from_slice.ensures.items
