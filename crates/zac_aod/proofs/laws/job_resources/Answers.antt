use Rattle.zac_aod.proofs.JobResources.{has_resources}
use Rattle.zac_aod.proofs.laws.job_resources.Goals as goal

pub returns : goal.returns
returns c = λ shifts aod g. has_resources c.args.card.now shifts g aod
