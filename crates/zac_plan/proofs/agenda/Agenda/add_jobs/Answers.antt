use Rattle.std.proofs.Common.{[], ◌∷◌, subst}
use Rattle.zac_group.specs.Groups.{MoveGroup}
use Rattle.zac_plan.specs.Growth.{GoesOn}
use Rattle.zac_plan.specs.Plan.{job_of}
use Rattle.zac_plan.proofs.Growing.{jobs_more}
use Rattle.zac_plan.proofs.agenda.Agenda.add_jobs.Goals as goal

pub loop-group-preserved : goal.loop-group-preserved
loop-group-preserved c =
    let a = c.args.card.now in
    let groups = c.as_slice-group-items.result.now in
    let k = c.loop-group.group-index in
    let g = c.group-item.result in
    jobs_more a c.args.self.now c.loop-group.self c.add_job.new.self groups k g c.loop-group-test.true c.loop-group.invariant
    (subst (λ (h : MoveGroup). GoesOn c.loop-group.self c.add_job.new.self (job_of a h ∷ [])) c.group-item.is c.in_ok-add_job.ensures.ok)
