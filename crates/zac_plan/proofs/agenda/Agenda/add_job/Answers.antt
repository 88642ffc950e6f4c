use Rattle.std.proofs.Common.{◌≡◌, [], ◌∷◌, ◌++◌, ap, ◌∙◌, subst}
use Rattle.std.specs.List.{AllByRecursion}
use Rattle.zac_aod.specs.Jobs.{JobOf}
use Rattle.zac_aod.specs.Lowering.{job_steps}
use Rattle.zac_plan.proofs.Growing.{goes_on_by, job_fits}
use Rattle.zac_plan.specs.Plan.{job_of}
use Rattle.zac_sched.specs.declared.todo.Todo.TheVariants.{Job}
use Rattle.zair_form.specs.Ranges.{StepFits}
use Rattle.zac_plan.proofs.agenda.Agenda.add_job.Goals as goal

pub returns : goal.returns
returns c =
    let a = c.args.card.now in
    let g = c.args.group.now in
    let steps : c.steps-steps.result.now ≡ job_steps a g.shifts 0 = c.steps-steps.ensures.steps ∙ ap (λ (j : JobOf). job_steps j.card j.shifts j.aod) c.in_ok-job.ensures in
    record {
      ok =
          goes_on_by c.args.self.now (record { todo = c.push.new.self }) (job_of a g) (job_fits a g (subst (AllByRecursion StepFits) steps c.steps-steps.ensures.fits))
          (c.in_ok-push.ensures.items ∙ ap (λ (j : JobOf). c.args.self.now.todo.items ++ Job j ∷ []) c.in_ok-job.ensures);
    }
