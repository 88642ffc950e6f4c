use Rattle.std.proofs.Common.{◌≡◌, List, [], map, ap, sym, ◌∙◌, subst, arith}
use Rattle.std.specs.List.{AllByRecursion}
use Rattle.zac_aod.specs.Soundness.{IsSoundJob}
use Rattle.zair_form.specs.Ranges.{StepFits}
use Rattle.zair_form.specs.Times.{LastTogether}
use Rattle.zair_form.specs.declared.step.Step.{Step}
use Rattle.zac_aod.specs.Aods.{step_on}
use Rattle.zac_aod.specs.Lowering.{job_steps}
use Rattle.zac_aod.proofs.OtherAods.{job_on, fits_on, together_on}
use Rattle.zac_aod.proofs.job.Job.on.Goals as goal

steps_are : (c : goal.After-self-1) → c.all_on.new.steps.items ≡ job_steps c.self.inside.card.now c.self.inside.shifts c.args.aod
steps_are c =
    c.all_on.ensures ∙ ap (λ (l : List Step). map (step_on c.args.aod) l) c.self.invariant.steps_are
    ∙ job_on c.self.inside.card.now c.self.inside.shifts c.self.inside.aod c.args.aod

pub invariant_of-self : goal.invariant_of-self
invariant_of-self c = record {
  group = c.self.invariant.group;
  steps_are = steps_are c;
  grid_is = c.self.invariant.grid_is;
  sound = subst (λ (l : List Step). IsSoundJob c.self.inside.card.now c.self.inside.shifts c.args.aod l) (sym (steps_are c))
      (c.jobs_are_sound.ensures.sound c.self.inside.shifts c.args.aod c.self.invariant.group);
  fits = subst (λ (l : List Step). AllByRecursion StepFits l) (sym c.all_on.ensures) (fits_on c.args.aod c.self.inside.steps.items (omega (arith, c.ranges.aod.fits)) c.self.invariant.fits);
  lasts = subst (λ (l : List Step). LastTogether c.self.inside.card.now.figures [] l c.self.inside.duration) (sym c.all_on.ensures)
      (together_on c.self.inside.card.now.figures c.args.aod [] c.self.inside.steps.items c.self.inside.duration c.self.invariant.lasts);
  quick = c.self.invariant.quick;
}
