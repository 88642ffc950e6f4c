-- Steps of acts that don't conflict lead to the same state in either order.
use Rattle.std.proofs.Common.{◌≡◌, ◌≢◌, ℕ, inl, inr, sym, ap, ◌∙◌, subst}
use Rattle.zac_arch.specs.Architecture.{Architecture}
use Rattle.zair_form.specs.declared.program.Act.{Act}
use Rattle.zair_form.specs.declared.step.Step.{Step}
use Rattle.zair_state.specs.Resources.{Conflict, Uses}
use Rattle.zair_state.specs.Resources.{Resource as resource}
use Rattle.zair_state.specs.Result.{after}
use Rattle.zair_state.specs.State.{State}
use Rattle.zac_sched.specs.Exchange.{IsTidyStep}
use Rattle.zac_sched.proofs.JobSteps.{aod_used, job_or_still, qubit_used}
use Rattle.zac_sched.proofs.Writes.{after_writes, stepped, stepped_apart}

pub same_state : (a : Architecture) (s : State) (x y : Act) (step next : Step) → ¬ Conflict a x y → IsTidyStep a s x step → IsTidyStep a (after s step) y next →
    after (after s next) step ≡ after (after s step) next
same_state a s x y step next apart first second = elim (job_or_still x step first.of_act first.own) [
  | inl job ↦ elim (job_or_still y next second.of_act second.own) [
    | inl other ↦
        let ne : job.aod ≢ other.aod = λ e. apart (resource.Aod job.aod, aod_used a x step job, subst (λ (n : ℕ). Uses a y (resource.Aod n)) (sym e) (aod_used a y next other)) in
        after_writes job.aod (after s next) step job.own
        ∙ ap (stepped job.aod step) (after_writes other.aod s next other.own)
        ∙ stepped_apart job.aod other.aod step next s ne (λ w v in_step in_next e.
        apart (resource.Qubit w.0, qubit_used a x step job w in_step, subst (λ (n : ℕ). Uses a y (resource.Qubit n)) (sym e) (qubit_used a y next other v in_next)))
        ∙ sym (after_writes other.aod (after s step) next other.own ∙ ap (stepped other.aod next) (after_writes job.aod s step job.own))
    | inr still ↦ ap (λ (t : State). after t step) (still s) ∙ sym (still (after s step))
  ]
  | inr still ↦ still (after s next) ∙ ap (λ (t : State). after t next) (sym (still s))
]
