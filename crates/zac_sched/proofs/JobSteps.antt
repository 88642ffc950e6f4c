-- What the steps of an act are, and what they carry.
use Rattle.std.proofs.Common.{◌≡◌, ℕ, ◌⊎◌, inl, inr, true, List, [], ◌∷◌, refl, sym, ap, subst}
use Rattle.std.specs.List.{Contains}
use Rattle.zac_arch.specs.Architecture.{Architecture}
use Rattle.zair_form.specs.Steps.{has_own_steps, is_step_of, steps_of}
use Rattle.zair_form.specs.declared.program.Act.{Act}
use Rattle.zair_form.specs.declared.program.Act.TheVariants.{Init, Gates, Rydberg, Job, Readout}
use Rattle.zair_form.specs.declared.step.Caught.{Caught}
use Rattle.zair_form.specs.declared.step.Dropped.{Dropped}
use Rattle.zair_form.specs.declared.step.OneGate.{OneGate}
use Rattle.zair_form.specs.declared.step.Step.{Step}
use Rattle.zair_form.specs.declared.step.Step.TheVariants.{Activate, Move, Deactivate, One, Pulse}
use Rattle.zair_form.specs.declared.step.Step.TheVariants as kind
use Rattle.zair_state.specs.Resources.{Carries, Uses}
use Rattle.zair_state.specs.Resources.{Resource as resource}
use Rattle.zair_state.specs.Result.{after}
use Rattle.zair_state.specs.State.{State}
use Rattle.zair_state.specs.declared.place.Place.{Place}
use Rattle.zair_state.specs.declared.place.Place.TheVariants.{Trap, Held}
use Rattle.zair_state.proofs.Membership.{any_from_contained, contained_in_map, contains_cases, contains_none}
use Rattle.zac_sched.proofs.Writes.{own_step, places_set}

-- the step is one of a job, on its AOD, or leaves each state as it is
pub record IsOfJob (x : Act) (step : Step) : Type 0 where
  pub aod : ℕ
  pub steps : List Step
  pub is_job : x ≡ Job aod steps
  pub in_steps : Contains steps step
  pub own : is_step_of aod step ≡ true

-- the one step of a list
pub one_of : (h : Step) (step : Step) → Contains (h ∷ []) step → h ≡ step
one_of h step within = elim (contains_cases h step [] within) [ inl e ↦ e | inr later ↦ absurd (contains_none step later) ]

-- each step of an act is of one of these two kinds
pub job_or_still : (x : Act) (step : Step) → Contains (steps_of x) step → has_own_steps x ≡ true → IsOfJob x step ⊎ ((s : State) → after s step ≡ s)
job_or_still (Init homes) step within own = absurd (contains_none step within)
job_or_still (Gates ones) step within own =
    let gate = contained_in_map (λ (g : OneGate). One g) ones step within in
    inr (λ s. subst (λ (t : Step). after s t ≡ s) gate.2 refl)
job_or_still (Rydberg pairs) step within own = inr (λ s. subst (λ (t : Step). after s t ≡ s) (one_of (Pulse pairs) step within) refl)
job_or_still (Job aod steps) step within own = inl (record { aod = aod; steps = steps; is_job = refl; in_steps = within; own = own_step aod steps step own within })
job_or_still (Readout reads) step within own = inr (λ s. subst (λ (t : Step). after s t ≡ s) (one_of (kind.Readout reads) step within) refl)

-- each qubit whose place a step writes is one that it carries
pub places_carried : (step : Step) (w : ℕ × Place) → Contains (places_set step) w → Carries step w.0
places_carried (Activate aod rows columns atoms) w within =
    let c = contained_in_map (λ (c : Caught). (c.q, Held aod c.row c.column)) atoms w within in
    any_from_contained (λ (c : Caught). c.q ≡ w.0) atoms c.0 c.1 (ap (λ (p : ℕ × Place). p.0) c.2)
places_carried (Move aod rows columns) w within = contains_none w within
places_carried (Deactivate aod rows columns atoms) w within =
    let d = contained_in_map (λ (d : Dropped). (d.q, Trap d.trap)) atoms w within in
    any_from_contained (λ (d : Dropped). d.q ≡ w.0) atoms d.0 d.1 (ap (λ (p : ℕ × Place). p.0) d.2)
places_carried (One gate) w within = contains_none w within
places_carried (Pulse pairs) w within = contains_none w within
places_carried (kind.Readout reads) w within = contains_none w within

-- so a job uses these qubits, and its AOD
pub qubit_used : (a : Architecture) (x : Act) (step : Step) → (job : IsOfJob x step) → (w : ℕ × Place) → Contains (places_set step) w → Uses a x (resource.Qubit w.0)
qubit_used a x step job w within =
    subst (λ (act : Act). Uses a act (resource.Qubit w.0)) (sym job.is_job)
    (any_from_contained (λ (t : Step). Carries t w.0) job.steps step job.in_steps (places_carried step w within))

pub aod_used : (a : Architecture) (x : Act) (step : Step) → (job : IsOfJob x step) → Uses a x (resource.Aod job.aod)
aod_used a x step job = subst (λ (act : Act). Uses a act (resource.Aod job.aod)) (sym job.is_job) refl
