use Rattle.std.proofs.Common.{◌≡◌, ◌<◌, ◌^◌, List, [], length, sym, ap, subst, ◌∙◌, arith}
use Rattle.std.specs.List.{All, AllByRecursion}
use Rattle.zac_arch.specs.Architecture.{Architecture}
use Rattle.zac_group.specs.Groups.{IsGroup, MoveGroup}
use Rattle.zac_group.specs.declared.shift.Shift.{Shift}
use Rattle.zair_form.specs.Ranges.{StepFits}
use Rattle.zair_form.specs.Times.{LastTogether}
use Rattle.zair_form.specs.declared.step.Step.{Step}
use Rattle.zac_aod.specs.Lines.{rows_of}
use Rattle.zac_aod.specs.Lowering.{job_steps}
use Rattle.zac_aod.specs.Soundness.{IsSoundJob}
use Rattle.zac_aod.specs.declared.line.Line.{Line}
use Rattle.zac_aod.proofs.Durations.{steps_length}
use Rattle.zac_aod.proofs.Grids.{same_grid}
use Rattle.zac_aod.proofs.lowering.lower.Goals as goal

pub grid-requires : goal.grid-requires
grid-requires c =
    let card : c.args.group.now.card ≡ c.in_ok-layout.layout.card.now = c.requires ∙ sym c.in_ok-layout.ensures.card in
    let shifts : c.args.group.now.shifts ≡ c.in_ok-layout.layout.shifts.now = sym c.shifts-shifts.ensures.shifts ∙ sym c.in_ok-layout.ensures.shifts in
    subst (λ (g : MoveGroup). IsGroup g) (λ i. record { card = card i; shifts = shifts i }) c.shifts-shifts.ensures.group

pub duration-duration-requires : goal.duration-duration-requires
duration-duration-requires c =
    let a : Architecture = c.in_ok-layout.layout.card.now in
    let shifts : List Shift = c.in_ok-layout.layout.shifts.now in
    let steps : length c.as_slice.result.now ≡ length (job_steps a shifts 0) = ap (λ (ss : List Step). length ss) (c.as_slice.ensures.value ∙ c.in_ok-steps.ensures) in
    let rows : length c.in_ok-layout.layout.rows.items ≡ length (rows_of a shifts) = ap (λ (ls : List Line). length ls) c.in_ok-layout.layout.rows_are in
    let few = c.in_ok-layout.layout.few_rows in
    let most = steps_length a shifts 0 in
    omega arith

pub invariant_of-result : goal.invariant_of-result
invariant_of-result c =
    let a : Architecture = c.args.card.now in
    let shifts : List Shift = c.of.result in
    let read : c.of.result ≡ c.shifts-shifts.result.now = c.of.ensures ∙ c.in_ok-from_slice.ensures.items in
    let own : c.args.group.now.shifts ≡ shifts = sym c.shifts-shifts.ensures.shifts ∙ sym read in
    let group : IsGroup (record { card = a; shifts = shifts }) =
    subst (λ (g : MoveGroup). IsGroup g) (λ i. record { card = c.requires i; shifts = own i }) c.shifts-shifts.ensures.group in
    let there : c.in_ok-layout.layout.shifts.now ≡ shifts = c.in_ok-layout.ensures.shifts ∙ sym read in
    let steps : c.in_ok-steps.steps.items ≡ job_steps a shifts 0 = c.in_ok-steps.ensures ∙ (λ i. job_steps (c.in_ok-layout.ensures.card i) (there i) 0) in
    let lasts : LastTogether a.figures [] c.in_ok-steps.steps.items c.duration-duration.result =
    subst (λ (ss : List Step). LastTogether a.figures [] ss c.duration-duration.result) c.as_slice.ensures.value c.duration-duration.ensures in
    record {
      group = group;
      steps_are = steps;
      grid_is = same_grid c.in_ok-layout.layout.card.now a c.in_ok-layout.layout.shifts.now shifts c.in_ok-grid.grid.items c.of-2.result c.in_ok-layout.ensures.card there (sym c.of-2.ensures) c.in_ok-grid.ensures;
      sound = subst (λ (ss : List Step). IsSoundJob a shifts 0 ss) (sym steps) (c.jobs_are_sound.ensures.sound shifts 0 group);
      fits = subst (λ (ss : List Step). AllByRecursion StepFits ss) (sym steps) (c.job_limits.ensures.fits shifts 0 group (omega arith) (subst (λ (ss : List Shift). All (λ (s : Shift). s.q < 2 ^ 32) ss) (sym read) c.qubits_fit.ensures));
      lasts = lasts;
      quick = c.job_limits.ensures.quick shifts 0 c.duration-duration.result group (subst (λ (ss : List Step). LastTogether a.figures [] ss c.duration-duration.result) steps lasts);
    }
