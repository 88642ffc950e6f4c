use Rattle.std.proofs.Common.{◌≤◌, subst}
use Rattle.zac_arch.specs.declared.card.Figures.{Figures}
use Rattle.zair_state.proofs.Soundness.{step_sound, run_sound}
use Rattle.zair_state.proofs.laws.legal_steps_keep_states_sound.Goals as goal

pub returns : goal.returns
returns c = record {
  one = step_sound c.args.card.now (subst (λ (f : Figures). 1 ≤ f.gap) c.figures-figures.ensures.figures c.figures-figures.ensures.ranges.gap_least) c.laws_of_traps.ensures.one_trap;
  all = run_sound c.args.card.now (subst (λ (f : Figures). 1 ≤ f.gap) c.figures-figures.ensures.figures c.figures-figures.ensures.ranges.gap_least) c.laws_of_traps.ensures.one_trap;
}
