use Rattle.std.proofs.Common.{◌≤◌, subst}
use Rattle.zac_arch.specs.declared.card.Figures.{Figures}
use Rattle.zair_state.proofs.SoundDeactivate.{all_land_empty}
use Rattle.zair_state.proofs.laws.drops_find_empty_traps.Goals as goal

pub returns : goal.returns
returns c s aod rows columns atoms sound legal =
    all_land_empty c.args.card.now s aod rows columns atoms (subst (λ (f : Figures). 1 ≤ f.gap) c.figures-figures.ensures.figures c.figures-figures.ensures.ranges.gap_least) c.laws_of_traps.ensures.one_trap sound legal
