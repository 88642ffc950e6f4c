use Rattle.std.proofs.Common.{◌≤◌, subst}
use Rattle.zac_arch.specs.declared.card.Figures.{Figures}
use Rattle.zair_state.proofs.MadeLegal.{made_legal}
use Rattle.zair_state.proofs.NothingBroken.{unbroken}
use Rattle.zair_state.proofs.laws.faults_tell_legal_steps.Goals as goal

pub returns-clause-legal : goal.returns-clause-legal
returns-clause-legal c s step legal =
    unbroken c.args.card.now s (subst (λ (f : Figures). 1 ≤ f.gap) c.figures-figures.ensures.figures c.figures-figures.ensures.ranges.gap_least) c.laws_of_traps.ensures.one_trap step legal

pub returns-clause-unbroken : goal.returns-clause-unbroken
returns-clause-unbroken c s step none = made_legal c.args.card.now s step none
