use Rattle.std.proofs.Common.{◌≡◌, ◌∙◌, ℕ, ◌*◌, [], length, map, ap, subst, sym}
use Rattle.zac_arch.specs.declared.card.Figures.{Figures}
use Rattle.zair_form.specs.declared.step.Step.TheVariants.{One}
use Rattle.zair_form.specs.Times.{LastTogether}
use Rattle.zac_watch.proofs.TimedFacts.{gates_together}
use Rattle.zac_watch.proofs.lengths.gates_last.Goals as goal

pub returns : goal.returns
returns c =
    let f = c.args.card.now.figures in
    let one : f.one ≡ c.from.result = sym (c.from.ensures ∙ ap (λ (g : Figures). g.one) c.figures.ensures.figures) in
    subst (λ (d : ℕ). LastTogether f [] (map (λ gate. One gate) c.args.ones.now) (length c.args.ones.now * d)) one (gates_together f [] c.args.ones.now)
