use Rattle.std.proofs.Common.{◌↔◌, ℕ, IsTrue, List, ap, ◌∙◌, subst, sym}
use Rattle.zac_arch.specs.declared.card.Figures.{Figures}
use Rattle.zac_group.specs.declared.tracks.Track.{Track}
use Rattle.zac_group.specs.Members.{column}
use Rattle.zac_group.specs.Tracks.{AreRising, Takes}
use Rattle.zac_group.proofs.members.Members.takes_column.Goals as goal

pub takes-requires : goal.takes-requires
takes-requires c = subst (λ (l : List Track). AreRising l) (sym c.as_slice.ensures.value) c.requires.columns.rising

pub returns : goal.returns
returns c =
    let limit = c.from-most.ensures ∙ ap (λ (f : Figures). f.columns) c.figures.ensures.figures in
    subst (λ (l : List Track). IsTrue c.takes.result ↔ Takes l (column c.args.route) c.args.card.now.figures.columns) c.as_slice.ensures.value
    (subst (λ (t : Track). IsTrue c.takes.result ↔ Takes c.as_slice.result.now t c.args.card.now.figures.columns) c.column.ensures
    (subst (λ (m : ℕ). IsTrue c.takes.result ↔ Takes c.as_slice.result.now c.column.result m) limit c.takes.ensures))
