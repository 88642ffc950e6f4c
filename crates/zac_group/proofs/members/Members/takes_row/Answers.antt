use Rattle.std.proofs.Common.{◌↔◌, ℕ, IsTrue, List, ap, ◌∙◌, subst, sym}
use Rattle.zac_arch.specs.declared.card.Figures.{Figures}
use Rattle.zac_group.specs.declared.tracks.Track.{Track}
use Rattle.zac_group.specs.Members.{row}
use Rattle.zac_group.specs.Tracks.{AreRising, Takes}
use Rattle.zac_group.proofs.members.Members.takes_row.Goals as goal

pub takes-requires : goal.takes-requires
takes-requires c = subst (λ (l : List Track). AreRising l) (sym c.as_slice.ensures.value) c.requires.rows.rising

pub returns : goal.returns
returns c =
    let limit = c.from-most.ensures ∙ ap (λ (f : Figures). f.rows) c.figures.ensures.figures in
    subst (λ (l : List Track). IsTrue c.takes.result ↔ Takes l (row c.args.route) c.args.card.now.figures.rows) c.as_slice.ensures.value
    (subst (λ (t : Track). IsTrue c.takes.result ↔ Takes c.as_slice.result.now t c.args.card.now.figures.rows) c.row.ensures
    (subst (λ (m : ℕ). IsTrue c.takes.result ↔ Takes c.as_slice.result.now c.row.result m) limit c.takes.ensures))
