use Rattle.std.proofs.Common.{sym, ap, ◌∙◌}
use Rattle.std.proofs.lemmas.Bool.{false≢true}
use Rattle.zac_arch.specs.declared.card.Figures.{Figures}
use Rattle.zac_arch.proofs.Finding.{dark_more, all_dark}
use Rattle.zac_arch.proofs.Walks.{last_fits, counts_least}
use Rattle.zac_arch.proofs.card.Card.lit.Goals as goal

pub is_lit_by-requires-clause-x_fits : goal.is_lit_by-requires-clause-x_fits
is_lit_by-requires-clause-x_fits c =
    (last_fits c.args.self.now c.ruled_zones-zones.ensures.rules _ c.ruled_zones-zones.ensures.zones _ _ c.loop-zone-test.true).0

pub is_lit_by-requires-clause-y_fits : goal.is_lit_by-requires-clause-y_fits
is_lit_by-requires-clause-y_fits c =
    (last_fits c.args.self.now c.ruled_zones-zones.ensures.rules _ c.ruled_zones-zones.ensures.zones _ _ c.loop-zone-test.true).1

pub is_lit_by-requires-clause-column : goal.is_lit_by-requires-clause-column
is_lit_by-requires-clause-column c =
    (counts_least c.args.self.now c.ruled_zones-zones.ensures.rules _ c.ruled_zones-zones.ensures.zones _ _ c.loop-zone-test.true).0

pub is_lit_by-requires-clause-row : goal.is_lit_by-requires-clause-row
is_lit_by-requires-clause-row c =
    (counts_least c.args.self.now c.ruled_zones-zones.ensures.rules _ c.ruled_zones-zones.ensures.zones _ _ c.loop-zone-test.true).1

pub loop-zone-preserved : goal.loop-zone-preserved
loop-zone-preserved c =
    dark_more c.figures-radius.result.radius c.args.p c.ruled_zones-zones.result.now c.loop-zone.zone-index _ c.loop-zone-test.true c.loop-zone.invariant (λ lights. false≢true (sym c.if-is_lit_by.false ∙ c.is_lit_by.ensures.1 lights))

pub returns : goal.returns
returns c =
    (λ e. absurd (false≢true e), λ lit. absurd (all_dark c.args.self.now c.figures-radius.result.radius c.args.p c.ruled_zones-zones.result.now c.loop-zone.zone-index c.ruled_zones-zones.ensures.zones (ap (λ (f : Figures). f.radius) c.figures-radius.ensures.figures) c.loop-zone-test.false c.loop-zone.invariant lit))
