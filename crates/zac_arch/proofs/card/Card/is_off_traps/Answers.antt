use Rattle.std.proofs.Common.{sym, ap, ◌∙◌, refl}
use Rattle.std.proofs.lemmas.Bool.{false≢true}
use Rattle.zac_arch.specs.declared.card.Figures.{Figures}
use Rattle.zac_arch.proofs.Nearest.{off_more, off_every_trap, off_this_zone}
use Rattle.zac_arch.proofs.Walks.{last_fits, counts_least}
use Rattle.zac_arch.proofs.card.Card.is_off_traps.Goals as goal

pub is_off-requires-clause-x_fits : goal.is_off-requires-clause-x_fits
is_off-requires-clause-x_fits c =
    (last_fits c.args.self.now c.ruled_zones-zones.ensures.rules _ c.ruled_zones-zones.ensures.zones _ _ c.loop-zone-test.true).0

pub is_off-requires-clause-y_fits : goal.is_off-requires-clause-y_fits
is_off-requires-clause-y_fits c =
    (last_fits c.args.self.now c.ruled_zones-zones.ensures.rules _ c.ruled_zones-zones.ensures.zones _ _ c.loop-zone-test.true).1

pub is_off-requires-clause-column : goal.is_off-requires-clause-column
is_off-requires-clause-column c =
    (counts_least c.args.self.now c.ruled_zones-zones.ensures.rules _ c.ruled_zones-zones.ensures.zones _ _ c.loop-zone-test.true).0

pub is_off-requires-clause-row : goal.is_off-requires-clause-row
is_off-requires-clause-row c =
    (counts_least c.args.self.now c.ruled_zones-zones.ensures.rules _ c.ruled_zones-zones.ensures.zones _ _ c.loop-zone-test.true).1

pub returns-then-not-is_off : goal.returns-then-not-is_off
returns-then-not-is_off c = (
  λ e. absurd (false≢true e),
  λ off. absurd (false≢true (sym c.if-not-is_off.true ∙ c.is_off.ensures.1 (off_this_zone c.args.self.now c.figures-reach.result.reach c.args.p c.ruled_zones-zones.result.now c.loop-zone.zone-index _ c.ruled_zones-zones.ensures.zones (ap (λ (f : Figures). f.reach) c.figures-reach.ensures.figures) c.loop-zone-test.true off))),
)

pub loop-zone-preserved : goal.loop-zone-preserved
loop-zone-preserved c =
    off_more c.figures-reach.result.reach c.args.p c.ruled_zones-zones.result.now c.loop-zone.zone-index _ c.loop-zone-test.true c.loop-zone.invariant (c.is_off.ensures.0 c.if-not-is_off.false)

pub returns : goal.returns
returns c = (
  λ e. off_every_trap c.args.self.now c.figures-reach.result.reach c.args.p c.ruled_zones-zones.result.now c.loop-zone.zone-index c.ruled_zones-zones.ensures.zones (ap (λ (f : Figures). f.reach) c.figures-reach.ensures.figures) c.loop-zone-test.false c.loop-zone.invariant,
  λ off. refl,
)
