use Rattle.zac_arch.proofs.Geometry.{trap_count_is, one_trap, on_the_field, storage_dark, entangling_lit, site_within, one_site}
use Rattle.zac_arch.proofs.Spacing.{traps_far}
use Rattle.zac_arch.proofs.laws.laws_of_traps.Goals as goal

pub returns : goal.returns
returns c = record {
  counts = trap_count_is c.args.card.now c.figures-rules.ensures.rules;
  one_trap = one_trap c.args.card.now c.figures-rules.ensures.rules;
  apart = traps_far c.args.card.now c.figures-rules.ensures.rules;
  on_the_field = on_the_field c.args.card.now c.figures-rules.ensures.rules;
  storage_dark = storage_dark c.args.card.now c.figures-rules.ensures.rules;
  sites_lit = entangling_lit c.args.card.now c.figures-rules.ensures.rules;
  site_within = site_within c.args.card.now c.figures-rules.ensures.rules;
  one_site = one_site c.args.card.now c.figures-rules.ensures.rules;
}
