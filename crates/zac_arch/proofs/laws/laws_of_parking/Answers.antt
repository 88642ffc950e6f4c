use Rattle.zac_arch.proofs.Spacing.{corners_far, parked_beside_far}
use Rattle.zac_arch.proofs.laws.laws_of_parking.Goals as goal

pub returns : goal.returns
returns c = record {
  corners_apart = corners_far c.args.card.now c.figures-rules.ensures.rules;
  parked_apart = parked_beside_far c.args.card.now c.figures-rules.ensures.rules;
}
