use Rattle.zac_arch.proofs.Spacing.{one_zone, crossing_trap, x_steps, y_steps}
use Rattle.zac_arch.proofs.ZoneKinds.{one_kind}
use Rattle.zac_arch.proofs.laws.laws_of_zones.Goals as goal

pub returns : goal.returns
returns c = record {
  one_zone = one_zone c.args.card.now;
  one_kind = one_kind c.args.card.now c.figures-rules.ensures.rules;
  grid = crossing_trap c.args.card.now;
  columns = λ zone t u p q i j s r lt. (x_steps c.args.card.now c.figures-rules.ensures.rules zone t u p q i j s r lt).room;
  rows = λ zone t u p q i j s r lt. (y_steps c.args.card.now c.figures-rules.ensures.rules zone t u p q i j s r lt).room;
}
