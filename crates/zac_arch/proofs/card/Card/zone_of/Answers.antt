use Rattle.std.proofs.Common.{subst, arith}
use Rattle.zac_arch.specs.Rules.{KeepsRules}
use Rattle.zac_arch.proofs.Walks.{zones_most}
use Rattle.zac_arch.proofs.card.Card.zone_of.Goals as goal

pub overflow_cast-result : goal.overflow_cast-result
overflow_cast-result c =
    omega (arith, c.place_of.ensures.zone_in, zones_most c.args.self.now (subst KeepsRules c.self.view_is c.self.invariant))
