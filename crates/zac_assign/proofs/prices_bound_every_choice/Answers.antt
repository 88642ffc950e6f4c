use Rattle.zac_assign.proofs.Bound.{IsLeast-from_prices}
use Rattle.zac_assign.proofs.prices_bound_every_choice.Goals as goal

pub returns : goal.returns
returns c = IsLeast-from_prices
