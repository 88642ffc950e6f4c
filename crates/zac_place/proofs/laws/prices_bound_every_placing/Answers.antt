use Rattle.zac_place.proofs.PlacingFacts.{IsLeastPlacing-from_prices}
use Rattle.zac_place.proofs.laws.prices_bound_every_placing.Goals as goal

pub returns : goal.returns
returns c = IsLeastPlacing-from_prices
