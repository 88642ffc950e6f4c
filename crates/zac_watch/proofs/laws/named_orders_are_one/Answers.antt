use Rattle.zac_watch.proofs.OneOrder.{named_orders_same}
use Rattle.zac_watch.proofs.laws.named_orders_are_one.Goals as goal

pub returns : goal.returns
returns c = named_orders_same
