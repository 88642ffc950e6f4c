use Rattle.zair_text.proofs.Adding.{items_added}
use Rattle.zair_text.proofs.value.add_some.Goals as goal

pub returns : goal.returns
returns g c = items_added _ _ _ _ _ _ _ c.in_ok-push.ensures.items c.in_ok-add_to.ensures c.in_ok-add_later.ensures c.in_ok-push-2.ensures.items
