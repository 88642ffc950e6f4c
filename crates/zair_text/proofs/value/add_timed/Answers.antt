use Rattle.zair_text.proofs.Objects.{timed_added}
use Rattle.zair_text.proofs.value.add_timed.Goals as goal

pub returns : goal.returns
returns g c = timed_added _ _ _ _ _ _ _ _ _ _ c.in_ok-add_number.ensures c.in_ok-add_number-2.ensures c.in_ok-add_list.ensures c.in_ok-extend_from_slice.ensures.items
