use Rattle.zair_text.proofs.Objects.{move_added}
use Rattle.zair_text.proofs.value.add_move.Goals as goal

pub returns : goal.returns
returns c = move_added c.args.rows.now c.args.columns.now _ _ _ _ c.in_ok-add_list.ensures c.in_ok-add_list-2.ensures c.in_ok-extend_from_slice.ensures.items
