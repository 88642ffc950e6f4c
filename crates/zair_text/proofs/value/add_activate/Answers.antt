use Rattle.zair_text.proofs.Objects.{activate_added}
use Rattle.zair_text.proofs.value.add_activate.Goals as goal

pub returns : goal.returns
returns c = activate_added c.args.rows.now c.args.columns.now c.args.atoms.now _ _ _ _ _ c.in_ok-add_list.ensures c.in_ok-add_list-2.ensures c.in_ok-add_list-3.ensures c.in_ok-extend_from_slice.ensures.items
