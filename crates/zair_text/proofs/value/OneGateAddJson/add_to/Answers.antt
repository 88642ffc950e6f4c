use Rattle.zair_text.proofs.Objects.{gate_added}
use Rattle.zair_text.proofs.value.OneGateAddJson.add_to.Goals as goal

pub returns : goal.returns
returns c = gate_added c.args.self.now _ _ _ _ _ _ _ c.from.ensures c.from-2.ensures c.in_ok-add_number.ensures c.in_ok-add_number-2.ensures c.in_ok-add_angles.ensures c.in_ok-push.ensures.items
