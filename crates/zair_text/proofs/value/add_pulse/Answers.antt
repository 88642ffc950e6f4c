use Rattle.std.proofs.lemmas.Result.{on_ok_weaker}
use Rattle.serde_json.proofs.OnLiterals.{serde_json_on_literals}
use Rattle.zair_text.proofs.value.add_pulse.Goals as goal

pub returns : goal.returns
unfolding serde_json_on_literals
returns c = on_ok_weaker c.add_timed.result (λ h. record { text = h.text; small = (h.first, (h.second, (h.small, (tt, tt)))) }) c.add_timed.ensures
