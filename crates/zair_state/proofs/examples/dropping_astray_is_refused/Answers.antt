use Rattle.zair_state.proofs.Refused.{astray}
use Rattle.zair_state.proofs.examples.dropping_astray_is_refused.Goals as goal

pub returns : goal.returns
returns c h = astray h.1.1.1.0
