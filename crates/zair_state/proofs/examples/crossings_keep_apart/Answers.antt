use Rattle.zair_state.proofs.Beside.{beside, near}
use Rattle.zair_state.proofs.examples.crossings_keep_apart.Goals as goal

pub returns : goal.returns
returns c = record { beside = beside; near = near }
