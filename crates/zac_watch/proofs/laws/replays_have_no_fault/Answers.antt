use Rattle.zac_watch.proofs.NoFault.{only_memory}
use Rattle.zac_watch.proofs.laws.replays_have_no_fault.Goals as goal

pub returns : goal.returns
returns c = only_memory
