use Rattle.zac_watch.proofs.NoFault.{performing_replays}
use Rattle.zac_watch.proofs.laws.performing_programs_replay.Goals as goal

pub returns : goal.returns
returns c = performing_replays
