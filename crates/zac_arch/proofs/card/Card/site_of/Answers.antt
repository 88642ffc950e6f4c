use Rattle.std.proofs.Common.{arith}
use Rattle.zac_arch.proofs.Walks.{site_of_trap}
use Rattle.zac_arch.proofs.card.Card.site_of.Goals as goal

pub returns : goal.returns
returns c =
    site_of_trap c.args.self.now c.args.t.0 c.storage_traps-storage.result c.storage_traps-storage.ensures (omega arith) c.requires
