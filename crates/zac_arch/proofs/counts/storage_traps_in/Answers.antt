use Rattle.zac_arch.proofs.Walks.{storage_total}
use Rattle.zac_arch.proofs.counts.storage_traps_in.Goals as goal

pub returns : goal.returns
returns c =
    storage_total c.args.zones.now c.loop-zone.zone-index c.loop-zone.count c.loop-zone-test.false c.loop-zone.invariant.so_far
