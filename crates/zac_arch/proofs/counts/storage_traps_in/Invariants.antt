use Rattle.std.proofs.Common.{◌≡◌, ◌*◌, ◌≤◌, ◌^◌, take, sum_by}
use Rattle.zac_arch.proofs.Walks.{storage_part}
use Rattle.zac_arch.proofs.counts.storage_traps_in.Given as goal

abbrev pub invariant-loop-zone : goal.invariant-loop-zone
invariant-loop-zone l = record {
  so_far : l.count ≡ sum_by storage_part (take l.zone-index l.zones);
  most : l.count ≤ l.zone-index * 2 ^ 64;
}
