use Rattle.std.proofs.Common.{◌≡◌, ◌*◌, ◌≤◌, ◌^◌, take, sum_by}
use Rattle.zac_arch.specs.Architecture.{zone_sites}
use Rattle.zac_arch.proofs.counts.sites_in.Given as goal

abbrev pub invariant-loop-zone : goal.invariant-loop-zone
invariant-loop-zone l = record {
  so_far : l.count ≡ sum_by zone_sites (take l.zone-index l.zones);
  most : l.count ≤ l.zone-index * 2 ^ 64;
}
