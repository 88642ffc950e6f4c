use Rattle.std.proofs.Common.{◌≡◌, filter, map}
use Rattle.std.specs.List.{range_with_len}
use Rattle.zac_arch.specs.declared.place.SiteId.{SiteId}
use Rattle.zac_plan.specs.Plan.{is_free}
use Rattle.zac_plan.specs.Seats.{rests_in}
use Rattle.zac_plan.proofs.seating.free_sites.Given as goal

-- the free sites so far
abbrev pub invariant-loop-site : goal.invariant-loop-site
invariant-loop-site l =
    map (λ (s : SiteId). s.0) l.free.items ≡ filter (is_free l.card (rests_in l.world)) (range_with_len 0 l.site)
