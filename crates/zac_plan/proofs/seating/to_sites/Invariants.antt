use Rattle.std.proofs.Common.{◌≡◌, ◌++◌, length, take}
use Rattle.zac_plan.specs.Plan.{to_sites}
use Rattle.zac_plan.specs.Seats.{rests_in}
use Rattle.zac_plan.proofs.seating.to_sites.Given as goal

-- the moves of the gates so far are added
abbrev pub invariant-loop-pair : goal.invariant-loop-pair
invariant-loop-pair l =
    l.shifts.items ≡ l.fn.shifts.items
    ++ to_sites l.card (rests_in l.world) (take (length l.yielded) l.new) (take (length l.yielded) l.sites)
