use Rattle.std.proofs.Common.{◌≡◌, take}
use Rattle.zac_plan.specs.Plan.{new_gates}
use Rattle.zac_plan.specs.Seats.{rests_in}
use Rattle.zac_plan.proofs.seating.new_gates.Given as goal

-- the new gates so far
abbrev pub invariant-loop-pair : goal.invariant-loop-pair
invariant-loop-pair l = l.new.items ≡ new_gates l.card (rests_in l.world) (take l.pair-index l.pairs)
