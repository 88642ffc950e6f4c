use Rattle.std.proofs.Common.{◌≡◌, take}
use Rattle.std.specs.List.{flat_map}
use Rattle.zac_plan.specs.Plan.{completing, held_gates}
use Rattle.zac_plan.specs.Seats.{rests_in}
use Rattle.zac_plan.proofs.seating.complete_held.Given as goal

-- what completes the held gates so far
abbrev pub invariant-loop-pair : goal.invariant-loop-pair
invariant-loop-pair l =
    l.shifts.items ≡ flat_map (completing l.card (rests_in l.world)) (held_gates l.card (rests_in l.world) (take l.pair-index l.pairs))
