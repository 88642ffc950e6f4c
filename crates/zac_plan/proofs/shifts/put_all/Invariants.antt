use Rattle.std.proofs.Common.{◌≡◌, take}
use Rattle.zac_plan.specs.Plan.{after_shifts, places}
use Rattle.zac_plan.specs.Seats.{rests_in}
use Rattle.zac_plan.proofs.shifts.put_all.Given as goal

abbrev pub invariant-loop-shift : goal.invariant-loop-shift
invariant-loop-shift l = l.world ≡ places l.fn.world.architecture (after_shifts (rests_in l.fn.world) (take l.shift-index l.shifts))
