use Rattle.std.proofs.Common.{◌≡◌, length, take}
use Rattle.std.specs.Vec.{vec_len}
use Rattle.zac_plan.specs.Plan.{shifts_to}
use Rattle.zac_plan.specs.Seats.{rests_in}
use Rattle.zac_plan.proofs.shifts.shifts_to.Given as goal

abbrev pub invariant-loop-q : goal.invariant-loop-q
invariant-loop-q l = record {
  shifts : l.shifts.items ≡ shifts_to (rests_in l.world) (take (length l.yielded) l.qubits) (take (length l.yielded) l.traps);
  number : vec_len l.shifts ≡ length l.yielded;
}
