use Rattle.std.proofs.Common.{ℕ, ◌<◌, ◌^◌, get_or}
use Rattle.zac_group.specs.declared.shift.Shift.{Shift}
use Rattle.zac_aod.proofs.lowering.qubits_fit.Given as goal

abbrev pub invariant-loop-shift : goal.invariant-loop-shift
invariant-loop-shift l = (k : ℕ) (d : Shift) → k < l.shift-index → (get_or l.shifts k d).q < 2 ^ 32
