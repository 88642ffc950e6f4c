use Rattle.std.proofs.Common.{◌≡◌, fold, set, take}
use Rattle.zac_sched.proofs.ends.mark_moves.Given as goal

-- the ends so far
abbrev pub invariant-loop-shift : goal.invariant-loop-shift
invariant-loop-shift l = l.qubits ≡ fold (λ ends shift. set ends shift.q l.end) l.initial.qubits (take l.shift-index l.shifts)
