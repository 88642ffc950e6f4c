use Rattle.std.proofs.Common.{◌≡◌, fold, set, take}
use Rattle.zac_sched.proofs.ends.mark_gates.Given as goal

-- the ends so far
abbrev pub invariant-loop-gate : goal.invariant-loop-gate
invariant-loop-gate l = l.qubits ≡ fold (λ ends gate. set ends gate.q l.end) l.initial.qubits (take l.gate-index l.ones)
