use Rattle.std.proofs.Common.{◌≡◌, fold, set, take}
use Rattle.zac_sched.proofs.ends.mark_pairs.Given as goal

-- the ends so far
abbrev pub invariant-loop-pair : goal.invariant-loop-pair
invariant-loop-pair l = l.qubits ≡ fold (λ ends pair. set (set ends pair.a l.end) pair.b l.end) l.initial.qubits (take l.pair-index l.pairs)
