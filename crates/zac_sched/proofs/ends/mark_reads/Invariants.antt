use Rattle.std.proofs.Common.{◌≡◌, fold, set, take}
use Rattle.zac_sched.proofs.ends.mark_reads.Given as goal

-- the ends so far
abbrev pub invariant-loop-read : goal.invariant-loop-read
invariant-loop-read l = l.qubits ≡ fold (λ ends read. set ends read.q l.end) l.initial.qubits (take l.read-index l.reads)
