use Rattle.std.proofs.Common.{◌≡◌, fold, set, take}
use Rattle.zac_sched.proofs.ends.mark_traps.Given as goal

-- the ends so far
abbrev pub invariant-loop-trap : goal.invariant-loop-trap
invariant-loop-trap l = l.traps ≡ fold (λ ends trap. set ends trap.0 l.end) l.initial.traps (take l.trap-index l.grid)
