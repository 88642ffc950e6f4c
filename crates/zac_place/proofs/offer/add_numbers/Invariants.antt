use Rattle.std.proofs.Common.{◌≡◌, ◌++◌, map, take}
use Rattle.zac_arch.specs.declared.place.TrapId.{TrapId}
use Rattle.zac_place.proofs.offer.add_numbers.Given as goal

-- the numbers of the traps so far are added
abbrev pub invariant-loop-trap : goal.invariant-loop-trap
invariant-loop-trap l = l.numbers.items ≡ l.fn.numbers.items ++ map (λ (t : TrapId). t.0) (take l.trap-index l.traps)
