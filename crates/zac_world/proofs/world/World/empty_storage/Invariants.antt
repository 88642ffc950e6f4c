use Rattle.std.proofs.Common.{◌≡◌, map, filter}
use Rattle.std.specs.List.{range_with_len}
use Rattle.zac_arch.specs.declared.place.TrapId.{TrapId}
use Rattle.zac_world.specs.Places.{is_empty}
use Rattle.zac_world.proofs.world.World.empty_storage.Given as goal

-- the empty ones so far
abbrev pub invariant-loop-t : goal.invariant-loop-t
invariant-loop-t l =
    map (λ (t : TrapId). t.0) l.empty.items ≡ filter (is_empty l.self.traps) (range_with_len 0 l.t)
