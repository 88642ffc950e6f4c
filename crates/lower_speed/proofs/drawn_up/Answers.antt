use Rattle.std.proofs.Common.{◌+◌, refl}
use Rattle.zac_group.specs.declared.shift.Shift.{Shift}
use Rattle.lower_speed.proofs.MovesFacts.{moves_push}
use Rattle.lower_speed.proofs.drawn_up.Goals as goal

pub loop-k-preserved : goal.loop-k-preserved
loop-k-preserved c =
    let k = c.loop-k.k in
    let s : Shift = record { q = k; from = record { 0 = k }; to = record { 0 = c.args.traps + k } } in
    moves_push c.args.traps k c.loop-k.shifts.items c.push.new.self.items s c.loop-k.invariant refl refl refl c.in_ok-push.ensures.items
