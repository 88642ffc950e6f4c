use Rattle.std.proofs.Common.{◌+◌, ap, refl}
use Rattle.zac_group.specs.declared.shift.Shift.{Shift}
use Rattle.group_speed.proofs.MovesFacts.{moves_push}
use Rattle.group_speed.proofs.drawn_up.Goals as goal

pub loop-k-preserved : goal.loop-k-preserved
loop-k-preserved c =
    let k = c.loop-k.k in
    let s : Shift = record { q = k; from = record { 0 = k }; to = record { 0 = 2048 + c.place_of.result } } in
    moves_push c.args.turned c.args.count k c.loop-k.shifts.items c.push.new.self.items s c.loop-k.invariant refl refl
    (ap (λ n. 2048 + n) c.place_of.ensures.place) c.in_ok-push.ensures.items
