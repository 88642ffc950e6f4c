use Rattle.std.proofs.Common.{◌∙◌, ap, take, arith, rules, vec_len, length, ◌≡◌}
use Rattle.zac_io.proofs.Filling.{filled_on}
use Rattle.zac_io.proofs.reading.read_left.Goals as goal

pub loop-filled-preserved : goal.loop-filled-preserved
loop-filled-preserved g c =
    let before = c.loop-filled.invariant in
    let read = c.in_ok-count.ensures in
    let long : length c.read_behind.new.buffer ≡ vec_len c.make_room.new.buffer = search rules in (
      omega (arith, read.fits, long),
      omega (arith, c.in_ok-make_room.ensures.at_most),
      filled_on _ _ _ _ _ _ _ _ _ _ _ before.3 before.2 (read.front ∙ ap (take c.loop-filled.filled) c.deref_mut.ensures.value ∙ c.in_ok-make_room.ensures.front) read.bytes long,
      read.same_files ∙ before.3,
      read.same_strays ∙ before.4,
      read.cause ∙ before.5,
    )
