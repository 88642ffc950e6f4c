use Rattle.std.proofs.Common.{◌≡◌, ◌*◌, ◌≤◌, arith}
use Rattle.std.proofs.lemmas.Nat.{mul-le}
use Rattle.zac_arch.proofs.Roots.{least_root}
use Rattle.zac_arch.proofs.duration.least_time.Goals as goal

pub returns : goal.returns
returns c =
    let same : c.loop-low.high ≡ c.loop-low.low = omega arith in
    let high : c.div_ceil-wanted.result ≤ c.loop-low.low * c.loop-low.low * (c.loop-low.low * c.loop-low.low) = rw same at c.loop-low.invariant.high_is_enough in
    least_root c.args.accel c.args.dx c.args.dy c.div_ceil-wanted.result c.loop-low.low (omega (arith, mul-le 1 1 c.args.accel c.args.accel (omega arith) (omega arith))) (rw (← c.from-accel.ensures, ← c.from-dx.ensures, ← c.from-dy.ensures) c.div_ceil-wanted.ensures) high c.loop-low.invariant.below_is_short
