use Rattle.std.proofs.Common.{refl, arith, lit≤}
use Rattle.zac_arch.specs.Distances.{IsMoveTime}
use Rattle.zair_state.proofs.MoveTimes.{move_time}
use Rattle.zair_state.proofs.Parking.{catches_lower, parks_lower, catches_upper, flies, drops_lower, lowers_upper, drops_upper}
use Rattle.zair_state.proofs.examples.parking_is_legal.Goals as goal

pub returns-clause-run : goal.returns-clause-run
returns-clause-run c = (catches_lower, (parks_lower, (catches_upper, (flies, (drops_lower, (lowers_upper, (drops_upper, tt)))))))

parks : IsMoveTime 2750 10 10 22678
parks = move_time 2750 10 10 22677 (lit≤ tt) (λ e. absurd (omega arith))

flies_for : IsMoveTime 2750 20 210 87584
flies_for = move_time 2750 20 210 87583 (lit≤ tt) (λ e. absurd (omega arith))

lowers : IsMoveTime 2750 0 10 19070
lowers = move_time 2750 0 10 19069 (lit≤ tt) (λ e. absurd (omega arith))

pub returns-clause-length : goal.returns-clause-length
returns-clause-length c = (
  189332,
  refl,
  (
    15000,
    174332,
    refl,
    refl,
    (
      22678,
      151654,
      refl,
      parks,
      (
        15000,
        136654,
        refl,
        refl,
        (87584, 49070, refl, flies_for, (15000, 34070, refl, refl, (19070, 15000, refl, lowers, (15000, 0, refl, refl, refl)))),
      ),
    ),
  ),
)
