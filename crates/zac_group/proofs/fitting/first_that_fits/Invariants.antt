use Rattle.std.proofs.Common.{ℕ, ◌<◌}
use Rattle.zac_group.specs.FirstFit.{Fits}
use Rattle.zac_group.specs.Fitting.{shifts_at}
use Rattle.zac_group.proofs.fitting.first_that_fits.Given as goal

abbrev pub invariant-loop-number : goal.invariant-loop-number
invariant-loop-number l = (n : ℕ) → n < l.number → ¬ Fits l.card (shifts_at l.groups n) l.route.shift
