use Rattle.std.proofs.Common.{ℕ, ◌<◌, get_or}
use Rattle.zac_place.specs.Judged.{IsBounded}
use Rattle.zac_place.specs.declared.judge.Row.{Row}
use Rattle.zac_place.proofs.judge.is_bounded.Given as goal

-- the price is bounded by the rows so far
abbrev pub invariant-loop-other : goal.invariant-loop-other
invariant-loop-other l = (k : ℕ) (d : Row) → k < l.other-index → IsBounded l.row (get_or l.rows k d)
