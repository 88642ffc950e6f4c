use Rattle.std.proofs.Common.{ℕ, ◌<◌, get_or}
use Rattle.zac_place.specs.Judged.{IsJudged}
use Rattle.zac_place.specs.declared.judge.Row.{Row}
use Rattle.zac_place.proofs.judge.are_judged.Given as goal

-- the rows so far are judged well
abbrev pub invariant-loop-row : goal.invariant-loop-row
invariant-loop-row l = (k : ℕ) (d : Row) → k < l.row-index → IsJudged l.rows (get_or l.rows k d)
