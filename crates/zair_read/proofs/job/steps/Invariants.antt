use Rattle.std.proofs.Common.{◌≡◌, ◌∷◌, ◌++◌, length}
use Rattle.std.specs.List.{AllByRecursion}
use Rattle.zair_text.specs.Values.{step_value}
use Rattle.zair_read.specs.Compact.{IsOwnStep}
use Rattle.zair_read.proofs.CompactParts.{opened}
use Rattle.zair_read.proofs.job.steps.Given as goal

abbrev pub invariant-items : goal.invariant-items
invariant-items l = (l.fn.bytes ≡ 91 ∷ (opened step_value l.items.items ++ l.rest)) × AllByRecursion (IsOwnStep l.fn.aod) l.items.items

abbrev pub decreases-items : goal.decreases-items
decreases-items l = length l.rest
