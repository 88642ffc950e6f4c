use Rattle.std.proofs.Common.{◌≡◌, ℕ, take}
use Rattle.std.specs.BTreeSet.{contains}
use Rattle.std.specs.Ordering.{nat_cmp}
use Rattle.zac_plan.specs.Plan.{stays}
use Rattle.zac_plan.proofs.returning.staying.Given as goal

abbrev pub invariant-loop-first : goal.invariant-loop-first
invariant-loop-first l = (q : ℕ) → contains nat_cmp l.staying q ≡ stays l.ops (take l.first-index l.kept) q
