use Rattle.std.proofs.Common.{◌≡◌, ◌≤◌, take}
use Rattle.std.specs.List.{AllByRecursion}
use Rattle.std.specs.Vec.{vec_len}
use Rattle.zac_plan.specs.Plan.{pairs_at}
use Rattle.zair_form.specs.Ranges.{PairFits}
use Rattle.zac_plan.proofs.slots.pairs_at.Given as goal

abbrev pub invariant-loop-number : goal.invariant-loop-number
invariant-loop-number l = record {
  pairs : l.pairs.items ≡ pairs_at l.ops (take l.number-index l.numbers);
  fit : AllByRecursion PairFits l.pairs.items;
  most : vec_len l.pairs ≤ l.number-index;
}
